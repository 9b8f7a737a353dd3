use Rattle.std.proofs.Common.{◌++◌, ◌∙◌, ap, append_assoc, codes, string_bytes}
use Rattle.std.proofs.lemmas.Result.{on_ok_weaker}
use Rattle.osn_pages.specs.Words.{empty_year_line}
use Rattle.osn_pages.proofs.why.push_no_year.Goals as goal

pub returns : goal.returns
returns c =
    on_ok_weaker c.push_empty_year.result (λ e. e
    ∙ ap (λ s. s ++ empty_year_line c.args.year) c.in_ok-push_str.ensures.bytes
    ∙ append_assoc (string_bytes c.args.out.now) (codes "no such date in that year: ")
    (empty_year_line c.args.year))
    c.push_empty_year.ensures
