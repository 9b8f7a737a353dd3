use Rattle.std.proofs.Common.{◌++◌, ◌∙◌, ap, codes, string_bytes}
use Rattle.std.proofs.lemmas.Result.{on_ok_weaker}
use Rattle.std.specs.Fmt.{decimal}
use Rattle.osn_pages.specs.Almanac as spec
use Rattle.osn_pages.proofs.figures.push_julian.Goals as goal

pub returns : goal.returns
unfolding spec.julian_line
returns c =
    rw (← c.julian_epact-epact.ensures)
    (on_ok_weaker c.writeln.result (λ h. h ∙ ap (λ t. string_bytes c.args.out.now
    ++ (codes "Julian epact " ++ (decimal c.julian_epact-epact.result
    ++ (codes ", Sunday letter " ++ (t ++ codes "\n")))))
    (c.as_str.ensures.value ∙ c.in_ok-letters.ensures)) c.writeln.ensures.bytes)
