use Rattle.std.proofs.Common.{Bool, ◌∙◌, ap, filter, rules}
use Rattle.std.proofs.lemmas.Fn.{filter_same}
use Rattle.osn_register.specs.declared.answer.Land.{Land}
use Rattle.osn_page_commands.specs.Place.{is_called}
use Rattle.osn_page_commands.proofs.place.territories_called.Goals as goal

pub returns : goal.returns
returns c =
    let test : Land → Bool = is_called c.args.word.now in
    filter_same _ test _ (λ territory answer after called. search rules) _ _
    c.retain.ensures.filtered ∙ ap (filter test) c.in_ok-territories.ensures.value
