use Rattle.std.proofs.Common.{◌≡◌, ◌∙◌, ◌++◌, [], ◌∷◌, List, fold, drop, ap, sym}
use Rattle.osn_live.specs.Running.{EditionState, origin_of}
use Rattle.osn_live.proofs.OneRule.{finds, none_left}
use Rattle.osn_live.proofs.editor.show.Goals as goal

abbrev absorbed : EditionState → EditionState → EditionState
absorbed s next = next

pub publish_as-copies-requires : goal.publish_as-copies-requires
publish_as-copies-requires g c next is =
    let old : List EditionState = drop c.args.copies.behind c.args.copies.log.items in
    let none : old ≡ [] = none_left old c.if-has_pending_operations.ensures.1 in
    let one : drop c.append.new.self.behind c.append.new.self.log.items ≡ c.args.next ∷ [] =
    c.in-Ok.ensures.pending ∙ ap (λ (l : List EditionState). l ++ c.args.next ∷ []) none in
    let here : next ≡ c.args.next =
    is ∙ ap (fold absorbed c.append.new.self.desk.shown.value) one in
    finds _ _ _ next (ap (λ d. origin_of d.shown.value) c.in-Ok.ensures.desk
    ∙ sym c.requires ∙ ap origin_of (sym here))
