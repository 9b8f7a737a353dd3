use Rattle.std.proofs.Common.{◌∙◌, fold, ap, sym}
use Rattle.osn_live.specs.Running.{EditionState, origin_of}
use Rattle.osn_live.proofs.OneRule.{finds}
use Rattle.osn_live.proofs.editor.align_copies.Goals as goal

abbrev absorbed : EditionState → EditionState → EditionState
absorbed s next = next

pub publish_as-requires : goal.publish_as-requires
publish_as-requires g c next is = finds _ _ _ next (ap origin_of
    (sym (is ∙ ap (fold absorbed c.args.copies.desk.shown.value) c.requires.none)))
