use Rattle.std.proofs.Common.{ap, sym, ◌∙◌}
use Rattle.osn_register_text.proofs.MemberLemmas.{unknown_among, unknown_key-keys}
use Rattle.osn_register_text.proofs.field.unknown_key.Goals as goal

pub loop-name-init : goal.loop-name-init
loop-name-init c =
    unknown_key-keys c.args.part c.args.table.now.entries
    ∙ ap (unknown_among c.args.part)
    (sym (c.into_iter-name-iterator.ensures.into_iter_gives ∙ c.keys-name-items.ensures.rest))
