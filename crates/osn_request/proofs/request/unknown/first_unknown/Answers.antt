use Rattle.std.proofs.Common.{ap, sym, ◌∙◌}
use Rattle.osn_request.proofs.UnknownLemmas.{unknown_among, first_unknown-keys}
use Rattle.osn_request.proofs.request.unknown.first_unknown.Goals as goal

pub loop-name-init : goal.loop-name-init
loop-name-init c =
    first_unknown-keys c.args.op c.args.members.now.entries
    ∙ ap (unknown_among c.args.op)
    (sym (c.into_iter-name-iterator.ensures.into_iter_gives ∙ c.keys-name-items.ensures.rest))
