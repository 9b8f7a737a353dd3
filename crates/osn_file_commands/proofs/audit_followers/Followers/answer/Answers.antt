use Rattle.std.proofs.Common.{◌-◌, ◌∙◌, ap}
use Rattle.std.proofs.Math.Seq.{map-set_same}
use Rattle.osn_file_commands.specs.declared.audit_followers.Place.{Place}
use Rattle.osn_file_commands.proofs.FollowLemmas.{state_of}
use Rattle.osn_file_commands.proofs.audit_followers.Followers.answer.Goals as goal

pub returns-else-self-place-clause-same : goal.returns-else-self-place-clause-same
returns-else-self-place-clause-same c =
    let s = c.self.inside in
    ap (state_of s.object)
    (map-set_same (λ (p : Place). p.last) s.places.items (c.args.reader - 1) _ _
    (ap (λ p. p.last) c.index_mut-place.ensures.value))
    ∙ c.self.view_is
