use Rattle.std.proofs.Common.{◌-◌, ◌∙◌, ap, arith, refl, set}
use Rattle.std.proofs.lemmas.List.{map-set}
use Rattle.osn_register.specs.BorrowedQuery.{as_query}
use Rattle.osn_file_commands.specs.declared.audit_followers.Place.{Place}
use Rattle.osn_file_commands.proofs.FollowLemmas.{reply_set}
use Rattle.osn_file_commands.proofs.audit_followers.Followers.ask.Goals as goal

pub returns-clause-reply : goal.returns-clause-reply
returns-clause-reply c =
    let s = c.self.inside in
    reply_set c.args.self.now.object s.object s.places.items (c.args.reader - 1) _ c.args.edition
    (as_query c.args.query) _ c.in_ok-answer.answer (ap (λ t. t.object) c.self.view_is) refl
    (omega (arith, c.self.invariant.count, c.requires.from_one, c.requires.known))
    c.requires.edition c.in_ok-answer.ensures.answer

pub returns-clause-last : goal.returns-clause-last
returns-clause-last c =
    let i = c.args.reader - 1 in
    ap (λ t. t.last) c.answer.ensures.same
    ∙ (map-set (λ (p : Place). p.last) c.self.inside.places.items i _
    ∙ ap (λ t. set t.last i c.args.edition) c.self.view_is)
