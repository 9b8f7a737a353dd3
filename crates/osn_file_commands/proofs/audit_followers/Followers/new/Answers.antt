use Rattle.std.proofs.Common.{◌≡◌, [], length, ◌∷◌, refl, sym, subst, ap, ◌∙◌, arith, length-append}
use Rattle.std.specs.List.{All}
use Rattle.std.proofs.lemmas.List.Elements.{All-append}
use Rattle.osn_file_commands.specs.declared.audit_followers.Place.{Place}
use Rattle.osn_file_commands.specs.InsideFollowers.{IsPlace}
use Rattle.osn_file_commands.proofs.FollowLemmas.{IsAt-first, IsPlace-first, All-one, none_replied}
use Rattle.osn_file_commands.proofs.audit_followers.Followers.new.Goals as goal

pub loop-preserved : goal.loop-preserved
loop-preserved c =
    let at = IsPlace c.args.object.limits c.args.object.batches in
    let is = c.in_ok-push.ensures.items in
    let place : Place = record { last = 0; own = c.new-own.result } in
    let first : at place =
    IsPlace-first c.args.object.limits c.limits-limits.result c.args.object.batches place
    (c.limits-limits.ensures.value ∙ c.register.ensures.limits) refl c.new-own.ensures.edition
    c.new-own.ensures.register in
    record {
      count =
          ap length is
          ∙ omega (
            arith,
            length-append c.loop.places.items (place ∷ []),
            c.loop.invariant.count,
          );
      each = subst (All at) (sym is)
          (All-append at c.loop.places.items (place ∷ []) c.loop.invariant.each
          (All-one at place first));
      first = subst (All (λ (p : Place). p.last ≡ 0)) (sym is)
          (All-append (λ p. p.last ≡ 0) c.loop.places.items (place ∷ []) c.loop.invariant.first
          (All-one (λ p. p.last ≡ 0) place refl));
    }

pub invariant_of-result : goal.invariant_of-result
invariant_of-result c = record {
  count = omega (arith, c.loop.invariant.count);
  latest = IsAt-first c.args.object.limits c.limits-limits.result c.args.object.batches
      c.new-latest.result (c.limits-limits.ensures.value ∙ c.register.ensures.limits)
      c.new-latest.ensures.edition c.new-latest.ensures.register;
  each = c.loop.invariant.each;
}

pub returns-clause-last : goal.returns-clause-last
returns-clause-last c =
    none_replied c.loop.places.items 64 (omega (arith, c.loop.invariant.count))
    c.loop.invariant.first
