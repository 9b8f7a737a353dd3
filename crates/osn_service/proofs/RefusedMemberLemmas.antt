-- The outcome of a line by its first member that its request doesn't have.
use Rattle.std.proofs.Common.{◌≡◌, ℕ, Bool, true, false, if◌then◌else◌, List, Option, Some, None}
use Rattle.std.proofs.Common.{Result, Ok, Err, refl, ap}
use Rattle.serde_json.specs.Data.{Data}
use Rattle.osn_core.specs.Sequential.{ObjectState}
use Rattle.osn_request.specs.Request.{object_of}
use Rattle.osn_request.specs.Unknown.{unknown_in}
use Rattle.osn_request.specs.declared.wire_fault.WireFault.{WireFault}
use Rattle.osn_service.specs.declared.outcome.Outcome.TheVariants.{UnknownMember}
use Rattle.osn_service.specs.declared.rules.ServeRules.{ServeRules}
use Rattle.osn_service.specs.Outcome.{explained_if}
use Rattle.osn_service.specs.Session.{after_unless, line_after, line_outcome, line_request}
use Rattle.osn_service.specs.Session.{outcome_of, outcome_unless, refused_member, state_after}

-- no member is refused if the rules say so
pub none_ignored : (rules : ServeRules) (whole : List ℕ) → rules.strict_members ≡ false
    → refused_member rules whole ≡ None
none_ignored rules whole ignored =
    ap (λ b. if b then unknown_in (object_of whole) else None) ignored

-- otherwise it is the first one of the line
pub strictly : (rules : ServeRules) (whole : List ℕ) → rules.strict_members ≡ true
    → refused_member rules whole ≡ unknown_in (object_of whole)
strictly rules whole strict =
    ap (λ b. if b then unknown_in (object_of whole) else None) strict

module _ (rules : ServeRules) (s : ObjectState) (whole : List ℕ) where
  -- the outcome of a line that has no such member
  pub none_outcome : refused_member rules whole ≡ None → line_outcome rules s whole
      ≡ explained_if rules.explains (outcome_of s (line_request rules whole))
  none_outcome e =
      ap (λ o. explained_if rules.explains
      (outcome_unless o (outcome_of s (line_request rules whole)))) e

  pub none_after : refused_member rules whole ≡ None
      → line_after rules s whole ≡ state_after s (line_request rules whole)
  none_after e = ap (λ o. after_unless o s (state_after s (line_request rules whole))) e

  -- that of a line that has one
  pub some_outcome : (name : List ℕ) → refused_member rules whole ≡ Some name
      → line_outcome rules s whole ≡ explained_if rules.explains (UnknownMember name)
  some_outcome name e =
      ap (λ o. explained_if rules.explains
      (outcome_unless o (outcome_of s (line_request rules whole)))) e

  pub some_after : (name : List ℕ) → refused_member rules whole ≡ Some name
      → line_after rules s whole ≡ s
  some_after name e = ap (λ o. after_unless o s (state_after s (line_request rules whole))) e
