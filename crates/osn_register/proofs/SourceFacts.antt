-- Each source stays one that may be given.
use Rattle.std.proofs.Common.{◌≡◌, ℕ, Bool, true, false, cond, not, ◌==◌, List, [], ◌∷◌, ◌++◌}
use Rattle.std.proofs.Common.{filter, Option, Some, None}
use Rattle.osn_register.specs.declared.change.TerritoryEdit.{TerritoryEdit}
use Rattle.osn_register.specs.declared.change.TerritoryEdit.TheVariants.{Add, Alter, Drop}
use Rattle.osn_register.specs.declared.change.TerritoryEdit.TheVariants.{AddException}
use Rattle.osn_register.specs.declared.change.TerritoryEdit.TheVariants.{DropException}
use Rattle.osn_register.specs.InsideChange.{sources_after}
use Rattle.osn_register.specs.Sources.{SourcesModel, AreSources, HasSources, IsGiven, is_source}
use Rattle.osn_register.specs.Sources.{with_source}

are_without : (test : ℕ × List ℕ → Bool) (ss : List (ℕ × List ℕ)) → AreSources ss →
    AreSources (filter test ss)
are_without test [] given = tt
are_without test (s ∷ ss) given =
    elim (test s) as (λ b. AreSources (cond b (s ∷ filter test ss) (filter test ss))) [
      | true ↦ (given.0, are_without test ss given.1)
      | false ↦ are_without test ss given.1
    ]

are_more : (ss : List (ℕ × List ℕ)) (s : ℕ × List ℕ) → AreSources ss → is_source s.1 ≡ true →
    AreSources (ss ++ s ∷ [])
are_more [] s given here = (here, tt)
are_more (t ∷ ss) s given here = (given.0, are_more ss s given.1 here)

are_with : (n : ℕ) (source : Option (List ℕ)) (ss : List (ℕ × List ℕ)) → IsGiven source →
    AreSources ss → AreSources (with_source n source ss)
are_with n None ss here given = are_without (λ s. not (s.0 == n)) ss given
are_with n (Some text) ss here given =
    are_more (filter (λ s. not (s.0 == n)) ss) (n, text)
    (are_without (λ s. not (s.0 == n)) ss given) here

pub has_after : (change : TerritoryEdit) (source : Option (List ℕ)) (s : SourcesModel) →
    IsGiven source → HasSources s → HasSources (sources_after change source s)
has_after (Add day regime) source s here given =
    record { periods = are_with day source s.periods here given.periods; easters = given.easters }
has_after (Alter day regime) source s here given =
    record { periods = are_with day source s.periods here given.periods; easters = given.easters }
has_after (Drop day) source s here given =
    record { periods = are_with day source s.periods here given.periods; easters = given.easters }
has_after (AddException year day) source s here given =
    record { periods = given.periods; easters = are_with year source s.easters here given.easters }
has_after (DropException year) source s here given =
    record { periods = given.periods; easters = are_with year source s.easters here given.easters }
