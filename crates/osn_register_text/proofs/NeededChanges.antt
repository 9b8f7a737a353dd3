-- Changes of one territory towards a target one, each of them needed in its turn.
use Rattle.std.proofs.Common.{◌≡◌, true, false, List, [], ◌∷◌, ◌++◌}
use Rattle.std.proofs.Common.{◌<◌, length, Some, None, is_some, refl}
use Rattle.osn_territory.specs.Territory.{TerritoryModel}
use Rattle.osn_register.specs.Answer.{period_source, easter_source}
use Rattle.osn_register_text.specs.Change.{Change}
use Rattle.osn_register_text.specs.Change.Change.{Add, Alter, Drop}
use Rattle.osn_register_text.specs.Change.Change.{ListDay, DropDay}
use Rattle.osn_register_text.specs.Change.{territory_after}
use Rattle.osn_register_text.specs.CitedSources.{BothSources, same_period, same_easter}
use Rattle.osn_register_text.proofs.Rows.{look}

-- the territory after changes in turn
abbrev pub after : List Change → TerritoryModel → TerritoryModel
after [] t = t
after (e ∷ es) t = after es (territory_after e t)

-- the change is needed by a territory, if its sources and the target ones are these at first
abbrev pub IsDue : BothSources → TerritoryModel → TerritoryModel → Change → Type 0
IsDue both w t (Add d r c) =
    (look d t.starts ≡ None) × (look d w.starts ≡ Some r)
    × (length t.starts < length w.starts) × (c ≡ period_source both.target d)
IsDue both w t (Alter d r c) =
    (is_some (look d t.starts) ≡ true) × (look d t.starts ≡ Some r → same_period both d ≡ false)
    × (look d w.starts ≡ Some r) × (c ≡ period_source both.target d)
IsDue both w t (Drop d) = (is_some (look d t.starts) ≡ true) × (look d w.starts ≡ None)
IsDue both w t (ListDay y d c) =
    (look y t.exceptions ≡ None) × (look y w.exceptions ≡ Some d)
    × (length t.exceptions < length w.exceptions) × (c ≡ easter_source both.target y)
IsDue both w t (DropDay y) =
    (is_some (look y t.exceptions) ≡ true)
    × (look y w.exceptions ≡ look y t.exceptions → same_easter both y ≡ false)

-- each is, in its turn
abbrev pub AreDue : BothSources → TerritoryModel → TerritoryModel → List Change → Type 0
AreDue both w t [] = Unit {0}
AreDue both w t (e ∷ es) = IsDue both w t e × AreDue both w (territory_after e t) es

pub after-append : (es fs : List Change) (t : TerritoryModel) →
    after (es ++ fs) t ≡ after fs (after es t)
after-append [] fs t = refl
after-append (e ∷ es) fs t = after-append es fs (territory_after e t)

pub AreDue-append : (both : BothSources) (w t : TerritoryModel) (es fs : List Change) →
    AreDue both w t es → AreDue both w (after es t) fs → AreDue both w t (es ++ fs)
AreDue-append both w t [] fs due later = later
AreDue-append both w t (e ∷ es) fs due later =
    (due.0, AreDue-append both w (territory_after e t) es fs due.1 later)
