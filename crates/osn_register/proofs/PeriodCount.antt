-- A territory has as many periods as starts.
use Rattle.std.proofs.Common.{◌≡◌, ℕ, List, [], ◌∷◌, length, suc, refl, ap}
use Rattle.osn_territory.specs.declared.regime.Regime.{Regime}
use Rattle.osn_territory.specs.Territory.{periods_from}

pub length-periods_from : (high : ℕ) (starts : List (ℕ × Regime)) →
    length (periods_from high starts) ≡ length starts
length-periods_from high [] = refl
length-periods_from high (s ∷ rest) = ap suc (length-periods_from high rest)
