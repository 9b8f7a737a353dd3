-- The first list with days, year by year.
use Rattle.std.proofs.Common.{◌≡◌, ◌<◌, ◌+◌, ◌-◌, ℕ, suc, List, [], ◌∷◌, map, ap, ◌∙◌, arith}
use Rattle.std.proofs.Common.{length, sym}
use Rattle.std.specs.List.{range_with_len}
use Rattle.osn_days.specs.Rules.{Rules}
use Rattle.osn_territory.specs.Territory.{TerritoryModel}
use Rattle.osn_written.specs.declared.written_date.WrittenDate.{WrittenDate}
use Rattle.osn_written.specs.Nearest as spec

-- the years that are left from one on
abbrev left : (ℕ → List ℕ) → ℕ → ℕ → List ℕ
left f y most = spec.first_with_days (map f (range_with_len y (most + 1 - y)))

one_more : (f : ℕ → List ℕ) (y most : ℕ) → y < most + 1
    → left f y most
    ≡ spec.first_with_days (f y ∷ map f (range_with_len (y + 1) (most + 1 - (y + 1))))
one_more f y most low =
    let count : most + 1 - y ≡ suc (most + 1 - (y + 1)) = omega (arith, low) in
    ap (λ n. spec.first_with_days (map f (range_with_len y n))) count

-- a year with no day is skipped
pub next_years : (f : ℕ → List ℕ) (whole days : List ℕ) (y most : ℕ) → y < most + 1
    → whole ≡ left f y most → days ≡ f y → length days ≡ 0 → whole ≡ left f (y + 1) most
next_years f whole [] y most low so_far is none =
    so_far ∙ one_more f y most low
    ∙ ap (λ ds. spec.first_with_days (ds ∷ map f (range_with_len (y + 1) (most + 1 - (y + 1)))))
    (sym is)
next_years f whole (d ∷ ds) y most low so_far is none = absurd (omega (arith, none))

pub begin_years : (p : Rules) (t : TerritoryModel) (w : WrittenDate) (most : ℕ)
    → spec.nearest_within p t w most ≡ left (spec.days_apart p t w) 1 most
unfolding spec.nearest_within
begin_years p t w most =
    let count : most ≡ most + 1 - 1 = omega arith in
    ap (λ n. spec.first_with_days (map (spec.days_apart p t w) (range_with_len 1 n))) count
