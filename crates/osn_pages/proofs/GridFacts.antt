-- Days in pieces, and the lines of grids.
use Rattle.std.proofs.Common.{◌≡◌, ◌≤◌, ◌<◌, ◌-◌, ℕ, zero, suc, Bool, true, false}
use Rattle.std.proofs.Common.{if◌then◌else◌, List, [], ◌∷◌, ◌++◌, length, take, drop, get_or}
use Rattle.std.proofs.Common.{refl, sym, ap, ◌∙◌, arith, append-nil, lit<}
use Rattle.std.specs.Prelude.{◌^◌}
use Rattle.std.specs.List.{flat_map}
use Rattle.std.specs.Fmt.{styled_decimal, format_spec, decimal}
use Rattle.std.proofs.Padding.{padded_integral_right}
use Rattle.std.proofs.lemmas.List.{get_or_default}
use Rattle.osn_territory.specs.declared.dating.DatedDay.{DatedDay}
use Rattle.osn_pages.specs.Grid as spec

-- ---- pieces

-- the first piece ends at the place up to which each day goes on from the one before it
pub piece_cut : (goes_on : DatedDay → DatedDay → Bool) (n : ℕ) (days : List DatedDay)
    → 1 ≤ n → n ≤ length days
    → ((k : ℕ) (d : DatedDay) → suc k < n
    → goes_on (get_or days k d) (get_or days (suc k) d) ≡ true)
    → ((k : ℕ) (d : DatedDay) → suc k ≡ n → n < length days
    → goes_on (get_or days k d) (get_or days n d) ≡ false)
    → spec.pieces_of goes_on days ≡ take n days ∷ spec.pieces_of goes_on (drop n days)
piece_cut goes_on zero days some most within cut = absurd (omega (arith, some))
piece_cut goes_on (suc n) [] some most within cut = absurd (omega (arith, most))
piece_cut goes_on (suc zero) (x ∷ []) some most within cut = refl
piece_cut goes_on (suc (suc n)) (x ∷ []) some most within cut = absurd (omega (arith, most))
piece_cut goes_on (suc zero) (x ∷ y ∷ days) some most within cut =
    let rest = spec.pieces_of goes_on (y ∷ days) in
    ap (λ b. if b then spec.in_first_piece x rest else (x ∷ []) ∷ rest)
    (cut 0 x refl (omega arith))
piece_cut goes_on (suc (suc n)) (x ∷ y ∷ days) some most within cut =
    let rest = spec.pieces_of goes_on (y ∷ days) in
    ap (λ b. if b then spec.in_first_piece x rest else (x ∷ []) ∷ rest)
    (within 0 x (omega arith))
    ∙ ap (spec.in_first_piece x) (piece_cut goes_on (suc n) (y ∷ days) (omega arith)
    (omega (arith, most)) (λ k d low. within (suc k) d (omega (arith, low)))
    (λ k d is low. cut (suc k) d (ap suc is) (omega (arith, low))))

-- two days round a cut, whatever they are read with
pub at_cut : (goes_on : DatedDay → DatedDay → Bool) (days : List DatedDay) (n : ℕ) (x y : DatedDay)
    → n < length days → x ≡ get_or days (n - 1) x → y ≡ get_or days n y → goes_on x y ≡ false
    → (k : ℕ) (d : DatedDay) → suc k ≡ n → n < length days
    → goes_on (get_or days k d) (get_or days n d) ≡ false
at_cut goes_on days n x y low first second fails k d is still =
    let before : k ≡ n - 1 = omega (arith, is) in
    let first_is : get_or days k d ≡ x = ap (λ j. get_or days j d) before
    ∙ get_or_default days (n - 1) d x (omega (arith, low)) ∙ sym first in
    let second_is : get_or days n d ≡ y = get_or_default days n d y low ∙ sym second in
    ap (λ z. goes_on z (get_or days n d)) first_is ∙ ap (goes_on x) second_is ∙ fails

-- no cut: the days are one piece
pub one_piece : (goes_on : DatedDay → DatedDay → Bool) (days : List DatedDay) → 1 ≤ length days
    → ((k : ℕ) (d : DatedDay) → suc k < length days
    → goes_on (get_or days k d) (get_or days (suc k) d) ≡ true)
    → spec.pieces_of goes_on days
    ≡ take (length days) days ∷ spec.pieces_of goes_on (drop (length days) days)
one_piece goes_on days some within =
    piece_cut goes_on (length days) days some (omega arith) within
    (λ k d is low. absurd (omega (arith, low)))

-- ---- lines

-- no day is left
pub no_weeks : (whole now : List ℕ) (days : List DatedDay) → length days ≡ 0
    → whole ≡ now ++ flat_map spec.week_line (spec.weeks_of days) → now ≡ whole
unfolding spec.weeks_of
no_weeks whole now [] none is = rw is (sym (append-nil now))
no_weeks whole now (day ∷ days) none is = absurd (omega (arith, none))

pub no_runs : (whole now : List ℕ) (days : List DatedDay) → length days ≡ 0
    → whole ≡ now ++ flat_map spec.grid (spec.runs_of days) → now ≡ whole
unfolding spec.runs_of
no_runs whole now [] none is = rw is (sym (append-nil now))
no_runs whole now (day ∷ days) none is = absurd (omega (arith, none))

-- ---- a first day

-- what `{:>2}` writes of a number
pub two_right : (n : ℕ)
    → styled_decimal (format_spec 32 3 0 2 (2 ^ 64 - 1)) n ≡ spec.in_two_places n
two_right n =
    padded_integral_right (format_spec 32 3 0 2 (2 ^ 64 - 1)) (decimal n) refl
    refl (λ e. omega (arith, e)) (λ e. omega (arith, e)) (lit< tt)
