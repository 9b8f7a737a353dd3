-- Days in runs and months, and the lines of these.
use Rattle.std.proofs.Common.{◌≡◌, ◌<◌, ◌-◌, ℕ, suc, List, [], ◌∷◌, ◌++◌, length, get_or, refl}
use Rattle.std.proofs.Common.{sym, ap, ◌∙◌, arith, append-nil}
use Rattle.std.specs.List.{flat_map}
use Rattle.osn_days.specs.Rules.{Rules}
use Rattle.osn_territory.specs.declared.dating.DatedDay.{DatedDay}
use Rattle.osn_pages.specs.declared.year_days.Part.{Part}
use Rattle.osn_pages.specs.YearPage as spec

-- no day is left
pub no_parts : (part : Part) (f : List DatedDay → List ℕ) (whole now : List ℕ)
    (days : List DatedDay) → length days ≡ 0
    → whole ≡ now ++ flat_map f (spec.parts_of part days) → now ≡ whole
unfolding spec.parts_of
no_parts part f whole now [] none is = rw is (sym (append-nil now))
no_parts part f whole now (day ∷ days) none is = absurd (omega (arith, none))

last_at : (x : DatedDay) (days : List DatedDay) (d : DatedDay)
    → get_or (x ∷ days) (length days) d ≡ spec.last_of x days
last_at x [] d = refl
last_at x (next ∷ days) d = last_at next days d

-- the line of days by the first and the last of them
pub line_of_ends : (p : Rules) (part : Part) (year : ℕ) (days : List DatedDay)
    (first last : DatedDay) → 0 < length days → first ≡ get_or days 0 first
    → last ≡ get_or days (length days - 1) last
    → spec.part_line p part year first last (length days) ≡ spec.piece_line p part year days
line_of_ends p part year [] first last some is_first is_last = absurd (omega (arith, some))
line_of_ends p part year (x ∷ days) first last some is_first is_last =
    let count : suc (length days) - 1 ≡ length days = omega arith in
    let at_end : last ≡ spec.last_of x days =
    is_last ∙ ap (λ n. get_or (x ∷ days) n last) count ∙ last_at x days last in
    ap (λ f. spec.part_line p part year f last (suc (length days))) is_first
    ∙ ap (λ l. spec.part_line p part year x l (suc (length days))) at_end
