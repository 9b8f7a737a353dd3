-- The days of the first rules keep their labels by the newest, so the same labels are read on them,
-- and the Easters of their years are the same.
use Rattle.std.proofs.Common.{◌≡◌, ℕ, zero, suc, ◌<◌, ◌≤◌, ◌==◌, ◌&&◌, nat_le, Bool, false, filter}
use Rattle.std.proofs.Common.{sym, ap, ◌∙◌, arith, ℤ, unsigned_abs}
use Rattle.std.proofs.Math.Bool.{and-true}
use Rattle.std.proofs.lemmas.Bool.{and_right, le-leb, lt-leb}
use Rattle.std.proofs.lemmas.Bool.Decides.{nat_tests}
use Rattle.std.proofs.lemmas.Int.{ints}
use Rattle.osn_computus.specs.declared.rule.Rule.{Rule}
use Rattle.osn_computus.specs.declared.rule.Rule.TheVariants as rules
use Rattle.osn_computus.proofs.EarlierEasters.{easter_of_both, same_easter}
use Rattle.osn_days.specs.Rules.{Rules, first_rules, newest_rules}
use Rattle.osn_days.specs.Line.{line, IsDay, IsYear, IsYearNumber}
use Rattle.osn_days.specs.Chain.{date_of}
use Rattle.osn_days.proofs.EarlierYears.{year_of_first_rules}
use Rattle.osn_days.proofs.RangeFacts.{filter_both, filter_until}
use Rattle.osn_territory.specs.declared.regime.Regime.{Regime}
use Rattle.osn_territory.specs.declared.label.Label.{Label}
use Rattle.osn_territory.specs.Style.{is_before, year_by, style_year}
use Rattle.osn_territory.specs.Label.{local_label, same_label}
use Rattle.osn_territory.specs.Dual.{date_text, dual_text}
use Rattle.osn_territory.specs.Territory.{TerritoryModel, regime_at, reading}
use Rattle.osn_territory.specs.Exceptions.{exception_of}
use Rattle.osn_territory.specs.Easters.{is_on, is_easter, easters_by_rule, unless_listed, easters}
use Rattle.osn_territory.specs.EarlierRules.{days_of_line, KeepsReading}

-- a year of dates that the first rules have is one of their years
pub plain_year : (y : ℤ) → IsYearNumber first_rules y → IsYear first_rules (unsigned_abs y)
plain_year y year = (omega (arith, ints, year.0), omega (arith, ints, year))

-- the years of the dates up to the last day of the first rules, the number 0 taken for day 1
year_until : (r : Regime) (d : ℕ) → d ≤ first_rules.high
    → IsYear first_rules (unsigned_abs (date_of r.calendar d).year)
year_until r zero until =
    plain_year (date_of r.calendar 1).year
    (year_of_first_rules r.calendar 1 (omega arith, omega arith))
year_until r (suc n) until =
    plain_year (date_of r.calendar (suc n)).year
    (year_of_first_rules r.calendar (suc n) (omega arith, until))

-- the style's year of a day
pub same_style_year : (r : Regime) (d : ℕ) → d ≤ first_rules.high
    → style_year first_rules r d ≡ style_year newest_rules r d
same_style_year r d until =
    let date = date_of r.calendar d in
    ap (λ easter. year_by r.style date (is_before d easter))
    (same_easter rules.Julian (unsigned_abs date.year) (year_until r d until))

-- a day of the first rules has the same label under both rules
pub same_local : (r : Regime) (d : ℕ) → d ≤ first_rules.high
    → local_label first_rules r d ≡ local_label newest_rules r d
same_local r d until =
    let date = date_of r.calendar d in
    ap (λ (y : ℤ). let l : Label = record { year = y; month = date.month; day = date.day } in l)
    (same_style_year r d until)

-- a day of the first rules has the same text under both rules
pub same_text : (r : Regime) (d : ℕ) → d ≤ first_rules.high
    → dual_text first_rules r d ≡ dual_text newest_rules r d
same_text r d until =
    ap (λ y. date_text y (date_of r.calendar d)) (same_style_year r d until)

-- a filter of a longer line
within_line : (p q : Rules) (f g : ℕ → Bool) → p.high ≤ q.high
    → ((d : ℕ) → IsDay p d → f d ≡ g d) → days_of_line p (filter f (line q)) ≡ filter g (line p)
unfolding line
within_line p q f g longer same =
    filter_both (λ d. nat_le d p.high) f (line q)
    ∙ filter_until (λ d. f d && nat_le d p.high) g p.high q.high longer
    (λ d low until. ap (λ b. f d && b) (le-leb d p.high until) ∙ and-true (f d)
    ∙ same d (low, until))
    (λ d past. and_right (f d) (nat_le d p.high) (lt-leb d p.high past))

-- the days of the first rules that are read are those that they read
pub same_reading : (t : TerritoryModel) (label : Label)
    → KeepsReading first_rules t label (reading newest_rules t label)
unfolding reading
same_reading t label =
    within_line first_rules newest_rules
    (λ d. same_label (local_label newest_rules (regime_at t d) d) label)
    (λ d. same_label (local_label first_rules (regime_at t d) d) label) (omega arith)
    (λ d on. ap (λ l. same_label l label) (sym (same_local (regime_at t d) d on.1)))

-- a filter that passes no day of a longer line alone
same_on_line : (p q : Rules) (f g : ℕ → Bool) → p.high ≤ q.high
    → ((d : ℕ) → p.high < d → f d ≡ false) → ((d : ℕ) → IsDay p d → f d ≡ g d)
    → filter f (line q) ≡ filter g (line p)
unfolding line
same_on_line p q f g longer none same =
    filter_until f g p.high q.high longer (λ d low until. same d (low, until)) none

not_that_day : (e d : ℕ) → e < d → (e == d) ≡ false
not_that_day e d less = grind (arith, nat_tests)

-- no day after the first rules' line is Easter of a year that they have
none_after : (rule : Rule) (y d : ℕ) → IsYear first_rules y → first_rules.high < d
    → is_easter newest_rules rule y d ≡ false
none_after rule y d year past =
    let kept = easter_of_both rule y year in
    ap (λ o. is_on o d) kept.newest ∙ not_that_day kept.day d (omega (arith, kept.within, past))

same_by_rule : (t : TerritoryModel) (y : ℕ) → IsYear first_rules y
    → easters_by_rule newest_rules t y ≡ easters_by_rule first_rules t y
unfolding easters_by_rule
same_by_rule t y year =
    same_on_line first_rules newest_rules
    (λ d. is_easter newest_rules (regime_at t d).rule y d)
    (λ d. is_easter first_rules (regime_at t d).rule y d) (omega arith)
    (λ d past. none_after (regime_at t d).rule y d year past)
    (λ d on. ap (λ o. is_on o d) (sym (same_easter (regime_at t d).rule y year)))

-- the Easters of a year that the first rules have
pub same_easters : (t : TerritoryModel) (y : ℕ) → IsYear first_rules y
    → easters newest_rules t y ≡ easters first_rules t y
same_easters t y year = ap (unless_listed (exception_of t y)) (same_by_rule t y year)
