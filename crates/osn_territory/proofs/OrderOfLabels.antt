-- A label that a day has is, as a date, the date of that day.
use Rattle.std.proofs.Common.{◌≡◌, ℕ, ℤ, pos, ◌+ℤ◌, ◌-ℤ◌, Bool, true, false, if◌then◌else◌, refl}
use Rattle.std.proofs.Common.{arith}
use Rattle.std.proofs.lemmas.Int.{ints}
use Rattle.osn_days.specs.declared.date.Date.{Date}
use Rattle.osn_days.specs.Rules.{Rules}
use Rattle.osn_days.specs.Chain.{date_of}
use Rattle.osn_days.proofs.ChainFacts.{date_is}
use Rattle.osn_territory.specs.declared.style.Style.{Style}
use Rattle.osn_territory.specs.declared.style.Style.TheVariants.{January, Annunciation, Nativity}
use Rattle.osn_territory.specs.declared.style.Style.TheVariants.{September, Pisan, Easter}
use Rattle.osn_territory.specs.declared.regime.Regime.{Regime}
use Rattle.osn_territory.specs.declared.label.Label.{Label}
use Rattle.osn_territory.specs.Style.{year_by, is_from_easter, is_before_25_march}
use Rattle.osn_territory.specs.Style.{is_from_25_december, is_from_september, is_before_easter}
use Rattle.osn_territory.specs.Label.{local_label}
use Rattle.osn_territory.specs.LabelOrder.{counted_year, label_date, is_labelled_before_easter}

one_back : (b : Bool) (y : ℤ) → (if b then (if b then y -ℤ pos 1 else y) +ℤ pos 1
    else (if b then y -ℤ pos 1 else y)) ≡ y
one_back true y = omega (arith, ints)
one_back false y = refl

one_ahead : (b : Bool) (y : ℤ) → (if b then (if b then y +ℤ pos 1 else y) -ℤ pos 1
    else (if b then y +ℤ pos 1 else y)) ≡ y
one_ahead true y = omega (arith, ints)
one_ahead false y = refl

ahead_unless : (b : Bool) (y : ℤ) → (if b then (if b then y else y +ℤ pos 1)
    else (if b then y else y +ℤ pos 1) -ℤ pos 1) ≡ y
ahead_unless true y = refl
ahead_unless false y = omega (arith, ints)

-- the label of a date by a style
abbrev labelled : Style → Date → Bool → Label
labelled s e before = record { year = year_by s e before; month = e.month; day = e.day }

counted_back : (s : Style) (e : Date) (before early : Bool) → is_from_easter s ≡ false →
    counted_year s (labelled s e before) early ≡ e.year
counted_back January e before early fixed = refl
counted_back Annunciation e before early fixed =
    one_back (is_before_25_march e.month e.day) e.year
counted_back Nativity e before early fixed = one_ahead (is_from_25_december e.month e.day) e.year
counted_back September e before early fixed = one_ahead (is_from_september e.month) e.year
counted_back Pisan e before early fixed = ahead_unless (is_before_25_march e.month e.day) e.year
counted_back Easter e before early fixed = let none : true ≡ false = fixed in absurd cc

pub date_of_label : (p : Rules) (r : Regime) (d : ℕ) → is_from_easter r.style ≡ false →
    label_date p r (local_label p r d) ≡ date_of r.calendar d
date_of_label p r d fixed =
    let e = date_of r.calendar d in
    let l = local_label p r d in
    date_is (label_date p r l) e
    (counted_back r.style e (is_before_easter p e.year d) (is_labelled_before_easter p r.calendar l)
    fixed)
    refl refl
