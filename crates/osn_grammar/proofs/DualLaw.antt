-- The dual text of a day is the date of its label, with or without the name of its weekday.
use Rattle.std.proofs.Common.{◌≡◌, ◌≤◌, ◌<◌, ℕ, Bool, true, false, if◌then◌else◌, List}
use Rattle.std.proofs.Common.{◌++◌, codes, Option, Some, None, refl, ap, ◌∙◌, subst, arith, ℤ}
use Rattle.std.proofs.Common.{pos, negsuc, ◌≤ℤ◌, ◌<ℤ◌, int_lt, nat_lt, ◌+◌, ◌+ℤ◌, ◌-ℤ◌, sym, Ok}
use Rattle.std.proofs.Common.{append_assoc}
use Rattle.std.proofs.lemmas.Bool.{le-leb, le-ltb, ltb-true}
use Rattle.std.proofs.lemmas.Int.{ints}
use Rattle.osn_days.specs.declared.date.Date.{Date}
use Rattle.osn_days.specs.declared.weekday.Weekday.{Weekday}
use Rattle.osn_days.proofs.LineFacts.{date_of_line}
use Rattle.osn_days.specs.Chain.{date_of}
use Rattle.osn_days.specs.Line.{IsDay}
use Rattle.osn_days.specs.Rules.{newest_rules}
use Rattle.osn_days.specs.Weekday.{weekday_name}
use Rattle.osn_grammar.specs.Simple.{is_between}
use Rattle.osn_territory.specs.declared.label.Label.{Label}
use Rattle.osn_territory.specs.declared.regime.Regime.{Regime}
use Rattle.osn_territory.specs.declared.style.Style.{Style}
use Rattle.osn_territory.specs.declared.style.Style.TheVariants.{January, Annunciation, Nativity}
use Rattle.osn_territory.specs.declared.style.Style.TheVariants.{September, Pisan, Easter}
use Rattle.osn_territory.specs.Dual.{year_text, dual_text}
use Rattle.osn_territory.specs.Style.{style_year, year_by, is_before_easter, is_before_25_march}
use Rattle.osn_territory.specs.Style.{is_from_25_december, is_from_september}
use Rattle.osn_territory.proofs.LabelFacts.{style_year_range}
use Rattle.osn_written.specs.declared.written_date.WrittenDate.{WrittenDate}
use Rattle.osn_written.specs.DateInWords.{weekday_before}
use Rattle.osn_grammar.specs.DualTexts.{AreDualTextsWritten, AreNamedDaysWritten, weekday_of}
use Rattle.osn_written.specs.Meaning.{label_of}
use Rattle.osn_grammar.specs.ReadDate.{written_date}
use Rattle.osn_grammar.proofs.LawFacts.{words}
use Rattle.osn_grammar.proofs.WordsLaw.{day_written}

-- ---- years

-- if the style's year is before the year counted from 1 January, it is one year before
abbrev IsNext : ℤ → ℤ → Type 0
IsNext y z = y <ℤ z → z ≡ y +ℤ pos 1

next_if_less : (t : Bool) (y : ℤ) → IsNext (if t then y -ℤ pos 1 else y) y
next_if_less true y less = omega (arith, ints)
next_if_less false y less = absurd (omega (arith, ints, less))

next_if_more : (t : Bool) (y : ℤ) → IsNext (if t then y +ℤ pos 1 else y) y
next_if_more true y less = absurd (omega (arith, ints, less))
next_if_more false y less = absurd (omega (arith, ints, less))

next_unless_more : (t : Bool) (y : ℤ) → IsNext (if t then y else y +ℤ pos 1) y
next_unless_more true y less = absurd (omega (arith, ints, less))
next_unless_more false y less = absurd (omega (arith, ints, less))

next_by : (s : Style) (d : Date) (before : Bool) → IsNext (year_by s d before) d.year
next_by January d before = λ less. absurd (omega (arith, ints, less))
next_by Annunciation d before = next_if_less (is_before_25_march d.month d.day) d.year
next_by Nativity d before = next_if_more (is_from_25_december d.month d.day) d.year
next_by September d before = next_if_more (is_from_september d.month) d.year
next_by Pisan d before = next_unless_more (is_before_25_march d.month d.day) d.year
next_by Easter d before = next_if_less before d.year

year_written : (n m : ℕ) (t : Bool) → nat_lt n m ≡ t → (t ≡ true → m ≡ n + 1)
    → year_text (pos n) (pos (if t then n + 1 else n)) ≡ year_text (pos n) (pos m)
year_written n m true is next = ap (λ k. year_text (pos n) (pos k)) (sym (next refl))
year_written n m false is next = rw (is, le-ltb n n (omega arith)) refl

-- ---- dates

-- the text is a plain date with that label and those years, after the name of any weekday too
record IsPlain (dated : Label) (january_year : ℤ) (text : List ℕ) : Type 0 where
  pub date : WrittenDate
  pub is : (named : Option Weekday)
      → written_date (weekday_before named ++ text) ≡ Ok (record date { weekday = named })
  pub label : label_of date ≡ dated
  pub double : date.is_double ≡ int_lt dated.year january_year
  pub later : date.is_double ≡ true → pos (date.year + 1) ≡ january_year

labelled : (y z : ℤ) (month day : ℕ) → pos 100 ≤ℤ y → y ≤ℤ pos 10000 → pos 1 ≤ℤ z
    → z ≤ℤ pos 9999 → IsNext y z → 1 ≤ month → month ≤ 12 → 1 ≤ day → day ≤ 31
    → IsPlain (record { year = y; month = month; day = day }) z
    (words day month (year_text y z))
labelled (pos n) (pos m) month day low high low_m high_m next some most first few =
    let after : nat_lt n m ≡ true → m ≡ n + 1 = λ h. let less : n < m = ltb-true n m h in
    let is : pos m ≡ pos n +ℤ pos 1 = next (omega (arith, ints, less)) in
    omega (arith, ints, is) in
    let within : is_between 1 12 month ≡ true =
    rw (le-leb 1 month some, le-leb month 12 most) refl in
    let on : is_between 1 31 day ≡ true = rw (le-leb 1 day first, le-leb day 31 few) refl in
    let date : WrittenDate = record {
      year = n;
      month = month;
      day = day;
      is_double = nat_lt n m;
      weekday = None;
    } in
    record {
      date = date;
      is = λ named. subst (λ years.
          written_date (weekday_before named ++ words day month years)
          ≡ Ok (record date { weekday = named })) (year_written n m (nat_lt n m) refl after)
          (day_written named n month day (nat_lt n m) (omega (arith, ints, low))
          (omega (arith, ints, high)) within on);
      label = refl;
      double = refl;
      later = λ h. ap pos (sym (after h));
    }
labelled (pos n) (negsuc m) month day low high low_m high_m next some most first few =
    absurd (omega (arith, ints, low_m))
labelled (negsuc n) z month day low high low_m high_m next some most first few =
    absurd (omega (arith, ints, low))

dual_read : (r : Regime) (d : ℕ) → IsDay newest_rules d → pos 100 ≤ℤ style_year newest_rules r d
    → IsPlain (record {
      year = style_year newest_rules r d;
      month = (date_of r.calendar d).month;
      day = (date_of r.calendar d).day;
    }) (date_of r.calendar d).year (dual_text newest_rules r d)
dual_read r d on late =
    let date = date_of r.calendar d in
    let line_date = date_of_line r.calendar d on in
    let before = is_before_easter newest_rules date.year d in
    let years = style_year_range r.style date before 9999 line_date.year_low line_date.year_high in
    labelled (style_year newest_rules r d) date.year date.month date.day late years.1
    line_date.year_low line_date.year_high (next_by r.style date before) line_date.month_low
    line_date.month_high line_date.day_low line_date.day_high

-- ---- the laws

pub dual_texts_written : AreDualTextsWritten newest_rules
unfolding AreDualTextsWritten weekday_before
dual_texts_written r d on late =
    let read = dual_read r d on late in
    record {
      date = record read.date { weekday = None };
      is = read.is None;
      label = read.label;
      double = read.double;
      later = read.later;
      weekday = refl;
    }

pub named_days_written : AreNamedDaysWritten newest_rules
unfolding AreNamedDaysWritten weekday_before
named_days_written r d on late =
    let read = dual_read r d on late in
    let named = weekday_of d in
    let text = dual_text newest_rules r d in
    record {
      date = record read.date { weekday = Some named };
      is = ap written_date (sym (append_assoc (weekday_name named) (codes " ") text))
          ∙ read.is (Some named);
      label = read.label;
      double = read.double;
      later = read.later;
      weekday = refl;
    }

-- both laws
pub ruleset dual_laws = (dual_texts_written, named_days_written)
