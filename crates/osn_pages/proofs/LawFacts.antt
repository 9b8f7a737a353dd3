-- The words of a day by a calendar are the written date of that day.
use Rattle.std.proofs.Common.{◌≡◌, ◌≤◌, ℕ, false, Ok, None, refl, ap, subst}
use Rattle.std.proofs.Common.{◌∙◌, arith, ℤ, pos, negsuc, ◌≤ℤ◌, unsigned_abs, sym}
use Rattle.std.proofs.lemmas.Bool.{le-leb, le-ltb}
use Rattle.std.proofs.lemmas.Int.{ints}
use Rattle.std.specs.Fmt.{decimal}
use Rattle.osn_days.specs.declared.date.Date.{Date}
use Rattle.osn_days.specs.Chain.{date_of, days_with_date}
use Rattle.osn_days.specs.Rules.{newest_rules}
use Rattle.osn_days.proofs.LineFacts.{date_of_line, day_of_date}
use Rattle.osn_territory.specs.Dual.{year_text}
use Rattle.osn_written.specs.declared.written_date.WrittenDate.{WrittenDate}
use Rattle.osn_grammar.specs.ReadDate.{written_date}
use Rattle.osn_written.specs.DateInWords.{weekday_before}
use Rattle.osn_grammar.proofs.LawFacts.{words}
use Rattle.osn_grammar.proofs.WordsLaw.{day_written}
use Rattle.osn_pages.specs.Words.{words_of_date, calendar_words}
use Rattle.osn_pages.specs.Conversion.{numbered_date}
use Rattle.osn_pages.specs.Law.{AreCalendarWordsWritten}

-- a single date of these numbers
abbrev single : ℕ → ℕ → ℕ → WrittenDate
single year month day = record {
  year = year;
  month = month;
  day = day;
  is_double = false;
  weekday = None;
}

-- the words of a date are read as that date, which does not have both years
record IsRead (date : Date) : Type 0 where
  pub is : written_date (words_of_date date)
      ≡ Ok (single (unsigned_abs date.year) date.month date.day)
  pub numbers : numbered_date (unsigned_abs date.year) date.month date.day ≡ date

numbers_read : (y : ℤ) (month day : ℕ) → pos 100 ≤ℤ y → y ≤ℤ pos 9999
    → 1 ≤ month → month ≤ 12 → 1 ≤ day → day ≤ 31
    → IsRead (record { year = y; month = month; day = day })
unfolding weekday_before
numbers_read (pos n) month day low high some most first few =
    let years : year_text (pos n) (pos n) ≡ decimal n = rw (le-ltb n n (omega arith)) refl in
    record {
      is = subst (λ year. written_date (words day month year) ≡ Ok (single n month day)) years
          (day_written None n month day false (omega (arith, ints, low)) (omega (arith, ints, high))
          (rw (le-leb 1 month some, le-leb month 12 most) refl)
          (rw (le-leb 1 day first, le-leb day 31 few) refl));
      numbers = refl;
    }
numbers_read (negsuc n) month day low high some most first few =
    absurd (omega (arith, ints, low))

pub calendar_words_written : AreCalendarWordsWritten newest_rules
unfolding calendar_words AreCalendarWordsWritten
calendar_words_written c d on late =
    let date = date_of c d in
    let line_date = date_of_line c d on in
    let read : IsRead date = numbers_read date.year date.month date.day
    late line_date.year_high line_date.month_low line_date.month_high
    line_date.day_low line_date.day_high in
    record {
      date = single (unsigned_abs date.year) date.month date.day;
      is = read.is;
      day = ap (days_with_date newest_rules c) read.numbers
          ∙ sym (day_of_date newest_rules c d on);
    }
