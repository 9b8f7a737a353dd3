-- The words of a date are read as that date.
use Rattle.std.proofs.Common.{◌≡◌, ℕ, ◌≤◌, nat_le, ◌==◌, Bool, true, false, not, ◌&&◌, List, []}
use Rattle.std.proofs.Common.{◌∷◌, ◌++◌, codes, length, Option, Some, None, Ok, refl, ap, subst}
use Rattle.std.proofs.Common.{arith, append-nil}
use Rattle.std.proofs.lemmas.Bool.{leb-true, lt-leb}
use Rattle.std.proofs.lemmas.Fmt.{length-decimal-le}
use Rattle.std.specs.Fmt.{decimal}
use Rattle.osn_days.specs.declared.weekday.Weekday.{Weekday}
use Rattle.osn_grammar.specs.declared.token.Token.{Token}
use Rattle.osn_grammar.specs.declared.token.Token.TheVariants.{Number, Month, Weekday as OnWeekday}
use Rattle.osn_grammar.specs.declared.token.Token.TheVariants.{Reckoning as By, To, Before, After}
use Rattle.osn_grammar.specs.declared.token.Token.TheVariants.{Not, Bracket, Doubt, About}
use Rattle.osn_grammar.specs.declared.text_reading.DateOrder.TheVariants.{Unknown}
use Rattle.osn_written.specs.declared.any_date.Extent.{Extent}
use Rattle.osn_written.specs.declared.any_date.Extent.TheVariants as extent
use Rattle.osn_written.specs.declared.any_date.Reckoning.{Reckoning}
use Rattle.osn_written.specs.declared.any_date.Reckoning.TheVariants.{OldStyle, NewStyle}
use Rattle.osn_written.specs.declared.any_date.PartialDate.{PartialDate}
use Rattle.osn_written.specs.declared.any_date.PartialDate.TheVariants as date
use Rattle.osn_written.specs.declared.any_date.Year.{Year}
use Rattle.osn_written.specs.AnyDate.{has_three_digits, has_year_of_three_digits}
use Rattle.osn_grammar.specs.Simple.{is_between}
use Rattle.osn_grammar.proofs.FormFacts.{IsDate, IsExtent, year_tokens, day_is, month_is}
use Rattle.osn_grammar.proofs.FormFacts.{year_is, on_is, from_to_is, before_is, after_is}
use Rattle.osn_grammar.proofs.FormFacts.{not_before_is, not_after_is}
use Rattle.osn_grammar.proofs.FormFacts.{beginning_tokens, days_of_year_is}
use Rattle.osn_grammar.proofs.TokenFacts.{Say, TextSays, nothing_says, token_adds, weekday_adds}
use Rattle.osn_grammar.proofs.TokenFacts.{reckoning_adds, text_read}
use Rattle.osn_grammar.proofs.TextFacts.{Reads, Closes, blank, doubt, bracket_closes}
use Rattle.osn_grammar.proofs.TextFacts.{joined_reads, begins_reads, begun_scans}
use Rattle.osn_grammar.proofs.TextFacts.{closed_scans, mark_closes, nothing_closes}
use Rattle.osn_grammar.proofs.WordFacts.{month_reads, weekday_begins, about_begins, before_begins}
use Rattle.osn_grammar.proofs.WordFacts.{after_begins, not_before_begins, not_after_begins}
use Rattle.osn_grammar.proofs.WordFacts.{to_begins, bracket_begins, old_style_closes}
use Rattle.osn_grammar.proofs.WordFacts.{new_style_closes}
use Rattle.osn_written.specs.declared.written_date.MonthDay.{MonthDay}
use Rattle.osn_written.specs.AnyDate.{in_year}
use Rattle.osn_written.specs.WrittenDate.{month_day_words}
use Rattle.osn_written.specs.DateInWords.{words_of_date, words_of_extent, words_of, optional_word}
use Rattle.osn_written.specs.DateInWords.{weekday_before, calendar_after}
use Rattle.osn_grammar.specs.WordsRead.{AreWordsRead}
use Rattle.osn_grammar.specs.WordsRead.{is_writable_year, is_writable_date, is_writable_extent}
use Rattle.osn_grammar.specs.ReadDate.{day_read}
use Rattle.osn_grammar.specs.ReadDate.{written_date}
use Rattle.osn_grammar.proofs.LawFacts.{IsYearRead, both, decimal_reads, from_hundred, is_not}
use Rattle.osn_grammar.proofs.LawFacts.{numeral, padded_year, words, year_by, year_in, year_read}

-- ---- dates

-- the text is read as parts that are the date
record IsDateRead (text : List ℕ) (d : PartialDate) : Type 0 where
  tokens : List Token
  reads : Reads text tokens
  is : IsDate tokens d

month_read : (month : ℕ) (y : Year) → is_writable_year y ≡ true → is_between 1 12 month ≡ true
    → IsDateRead (words_of_date (date.Month y month)) (date.Month y month)
unfolding words_of_date
month_read month y ok within =
    let bounds = both (nat_le 1 month) (nat_le month 12) within in
    let year = year_read y ok in
    let name = month_reads month (leb-true 1 month bounds.0) (leb-true month 12 bounds.1) in
    record {
      tokens = Month month ∷ year_tokens year.first year.later;
      reads = joined_reads blank name year.reads;
      is = month_is month year.first year.later y year.is (rw (bounds.0, bounds.1) refl);
    }

day_in_year : {text : List ℕ} (month day : ℕ) (y : Year) → IsYearRead text y
    → is_between 1 12 month ≡ true → is_between 1 31 day ≡ true
    → IsDateRead (words day month text) (date.Day y month day)
day_in_year month day y year within on =
    let bounds = both (nat_le 1 month) (nat_le month 12) within in
    let days = both (nat_le 1 day) (nat_le day 31) on in
    let low : day ≤ 31 = leb-true day 31 days.1 in
    let name = month_reads month (leb-true 1 month bounds.0) (leb-true month 12 bounds.1) in
    let number = numeral day (decimal day) in
    let two : length (decimal day) ≤ 2 =
    length-decimal-le 2 day (omega arith) (omega (arith, low)) (omega (arith, low)) in
    record {
      tokens = Number number ∷ Month month ∷ year_tokens year.first year.later;
      reads = joined_reads blank (decimal_reads day (omega (arith, low)))
          (joined_reads blank name year.reads);
      is = day_is number month year.first year.later y
          (lt-leb 3 (length (decimal day)) (omega (arith, two))) year.is
          (rw (bounds.0, bounds.1, days.0, days.1) refl);
    }

date_read : (d : PartialDate) → is_writable_date d ≡ true → IsDateRead (words_of_date d) d
unfolding words_of_date
date_read (date.Day y month day) ok =
    let year = both (is_writable_year y) (is_between 1 12 month && is_between 1 31 day) ok in
    let numbers = both (is_between 1 12 month) (is_between 1 31 day) year.1 in
    day_in_year month day y (year_read y year.0) numbers.0 numbers.1
date_read (date.Month y month) ok =
    let year = both (is_writable_year y) (is_between 1 12 month) ok in
    month_read month y year.0 year.1
date_read (date.Year y) ok =
    let year = year_read y ok in
    record {
      tokens = year_tokens year.first year.later;
      reads = year.reads;
      is = year_is year.first year.later y year.is;
    }

-- ---- extents

-- the text is read as parts that are the extent
record IsExtentRead (text : List ℕ) (e : Extent) : Type 0 where
  tokens : List Token
  reads : Reads text tokens
  is : IsExtent tokens e

-- a day before the day of its year
days_read : (a b : MonthDay) (y : Year) → is_writable_date (in_year a y) ≡ true
    → IsDateRead (words_of_date (in_year b y)) (in_year b y)
    → IsExtentRead (month_day_words a ++ (codes " to " ++ words_of_date (in_year b y)))
    (extent.DaysOfYear a b y)
days_read a b y ok last =
    let oks = both (is_writable_year y) (is_between 1 12 a.month && is_between 1 31 a.day) ok in
    let within = both (is_between 1 12 a.month) (is_between 1 31 a.day) oks.1 in
    let bounds = both (nat_le 1 a.month) (nat_le a.month 12) within.0 in
    let days = both (nat_le 1 a.day) (nat_le a.day 31) within.1 in
    let low : a.day ≤ 31 = leb-true a.day 31 days.1 in
    let number = numeral a.day (decimal a.day) in
    let two : length (decimal a.day) ≤ 2 =
    length-decimal-le 2 a.day (omega arith) (omega (arith, low)) (omega (arith, low)) in
    record {
      tokens = beginning_tokens number a.month ++ To ∷ last.tokens;
      reads = joined_reads blank
          (joined_reads blank (decimal_reads a.day (omega (arith, low)))
          (month_reads a.month (leb-true 1 a.month bounds.0) (leb-true a.month 12 bounds.1)))
          (begins_reads to_begins last.reads);
      is = days_of_year_is number a.month y b.month b.day
          (lt-leb 3 (length (decimal a.day)) (omega (arith, two)))
          (rw (bounds.0, bounds.1, days.0, days.1) refl) last.is;
    }

extent_read : (e : Extent) → is_writable_extent e ≡ true → IsExtentRead (words_of_extent e) e
unfolding words_of_extent
extent_read (extent.On d) ok =
    let read = date_read d ok in
    record { tokens = read.tokens; reads = read.reads; is = on_is read.is }
extent_read (extent.FromTo a b) ok =
    let oks = both (is_writable_date a) (is_writable_date b) ok in
    let first = date_read a oks.0 in
    let last = date_read b oks.1 in
    record {
      tokens = first.tokens ++ To ∷ last.tokens;
      reads = joined_reads blank first.reads (begins_reads to_begins last.reads);
      is = from_to_is first.is last.is;
    }
extent_read (extent.DaysOfYear a b y) ok =
    let oks = both (is_writable_date (in_year a y)) (is_writable_date (in_year b y)) ok in
    days_read a b y oks.0 (date_read (in_year b y) oks.1)
extent_read (extent.Before d) ok =
    let read = date_read d ok in
    record {
      tokens = Before ∷ read.tokens;
      reads = begins_reads before_begins read.reads;
      is = before_is read.is;
    }
extent_read (extent.NotAfter d) ok =
    let read = date_read d ok in
    record {
      tokens = Not ∷ After ∷ read.tokens;
      reads = begins_reads not_after_begins read.reads;
      is = not_after_is read.is;
    }
extent_read (extent.After d) ok =
    let read = date_read d ok in
    record {
      tokens = After ∷ read.tokens;
      reads = begins_reads after_begins read.reads;
      is = after_is read.is;
    }
extent_read (extent.NotBefore d) ok =
    let read = date_read d ok in
    record {
      tokens = Not ∷ Before ∷ read.tokens;
      reads = begins_reads not_before_begins read.reads;
      is = not_before_is read.is;
    }
extent_read (extent.Part portion d) ok = absurd (cc)
extent_read (extent.Feast feast year) ok = absurd (cc)

-- ---- after the extent

-- the text closes a date and says this
record IsTail (text : List ℕ) (r : Option Reckoning) (u s : Bool) : Type 0 where
  tokens : List Token
  closes : Closes text tokens
  says : Say tokens [] None r false u s

bracket_tail : (s : Bool) → IsTail (optional_word s (codes "]")) None false s
bracket_tail false = record { tokens = []; closes = nothing_closes; says = nothing_says }
bracket_tail true = record {
  tokens = Bracket ∷ [];
  closes = bracket_closes;
  says = token_adds Bracket refl nothing_says;
}

doubt_tail : {x : List ℕ} {s : Bool} (u : Bool) → IsTail x None false s
    → IsTail (optional_word u (codes "?") ++ x) None u s
doubt_tail false tail = tail
doubt_tail true tail = record {
  tokens = Doubt ∷ tail.tokens;
  closes = mark_closes doubt tail.closes;
  says = token_adds Doubt refl tail.says;
}

calendar_tail : {x : List ℕ} {u s : Bool} (r : Option Reckoning) → IsTail x None u s
    → IsTail (calendar_after r ++ x) r u s
calendar_tail None tail = tail
calendar_tail (Some OldStyle) tail = record {
  tokens = By OldStyle ∷ tail.tokens;
  closes = old_style_closes tail.closes;
  says = reckoning_adds OldStyle tail.says;
}
calendar_tail (Some NewStyle) tail = record {
  tokens = By NewStyle ∷ tail.tokens;
  closes = new_style_closes tail.closes;
  says = reckoning_adds NewStyle tail.says;
}

-- ---- the whole

closed_said : {x text : List ℕ} {ps : List Token} {e : Extent} {r : Option Reckoning} {u s : Bool}
    → Reads text ps → IsExtent ps e → IsTail x r u s
    → TextSays (text ++ x) ps None r false u s
closed_said {ps = ps} {r = r} {u = u} {s = s} reads is tail = record {
  tokens = ps ++ tail.tokens;
  scans = closed_scans reads tail.closes;
  says = subst (λ time_tokens. Say (ps ++ tail.tokens) time_tokens None r false u s) (append-nil ps)
      (is.adds tail.tokens [] None r false u s tail.says);
}

named_said : {x : List ℕ} {ps : List Token} {r : Option Reckoning} {u s : Bool} (w : Option Weekday)
    → TextSays x ps None r false u s → TextSays (weekday_before w ++ x) ps w r false u s
unfolding weekday_before
named_said None rest = rest
named_said (Some w) rest = record {
  tokens = OnWeekday w ∷ rest.tokens;
  scans = begun_scans (weekday_begins w) rest.scans;
  says = weekday_adds w rest.says;
}

about_said : {x : List ℕ} {ps : List Token} {w : Option Weekday} {r : Option Reckoning} {u s : Bool}
    (a : Bool) → TextSays x ps w r false u s
    → TextSays (optional_word a (codes "about ") ++ x) ps w r a u s
about_said false rest = rest
about_said true rest = record {
  tokens = About ∷ rest.tokens;
  scans = begun_scans about_begins rest.scans;
  says = token_adds About refl rest.says;
}

opened_said : {x : List ℕ} {ps : List Token} {w : Option Weekday} {r : Option Reckoning}
    {a u : Bool}
    (s : Bool) → TextSays x ps w r a u s → TextSays (optional_word s (codes "[") ++ x) ps w r a u s
opened_said false rest = rest
opened_said true rest = record {
  tokens = Bracket ∷ rest.tokens;
  scans = begun_scans bracket_begins rest.scans;
  says = token_adds Bracket refl rest.says;
}

-- a year that may be written isn't one of three digits
year_whole : (y : Year) → is_writable_year y ≡ true → y.has_three_digits ≡ false
year_whole y ok = is_not y.has_three_digits (both (nat_le y.first 10000) (not y.has_three_digits)
    ok).1

date_whole : (d : PartialDate) → is_writable_date d ≡ true → has_year_of_three_digits d ≡ false
date_whole (date.Day y month day) ok =
    year_whole y (both (is_writable_year y) (is_between 1 12 month && is_between 1 31 day) ok).0
date_whole (date.Month y month) ok =
    year_whole y (both (is_writable_year y) (is_between 1 12 month) ok).0
date_whole (date.Year y) ok = year_whole y ok

extent_whole : (e : Extent) → is_writable_extent e ≡ true → has_three_digits e ≡ false
extent_whole (extent.On d) ok = date_whole d ok
extent_whole (extent.FromTo a b) ok =
    let oks = both (is_writable_date a) (is_writable_date b) ok in
    rw (date_whole a oks.0) (date_whole b oks.1)
extent_whole (extent.DaysOfYear a b y) ok =
    date_whole (in_year a y) (both (is_writable_date (in_year a y)) (is_writable_date (in_year b y))
    ok).0
extent_whole (extent.Before d) ok = date_whole d ok
extent_whole (extent.NotAfter d) ok = date_whole d ok
extent_whole (extent.After d) ok = date_whole d ok
extent_whole (extent.NotBefore d) ok = date_whole d ok
extent_whole (extent.Part portion d) ok = absurd (cc)
extent_whole (extent.Feast feast year) ok = absurd (cc)

pub words_law : AreWordsRead
unfolding AreWordsRead words_of
words_law o w ok =
    let read = extent_read w.extent ok in
    let tail = calendar_tail w.reckoning (doubt_tail w.is_uncertain (bracket_tail w.is_supplied)) in
    text_read o w.extent
    (opened_said w.is_supplied (about_said w.is_approximate
    (named_said w.weekday (closed_said read.reads read.is tail))))
    read.is.dated (rw (extent_whole w.extent ok) refl) (read.is.is o)

-- ---- one day, without zeros before its year

and_false : (b : Bool) → (b && false) ≡ false
and_false true = refl
and_false false = refl

-- from the year 100 on the text of a day is read, with the name of a weekday before it or without
pub day_written : (named : Option Weekday) (n month day : ℕ) (double : Bool) → 100 ≤ n → n ≤ 10000
    → is_between 1 12 month ≡ true → is_between 1 31 day ≡ true
    → written_date (weekday_before named ++ words day month (padded_year [] n double))
    ≡ Ok (record {
      year = n;
      month = month;
      day = day;
      is_double = double;
      weekday = named;
    })
unfolding written_date
day_written named n month day double hundred high within on =
    let year = year_by [] 3 n double high (omega arith) (from_hundred n high hundred) in
    let text = words day month (padded_year [] n double) in
    let read = day_in_year month day (year_in n double (decimal n)) year within on in
    let is = on_is read.is in
    let said : TextSays text read.tokens None None false false false =
    subst (λ t. TextSays t read.tokens None None false false false) (append-nil text)
    (closed_said read.reads is (bracket_tail false)) in
    ap day_read (text_read Unknown (extent.On (date.Day (year_in n double (decimal n)) month day))
    (named_said named said) is.dated
    (and_false (length (decimal n) == 3 && nat_le 100 n)) (is.is Unknown))
