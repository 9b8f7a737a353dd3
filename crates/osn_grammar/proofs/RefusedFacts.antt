-- Several days in digits are refused by every other form than that of a set.
use Rattle.std.proofs.Common.{◌≡◌, ℕ, Bool, true, false, ◌||◌, if◌then◌else◌}
use Rattle.std.proofs.Common.{List, [], ◌∷◌}
use Rattle.std.proofs.Common.{◌++◌, length, filter, unsigned_abs, Option, Some, None}
use Rattle.std.proofs.Common.{Result, Ok, Err, is_err, refl, arith}
use Rattle.std.proofs.lemmas.Bool.{ne_eqb}
use Rattle.std.specs.List.{list_any}
use Rattle.osn_days.specs.declared.date.Date.{Date}
use Rattle.osn_days.specs.Rules.{newest_rules}
use Rattle.osn_days.specs.declared.weekday.Weekday.{Weekday}
use Rattle.osn_grammar.specs.declared.token.Token.{Token}
use Rattle.osn_grammar.specs.declared.token.Token.TheVariants.{Number, Dash, Open}
use Rattle.osn_written.specs.declared.written_date.DateFault.{DateFault}
use Rattle.osn_written.specs.declared.written_date.DateFault.TheVariants as faults
use Rattle.osn_grammar.specs.declared.text_reading.DateOrder.{DateOrder}
use Rattle.osn_written.specs.declared.any_date.Extent.{Extent}
use Rattle.osn_written.specs.declared.any_date.Reckoning.{Reckoning}
use Rattle.osn_written.specs.declared.any_date.PartialDate.{PartialDate}
use Rattle.osn_written.specs.declared.any_date.AnyDate.{AnyDate}
use Rattle.osn_grammar.specs.declared.extent.Beginning.{Beginning}
use Rattle.osn_grammar.specs.declared.extent.Joining.TheVariants as joins
use Rattle.osn_grammar.specs.Extent.{beginning_of, dashed_range, date_or_range, extent_of}
use Rattle.osn_grammar.specs.Extent.{first_date, first_read, from_to}
use Rattle.osn_grammar.specs.Extent.{range_after, range_of}
use Rattle.osn_grammar.specs.Tokens.{is_of_time}
use Rattle.osn_grammar.specs.BothCalendars.{are_named, day_by_both}
use Rattle.osn_grammar.specs.declared.both_calendars.ReckonedDay.{ReckonedDay}
use Rattle.osn_grammar.specs.declared.reading.ReckonedExtent.{ReckonedExtent}
use Rattle.osn_grammar.specs.Reading.{after_estimated, date_of, is_undated, or_other, or_reason}
use Rattle.osn_grammar.specs.Reading.{reading_of_tokens, unless_open, is_about, is_feast}
use Rattle.osn_grammar.specs.Reading.{is_doubt, is_bracket, weekday_after, reckoning_after}
use Rattle.osn_grammar.specs.Reading.{extent_by_both, extent_in, as_date, feast_of, with_its_signs}
use Rattle.osn_grammar.specs.Feasts.{feast_in}
use Rattle.osn_grammar.specs.OpenDigits.{open_in}
use Rattle.osn_grammar.specs.Period.{period_in}
use Rattle.osn_grammar.specs.Roman.{roman_date}
use Rattle.osn_grammar.specs.SetsInDigits.{Days}
use Rattle.osn_grammar.specs.Forms.{partial_date}
use Rattle.osn_grammar.specs.Simple.{◌>>=◌}
use Rattle.osn_grammar.specs.Years.{years_in}
use Rattle.osn_grammar.proofs.DigitLaw.{tokens_of}

bind_err : {A B : Type 0} (r : Result A DateFault) (f : A → Result B DateFault) → is_err r ≡ true
    → is_err (r >>= f) ≡ true
bind_err (Ok x) f wrong = absurd (cc)
bind_err (Err fault) f wrong = refl

both_err : (a b : Result Extent DateFault) → is_err a ≡ true → is_err b ≡ true
    → is_err (first_read a b) ≡ true
both_err (Ok e) b first other = absurd (cc)
both_err (Err f) (Ok e) first other = absurd (cc)
both_err (Err faults.Malformed) (Err g) first other = refl
both_err (Err f) (Err g) first other = refl

-- a range is refused whose last date is
range_refused : (none : Bool) (whole : Result PartialDate DateFault) (beginning : Beginning)
    (last : Result PartialDate DateFault) → is_err last ≡ true
    → is_err (if none then Err faults.Malformed else range_of whole beginning last) ≡ true
range_refused true whole beginning last wrong = refl
range_refused false whole beginning last wrong =
    bind_err last (λ end. first_date whole beginning end >>= (λ start.
    Ok (from_to beginning start end))) wrong

-- a range after a dash is refused whose last date is
dashed_refused : (belongs none : Bool) (whole : Result PartialDate DateFault)
    (beginning : Beginning) (last : Result PartialDate DateFault) → is_err last ≡ true
    → is_err (if belongs then Err faults.Malformed
    else (if none then Err faults.Malformed else range_of whole beginning last)) ≡ true
dashed_refused true none whole beginning last wrong = refl
dashed_refused false none whole beginning last wrong = range_refused none whole beginning last wrong

-- after a month and a day these parts are neither a date nor a range
record AreNoDate (more : List Token) : Type 0 where
  month : (o : DateOrder) (m d : ℕ)
      → is_err (partial_date o (Number (record { value = m; digits = 2 }) ∷ Dash
      ∷ Number (record { value = d; digits = 2 }) ∷ more)) ≡ true
  day : (o : DateOrder) (d : ℕ)
      → is_err (partial_date o (Number (record { value = d; digits = 2 }) ∷ more)) ≡ true
  range : (o : DateOrder) (before : List Token)
      → is_err (range_after o joins.Any before more) ≡ true

nothing_more : AreNoDate []
nothing_more = record {
  month = λ o m d. refl;
  day = λ o d. refl;
  range = λ o before. refl;
}

abbrev pub tokens_of_date : Date → List Token
tokens_of_date d = tokens_of (unsigned_abs d.year) d.month d.day

-- a day before such parts
day_refused : {more : List Token} (y m d : ℕ) → AreNoDate more → (o : DateOrder)
    (before : List Token) → is_err (range_after o joins.Any before (tokens_of y m d ++ more)) ≡ true
day_refused {more} y m d none o before =
    let year = Number (record { value = y; digits = 4 }) in
    let month = Number (record { value = m; digits = 2 }) in
    let day = Number (record { value = d; digits = 2 }) in
    let at_month = before ++ year ∷ [] in
    let after_month = (at_month ++ Dash ∷ []) ++ month ∷ [] in
    let at_end = (after_month ++ Dash ∷ []) ++ day ∷ [] in
    let end = range_after o joins.Any at_end more in
    let last = first_read (Err faults.Malformed) end in
    let days = first_read (dashed_range o after_month (day ∷ more)) last in
    let months = first_read (Err faults.Malformed) days in
    both_err (Err faults.Malformed)
    (first_read (dashed_range o at_month (month ∷ Dash ∷ day ∷ more)) months) refl
    (both_err (dashed_range o at_month (month ∷ Dash ∷ day ∷ more)) months
    (dashed_refused _ _ (partial_date o at_month) (beginning_of at_month)
    (partial_date o (month ∷ Dash ∷ day ∷ more)) (none.month o m d))
    (both_err (Err faults.Malformed) days refl
    (both_err (dashed_range o after_month (day ∷ more)) last
    (dashed_refused _ _ (partial_date o after_month) (beginning_of after_month)
    (partial_date o (day ∷ more)) (none.day o d))
    (both_err (Err faults.Malformed) end refl (none.range o at_end)))))

-- the parts of days that say which day is meant, one after another
abbrev pub time_tokens : List Days → List Token
time_tokens [] = []
time_tokens ((d, None) ∷ rest) = tokens_of_date d ++ time_tokens rest
time_tokens ((d, Some e) ∷ rest) = tokens_of_date d ++ Open ∷ (tokens_of_date e ++ time_tokens rest)

opened : {more : List Token} (e : Date) → AreNoDate more
    → AreNoDate (Open ∷ (tokens_of_date e ++ more))
opened {more} e none = record {
  month = λ o m d. refl;
  day = λ o d. refl;
  range = λ o before. both_err (Err faults.Malformed)
      (range_after o joins.Any (before ++ Open ∷ []) (tokens_of_date e ++ more)) refl
      (day_refused (unsigned_abs e.year) e.month e.day none o (before ++ Open ∷ []));
}

no_date : (days : List Days) → AreNoDate (time_tokens days)
no_date [] = nothing_more
no_date ((d, None) ∷ rest) = record {
  month = λ o m e. refl;
  day = λ o e. refl;
  range = day_refused (unsigned_abs d.year) d.month d.day (no_date rest);
}
no_date ((d, Some e) ∷ rest) = record {
  month = λ o m e. refl;
  day = λ o e. refl;
  range = day_refused (unsigned_abs d.year) d.month d.day (opened e (no_date rest));
}

pub extent_refused : (o : DateOrder) (first next : Days) (rest : List Days)
    → is_err (extent_of o (time_tokens (first ∷ next ∷ rest))) ≡ true
unfolding date_or_range
extent_refused o (d, None) (e, None) rest = (no_date ((d, None) ∷ (e, None) ∷ rest)).range o []
extent_refused o (d, None) (e, Some f) rest = (no_date ((d, None) ∷ (e, Some f) ∷ rest)).range o []
extent_refused o (d, Some e) next rest = (no_date ((d, Some e) ∷ next ∷ rest)).range o []

pub dated : (days : Days) (rest : List Days) → is_undated (time_tokens (days ∷ rest)) ≡ false
dated (d, None) rest = refl
dated (d, Some e) rest = refl

date_refused : (weekday : Result (Option Weekday) DateFault)
    (time : Result ReckonedExtent DateFault)
    (f : Option Weekday → ReckonedExtent → Result AnyDate DateFault) → is_err time ≡ true
    → is_err (weekday >>= (λ w. time >>= f w)) ≡ true
date_refused (Err fault) time f wrong = refl
date_refused (Ok w) time f wrong = bind_err time (f w) wrong

reason_refused : (tokens ts : List Token) (date : Result AnyDate DateFault) → is_err date ≡ true
    → is_err (or_reason tokens ts date) ≡ true
reason_refused tokens ts (Ok w) wrong = absurd (cc)
reason_refused tokens ts (Err fault) wrong = refl

-- parts that have none of the other forms
pub record HaveNoOtherForm (ts : List Token) : Type 0 where
  pub estimated : (o : DateOrder) (tokens : List Token)
      → after_estimated o tokens ts ≡ Err faults.Malformed
  pub digits : open_in ts ≡ None
  pub years : years_in ts ≡ None
  pub period : period_in ts ≡ None
  pub roman : roman_date ts ≡ Err faults.Malformed
  pub both : (tokens : List Token) → day_by_both newest_rules tokens ts ≡ Err faults.Malformed
  pub feast : (weekday : Option Weekday) → feast_in weekday ts ≡ Err faults.Feast

time_refused : (o : DateOrder) (tokens ts : List Token) (r : Option Reckoning)
    (read : Result Extent DateFault) → HaveNoOtherForm ts → is_err read ≡ true
    → is_err (or_other o tokens ts r read) ≡ true
time_refused o tokens ts r (Ok e) other wrong = absurd (cc)
time_refused o tokens ts None (Err fault) other wrong =
    rw (
      other.digits,
      other.estimated o tokens,
      other.years,
      other.period,
      other.roman,
      other.both tokens,
    ) refl
time_refused o tokens ts (Some r) (Err fault) other wrong =
    rw (
      other.digits,
      other.estimated o tokens,
      other.years,
      other.period,
      other.roman,
      other.both tokens,
    ) refl

named_refused : (named : Bool) (fault : DateFault) (day : Result ReckonedDay DateFault)
    → day ≡ Err faults.Malformed
    → is_err (extent_by_both None fault (if named then day else Err faults.Malformed)) ≡ true
named_refused true fault day none = rw none refl
named_refused false fault day none = refl

extent_in_refused : (o : DateOrder) (tokens ts : List Token)
    (named : Result (Option Reckoning) DateFault) → HaveNoOtherForm ts
    → is_err (extent_of o ts) ≡ true → is_err (extent_in o tokens ts named) ≡ true
extent_in_refused o tokens ts (Ok r) other wrong =
    time_refused o tokens ts r (extent_of o ts) other wrong
extent_in_refused o tokens ts (Err fault) other wrong =
    named_refused (are_named tokens) fault (day_by_both newest_rules tokens ts) (other.both tokens)

named_feast : (weekday : Result (Option Weekday) DateFault)
    (reckoning : Result (Option Reckoning) DateFault) (tokens ts : List Token) → HaveNoOtherForm ts
    → is_err (as_date (weekday >>= (λ w. reckoning >>= (λ r. feast_in w ts >>= (λ e.
    with_its_signs tokens r e))))) ≡ true
named_feast (Err fault) reckoning tokens ts other = refl
named_feast (Ok w) (Err fault) tokens ts other = refl
named_feast (Ok w) (Ok r) tokens ts other = rw (other.feast w) refl

feast_refused : (tokens ts : List Token) → HaveNoOtherForm ts
    → is_err (as_date (feast_of tokens ts)) ≡ true
feast_refused tokens ts other =
    named_feast (weekday_after None tokens) (reckoning_after None tokens) tokens ts other

unless_refused : (feast : Bool) (o : DateOrder) (tokens ts : List Token) → HaveNoOtherForm ts
    → is_err (extent_of o ts) ≡ true
    → is_err (if feast then as_date (feast_of tokens ts)
    else or_reason tokens ts (date_of o tokens ts)) ≡ true
unless_refused true o tokens ts other wrong = feast_refused tokens ts other
unless_refused false o tokens ts other wrong =
    reason_refused tokens ts (date_of o tokens ts)
    (date_refused (weekday_after None tokens) (extent_in o tokens ts (reckoning_after None tokens))
    (λ w time. unless_open (record {
      extent = time.extent;
      weekday = w;
      reckoning = time.reckoning;
      is_approximate = time.is_part || list_any is_about tokens;
      is_uncertain = list_any is_doubt tokens;
      is_supplied = list_any is_bracket tokens;
    })) (extent_in_refused o tokens ts (reckoning_after None tokens) other wrong))

pub other_refused : (first next : Days) (rest : List Days)
    → HaveNoOtherForm (time_tokens (first ∷ next ∷ rest))
other_refused (d, None) (e, None) rest = record {
  estimated = λ o tokens. refl;
  digits = refl;
  years = refl;
  period = refl;
  roman = refl;
  both = λ tokens. refl;
  feast = λ weekday. refl;
}
other_refused (d, None) (e, Some f) rest = record {
  estimated = λ o tokens. refl;
  digits = refl;
  years = refl;
  period = refl;
  roman = refl;
  both = λ tokens. refl;
  feast = λ weekday. refl;
}
other_refused (d, Some e) next rest = record {
  estimated = λ o tokens. refl;
  digits = refl;
  years = refl;
  period = refl;
  roman = refl;
  both = λ tokens. refl;
  feast = λ weekday. refl;
}

pub said_refused : (o : DateOrder) (p : Token) (ps ts : List Token) → filter is_of_time (p ∷ ps)
    ≡ ts → is_undated ts ≡ false → HaveNoOtherForm ts → is_err (extent_of o ts) ≡ true
    → is_err (reading_of_tokens o (p ∷ ps) (filter is_of_time (p ∷ ps))) ≡ true
said_refused o p ps ts is dated other wrong =
    rw (ne_eqb (length (p ∷ ps)) 0 (λ none. omega (arith, none)), is, dated)
    (unless_refused (list_any is_feast (p ∷ ps)) o (p ∷ ps) ts other wrong)
