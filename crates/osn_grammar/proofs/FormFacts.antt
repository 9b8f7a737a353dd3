-- The parts of a date in words are read as that date, by themselves and in a range.
use Rattle.std.proofs.Common.{◌≡◌, ℕ, true, false, List, [], ◌∷◌, ◌++◌, Option, Some, None}
use Rattle.std.proofs.Common.{Result, Ok, Err}
use Rattle.std.proofs.Common.{refl, sym, subst, subst₂, append_assoc, append-nil}
use Rattle.osn_grammar.specs.declared.token.Numeral.{Numeral}
use Rattle.osn_grammar.specs.declared.token.Token.{Token}
use Rattle.osn_grammar.specs.declared.token.Token.TheVariants.{Number, Month, Slash, To, Before}
use Rattle.osn_grammar.specs.declared.token.Token.TheVariants.{After, Not}
use Rattle.osn_written.specs.declared.written_date.DateFault.{DateFault}
use Rattle.osn_written.specs.declared.written_date.DateFault.TheVariants as faults
use Rattle.osn_grammar.specs.declared.text_reading.DateOrder.{DateOrder}
use Rattle.osn_written.specs.declared.any_date.Extent.{Extent}
use Rattle.osn_written.specs.declared.any_date.Extent.TheVariants as extent
use Rattle.osn_written.specs.declared.any_date.PartialDate.{PartialDate}
use Rattle.osn_written.specs.declared.any_date.PartialDate.TheVariants as date
use Rattle.osn_written.specs.declared.any_date.Year.{Year}
use Rattle.osn_grammar.specs.Extent.{date_or_range, extent_of, first_read}
use Rattle.osn_grammar.specs.Reading.{is_undated}
use Rattle.osn_grammar.specs.Forms.{partial_date}
use Rattle.osn_grammar.specs.Simple.{◌>>=◌, is_long, year_of}
use Rattle.osn_grammar.specs.Simple.{month_in, day_in}
use Rattle.osn_grammar.proofs.TokenFacts.{Say, Adds, token_adds}

-- the parts of a year's numbers
abbrev pub later_tokens : Option Numeral → List Token
later_tokens None = []
later_tokens (Some l) = Slash ∷ Number l ∷ []

abbrev pub year_tokens : Numeral → Option Numeral → List Token
year_tokens first later = Number first ∷ later_tokens later

-- these are the numbers of the year
pub record IsYear (first : Numeral) (later : Option Numeral) (year : Year) : Type 0 where
  pub long : is_long first ≡ true
  pub is : year_of (record { first = first; later = later }) ≡ Ok year

-- the parts are the date, before `to` and another date too
pub record IsDate (tokens : List Token) (d : PartialDate) : Type 0 where
  pub is : (o : DateOrder) → partial_date o tokens ≡ Ok d
  pub alone : (o : DateOrder) → extent_of o tokens ≡ Ok (extent.On d)
  pub dated : (last : List Token) → is_undated (tokens ++ last) ≡ false
  pub adds : Adds tokens
  pub first : (o : DateOrder) (last : List Token) (b : PartialDate) → partial_date o last ≡ Ok b
      → extent_of o (tokens ++ To ∷ last) ≡ Ok (extent.FromTo d b)

-- ---- what the parts add

year_adds : (first : Numeral) (later : Option Numeral) → Adds (year_tokens first later)
year_adds first None rest ts w r a u s rest_says = token_adds (Number first) refl rest_says
year_adds first (Some later) rest ts w r a u s rest_says =
    token_adds (Number first) refl
    (token_adds Slash refl (token_adds (Number later) refl rest_says))

month_adds : (month : ℕ) (first : Numeral) (later : Option Numeral)
    → Adds (Month month ∷ year_tokens first later)
month_adds month first later rest ts w r a u s rest_says =
    token_adds (Month month) refl (year_adds first later rest ts w r a u s rest_says)

day_adds : (day : Numeral) (month : ℕ) (first : Numeral) (later : Option Numeral)
    → Adds (Number day ∷ Month month ∷ year_tokens first later)
day_adds day month first later rest ts w r a u s rest_says =
    token_adds (Number day) refl (month_adds month first later rest ts w r a u s rest_says)

-- ---- a day

abbrev day_tokens : Numeral → ℕ → Numeral → Option Numeral → List Token
day_tokens day month first later = Number day ∷ Month month ∷ year_tokens first later

pub day_is : (day : Numeral) (month : ℕ) (first : Numeral) (later : Option Numeral) (year : Year)
    → is_long day ≡ false → IsYear first later year
    → day_in year month day.value ≡ Ok (date.Day year month day.value)
    → IsDate (day_tokens day month first later) (date.Day year month day.value)
unfolding date_or_range
day_is day month first None year short read is = record {
  is = λ o. rw (short, read.is, is) refl;
  alone = λ o. rw (short, read.is, is) refl;
  dated = λ last. refl;
  adds = day_adds day month first None;
  first = λ o last b after. rw (after, short, read.is, is) refl;
}
day_is day month first (Some later) year short read is = record {
  is = λ o. rw (short, read.is, is) refl;
  alone = λ o. rw (short, read.is, is) refl;
  dated = λ last. refl;
  adds = day_adds day month first (Some later);
  first = λ o last b after. rw (after, short, read.is, is) refl;
}

-- ---- a day of the year of another one

abbrev pub beginning_tokens : Numeral → ℕ → List Token
beginning_tokens day month = Number day ∷ Month month ∷ []

-- before `to` and a day the parts are a day of its year
beginning_first : (day : Numeral) (m : ℕ) (o : DateOrder) (last : List Token) (year : Year)
    (month d : ℕ) → is_long day ≡ false
    → day_in year m day.value ≡ Ok (date.Day year m day.value)
    → partial_date o last ≡ Ok (date.Day year month d)
    → extent_of o (beginning_tokens day m ++ To ∷ last)
    ≡ Ok (extent.DaysOfYear (record { month = m; day = day.value })
    (record { month = month; day = d }) year)
unfolding date_or_range
beginning_first day m o last year month d short is after = rw (after, short, is) refl

beginning_adds : (day : Numeral) (month : ℕ) → Adds (beginning_tokens day month)
beginning_adds day month rest ts w r a u s rest_says =
    token_adds (Number day) refl (token_adds (Month month) refl rest_says)

-- ---- a month

pub month_is : (month : ℕ) (first : Numeral) (later : Option Numeral) (year : Year)
    → IsYear first later year → month_in year month ≡ Ok (date.Month year month)
    → IsDate (Month month ∷ year_tokens first later) (date.Month year month)
unfolding date_or_range
month_is month first None year read is = record {
  is = λ o. rw (read.is, is) refl;
  alone = λ o. rw (read.is, is) refl;
  dated = λ last. refl;
  adds = month_adds month first None;
  first = λ o last b after. rw (after, read.is, read.long, is) refl;
}
month_is month first (Some later) year read is = record {
  is = λ o. rw (read.is, is) refl;
  alone = λ o. rw (read.is, is) refl;
  dated = λ last. refl;
  adds = month_adds month first (Some later);
  first = λ o last b after. rw (after, read.is, is) refl;
}

-- ---- a year

-- if the last date is not in digits, the next reading counts, whatever the first is
after_digits : (first : Result PartialDate DateFault) (e : Extent)
    → first_read (Err faults.Malformed)
    (first_read (first >>= λ start. Err faults.Malformed) (Ok e)) ≡ Ok e
after_digits (Ok d) e = refl
after_digits (Err f) e = refl

pub year_is : (first : Numeral) (later : Option Numeral) (year : Year) → IsYear first later year
    → IsDate (year_tokens first later) (date.Year year)
unfolding date_or_range
year_is first None year read = record {
  is = λ o. rw read.is refl;
  alone = λ o. rw read.is refl;
  dated = λ last. refl;
  adds = year_adds first None;
  first = λ o last b after. rw (after, read.is, read.long) refl;
}
year_is first (Some later) year read = record {
  is = λ o. rw (read.is, read.long) refl;
  alone = λ o. rw (read.is, read.long) refl;
  dated = λ last. refl;
  adds = year_adds first (Some later);
  first = λ o last b after. rw (after, read.is, read.long)
      (after_digits _ (extent.FromTo (date.Year year) b));
}

-- ---- extents

-- the parts are a date, a range or a bound, and say no more
pub record IsExtent (tokens : List Token) (e : Extent) : Type 0 where
  pub is : (o : DateOrder) → extent_of o tokens ≡ Ok e
  pub dated : is_undated tokens ≡ false
  pub adds : Adds tokens

pub on_is : {ps : List Token} {d : PartialDate} → IsDate ps d → IsExtent ps (extent.On d)
on_is {ps} read = record {
  is = read.alone;
  dated = subst (λ tokens. is_undated tokens ≡ false) (append-nil ps) (read.dated []);
  adds = read.adds;
}

both_add : (ps qs : List Token) → Adds ps → Adds qs → Adds (ps ++ qs)
both_add ps qs first last rest ts w r a u s rest_says =
    subst₂ (λ tokens time_tokens. Say tokens time_tokens w r a u s) (sym (append_assoc ps qs rest))
    (sym (append_assoc ps qs ts))
    (first (qs ++ rest) (qs ++ ts) w r a u s (last rest ts w r a u s rest_says))

pub from_to_is : {ps qs : List Token} {a b : PartialDate} → IsDate ps a → IsDate qs b
    → IsExtent (ps ++ To ∷ qs) (extent.FromTo a b)
from_to_is {ps} {qs} {a} {b} first last = record {
  is = λ o. first.first o qs b (last.is o);
  dated = first.dated (To ∷ qs);
  adds = both_add ps (To ∷ qs) first.adds
      (λ rest ts w r about doubt bracket rest_says.
      token_adds To refl (last.adds rest ts w r about doubt bracket rest_says));
}

pub days_of_year_is : {qs : List Token} (day : Numeral) (m : ℕ) (year : Year) (month d : ℕ)
    → is_long day ≡ false → day_in year m day.value ≡ Ok (date.Day year m day.value)
    → IsDate qs (date.Day year month d)
    → IsExtent (beginning_tokens day m ++ To ∷ qs)
    (extent.DaysOfYear (record { month = m; day = day.value }) (record { month = month; day = d })
    year)
days_of_year_is {qs} day m year month d short is last = record {
  is = λ o. beginning_first day m o qs year month d short is (last.is o);
  dated = refl;
  adds = both_add (beginning_tokens day m) (To ∷ qs) (beginning_adds day m)
      (λ rest ts w r about doubt bracket rest_says.
      token_adds To refl (last.adds rest ts w r about doubt bracket rest_says));
}

pub before_is : {ps : List Token} {d : PartialDate} → IsDate ps d
    → IsExtent (Before ∷ ps) (extent.Before d)
before_is read = record {
  is = λ o. rw (read.is o) refl;
  dated = refl;
  adds = λ rest ts w r a u s rest_says.
      token_adds Before refl (read.adds rest ts w r a u s rest_says);
}

pub after_is : {ps : List Token} {d : PartialDate} → IsDate ps d
    → IsExtent (After ∷ ps) (extent.After d)
after_is read = record {
  is = λ o. rw (read.is o) refl;
  dated = refl;
  adds = λ rest ts w r a u s rest_says.
      token_adds After refl (read.adds rest ts w r a u s rest_says);
}

pub not_before_is : {ps : List Token} {d : PartialDate} → IsDate ps d
    → IsExtent (Not ∷ Before ∷ ps) (extent.NotBefore d)
not_before_is read = record {
  is = λ o. rw (read.is o) refl;
  dated = refl;
  adds = λ rest ts w r a u s rest_says.
      token_adds Not refl (token_adds Before refl (read.adds rest ts w r a u s rest_says));
}

pub not_after_is : {ps : List Token} {d : PartialDate} → IsDate ps d
    → IsExtent (Not ∷ After ∷ ps) (extent.NotAfter d)
not_after_is read = record {
  is = λ o. rw (read.is o) refl;
  dated = refl;
  adds = λ rest ts w r a u s rest_says.
      token_adds Not refl (token_adds After refl (read.adds rest ts w r a u s rest_says));
}
