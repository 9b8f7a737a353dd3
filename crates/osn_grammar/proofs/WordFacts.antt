-- The words of a date, as they are scanned: months, weekdays, and words around a date.
use Rattle.std.proofs.Common.{ℕ, ◌≤◌, suc, List, [], ◌∷◌, ◌++◌, codes, refl, inl, inr, subst}
use Rattle.std.proofs.Common.{arith}
use Rattle.std.proofs.lemmas.Bool.{cases_order}
use Rattle.osn_days.specs.declared.weekday.Weekday.{Weekday}
use Rattle.osn_days.specs.declared.weekday.Weekday.TheVariants.{Sunday, Monday, Tuesday, Wednesday}
use Rattle.osn_days.specs.declared.weekday.Weekday.TheVariants.{Thursday, Friday, Saturday}
use Rattle.osn_days.specs.Month.{month_name}
use Rattle.osn_days.specs.Weekday.{weekday_name}
use Rattle.osn_grammar.specs.declared.token.Token.TheVariants as token
use Rattle.osn_grammar.specs.Names.{names}
use Rattle.osn_grammar.specs.declared.token.Token.{Token}
use Rattle.osn_written.specs.declared.any_date.Reckoning.TheVariants.{OldStyle, NewStyle}
use Rattle.osn_grammar.proofs.TextFacts.{Reads, Begins, Closes, blank, no_letter_alone}

-- ---- months

-- what is so of each number from 1 to 12
from_month : (P : ℕ → Type 0) (k m : ℕ) → k ≤ m → P k → (suc k ≤ m → P m) → P m
from_month P k m low here later =
    elim (cases_order k m) [
      | inl same ↦ subst P same here
      | inr (inl lt) ↦ later (omega (arith, lt))
      | inr (inr gt) ↦ absurd (omega (arith, gt, low))
    ]

abbrev IsMonthWord : ℕ → Type 0
IsMonthWord m = Reads (month_name m) (token.Month m ∷ [])

january : IsMonthWord 1
unfolding names lib.Utf8.encode
january = record { low = refl; is = λ rest ends. ends (codes "january") }

february : IsMonthWord 2
unfolding names lib.Utf8.encode
february = record { low = refl; is = λ rest ends. ends (codes "february") }

march : IsMonthWord 3
unfolding names lib.Utf8.encode
march = record { low = refl; is = λ rest ends. ends (codes "march") }

april : IsMonthWord 4
unfolding names lib.Utf8.encode
april = record { low = refl; is = λ rest ends. ends (codes "april") }

may : IsMonthWord 5
unfolding names lib.Utf8.encode
may = record { low = refl; is = λ rest ends. ends (codes "may") }

june : IsMonthWord 6
unfolding names lib.Utf8.encode
june = record { low = refl; is = λ rest ends. ends (codes "june") }

july : IsMonthWord 7
unfolding names lib.Utf8.encode
july = record { low = refl; is = λ rest ends. ends (codes "july") }

august : IsMonthWord 8
unfolding names lib.Utf8.encode
august = record { low = refl; is = λ rest ends. ends (codes "august") }

september : IsMonthWord 9
unfolding names lib.Utf8.encode
september = record { low = refl; is = λ rest ends. ends (codes "september") }

october : IsMonthWord 10
unfolding names lib.Utf8.encode
october = record { low = refl; is = λ rest ends. ends (codes "october") }

november : IsMonthWord 11
unfolding names lib.Utf8.encode
november = record { low = refl; is = λ rest ends. ends (codes "november") }

december : IsMonthWord 12
unfolding names lib.Utf8.encode
december = record { low = refl; is = λ rest ends. ends (codes "december") }

-- the name of a month is that month
pub month_reads : (m : ℕ) → 1 ≤ m → m ≤ 12 → Reads (month_name m) (token.Month m ∷ [])
month_reads m low high =
    from_month IsMonthWord 1 m low january (λ l.
    from_month IsMonthWord 2 m l february (λ l.
    from_month IsMonthWord 3 m l march (λ l.
    from_month IsMonthWord 4 m l april (λ l.
    from_month IsMonthWord 5 m l may (λ l.
    from_month IsMonthWord 6 m l june (λ l.
    from_month IsMonthWord 7 m l july (λ l.
    from_month IsMonthWord 8 m l august (λ l.
    from_month IsMonthWord 9 m l september (λ l.
    from_month IsMonthWord 10 m l october (λ l.
    from_month IsMonthWord 11 m l november (λ l.
    from_month IsMonthWord 12 m l december (λ l.
    absurd (omega (arith, l, high))))))))))))))

-- ---- weekdays

-- the name of a weekday and a blank are that weekday
pub weekday_begins : (w : Weekday) → Begins (weekday_name w ++ codes " ") (token.Weekday w ∷ [])
unfolding names lib.Utf8.encode
weekday_begins Sunday = record { low = refl; is = λ rest. refl }
weekday_begins Monday = record { low = refl; is = λ rest. refl }
weekday_begins Tuesday = record { low = refl; is = λ rest. refl }
weekday_begins Wednesday = record { low = refl; is = λ rest. refl }
weekday_begins Thursday = record { low = refl; is = λ rest. refl }
weekday_begins Friday = record { low = refl; is = λ rest. refl }
weekday_begins Saturday = record { low = refl; is = λ rest. refl }

-- ---- words before a date

pub about_begins : Begins (codes "about ") (token.About ∷ [])
unfolding names lib.Utf8.encode
about_begins = record { low = refl; is = λ rest. refl }

pub before_begins : Begins (codes "before ") (token.Before ∷ [])
unfolding names lib.Utf8.encode
before_begins = record { low = refl; is = λ rest. refl }

pub not_after_begins : Begins (codes "not after ") (token.Not ∷ token.After ∷ [])
unfolding names lib.Utf8.encode
not_after_begins = record { low = refl; is = λ rest. refl }

pub after_begins : Begins (codes "after ") (token.After ∷ [])
unfolding names lib.Utf8.encode
after_begins = record { low = refl; is = λ rest. refl }

pub not_before_begins : Begins (codes "not before ") (token.Not ∷ token.Before ∷ [])
unfolding names lib.Utf8.encode
not_before_begins = record { low = refl; is = λ rest. refl }

pub to_begins : Begins (codes "to ") (token.To ∷ [])
unfolding names lib.Utf8.encode
to_begins = record { low = refl; is = λ rest. refl }

-- ---- calendars

pub old_style_closes : {ps : List Token} {x : List ℕ} → Closes x ps
    → Closes (codes " O.S." ++ x) (token.Reckoning OldStyle ∷ ps)
unfolding names lib.Utf8.encode
old_style_closes {ps} {x} last = record {
  low = last.low;
  no_letter = refl;
  no_stop = refl;
  ends = blank.ends (codes "O.S." ++ x);
  is = rw (no_letter_alone x last.no_letter, last.no_stop, last.is) refl;
}

pub new_style_closes : {ps : List Token} {x : List ℕ} → Closes x ps
    → Closes (codes " N.S." ++ x) (token.Reckoning NewStyle ∷ ps)
unfolding names lib.Utf8.encode
new_style_closes {ps} {x} last = record {
  low = last.low;
  no_letter = refl;
  no_stop = refl;
  ends = blank.ends (codes "N.S." ++ x);
  is = rw (no_letter_alone x last.no_letter, last.no_stop, last.is) refl;
}

-- ---- brackets

pub bracket_begins : Begins (codes "[") (token.Bracket ∷ [])
bracket_begins = record { low = refl; is = λ rest. refl }
