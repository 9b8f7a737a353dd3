-- Dates in digits with their signs are read as those dates.
use Rattle.std.proofs.Common.{◌≡◌, ℕ, zero, suc, ◌≤◌, ◌<◌, ◌-◌, ◌^◌, ◌≤ℤ◌, nat_le, nat_lt, ℤ, pos}
use Rattle.std.proofs.Common.{negsuc, unsigned_abs, Bool, true}
use Rattle.std.proofs.Common.{false, List, [], ◌∷◌, ◌++◌, codes, length, replicate, None, Ok, refl}
use Rattle.std.proofs.Common.{ap, ◌∙◌, sym, subst₂, arith, append-nil}
use Rattle.std.proofs.lemmas.Bool.{le-leb, le-ltb}
use Rattle.std.proofs.lemmas.Fmt.{decimal_is_IsNumeral}
use Rattle.std.proofs.lemmas.Int.{ints}
use Rattle.std.proofs.lemmas.Str.Parse.{numerals_by_value, tells_all_ascii_digits}
use Rattle.std.specs.Fmt.{decimal}
use Rattle.std.specs.Str.{all_ascii_digits}
use Rattle.std.specs.Str.Parse.{digits_value}
use Rattle.osn_days.specs.declared.date.Date.{Date}
use Rattle.osn_days.specs.DateText.{at_least, date_digits, date_text, text_of_date}
use Rattle.osn_days.proofs.DateDigits.{two_digits, four_digits}
use Rattle.osn_grammar.specs.declared.token.Token.{Token}
use Rattle.osn_grammar.specs.declared.token.Token.TheVariants.{Number, Dash, Slash, Open, About}
use Rattle.osn_grammar.specs.declared.token.Token.TheVariants.{Doubt, AboutAndDoubt}
use Rattle.osn_grammar.specs.declared.text_reading.DateOrder.{DateOrder}
use Rattle.osn_written.specs.declared.any_date.Extent.TheVariants as extent
use Rattle.osn_written.specs.declared.any_date.PartialDate.{PartialDate}
use Rattle.osn_written.specs.declared.any_date.PartialDate.TheVariants as date
use Rattle.osn_grammar.specs.Extent.{date_or_range, extent_of}
use Rattle.osn_grammar.specs.InDigits.{AreDigitsRead, HasFourDigits, sign}
use Rattle.osn_grammar.proofs.TokenFacts.{Say, TextSays, nothing_says, token_adds, text_read}
use Rattle.osn_grammar.proofs.TextFacts.{Reads, Begins, Closes, dash, slash, doubt, about}
use Rattle.osn_grammar.proofs.TextFacts.{about_and_doubt, digits_read, joined_reads, marked_begins}
use Rattle.osn_grammar.proofs.TextFacts.{begins_reads, reads_begun, closed_scans, reads_scan}

-- ---- numbers with zeros before them

zeros_digits : (k : ℕ) (ds : List ℕ) → all_ascii_digits ds ≡ true
    → all_ascii_digits (replicate k 48 ++ ds) ≡ true
zeros_digits zero ds digits = digits
zeros_digits (suc k) ds digits = zeros_digits k ds digits

zeros_value : (k : ℕ) (ds : List ℕ)
    → digits_value 10 (replicate k 48 ++ ds) ≡ digits_value 10 ds
zeros_value zero ds = refl
zeros_value (suc k) ds = zeros_value k ds

pub padded_digits : (w n : ℕ) → n < 10 ^ 9 → all_ascii_digits (at_least w n) ≡ true
padded_digits w n small =
    let own = numerals_by_value (λ ds. all_ascii_digits ds ≡ true) tells_all_ascii_digits in
    let numeral = decimal_is_IsNumeral n (omega (arith, small)) in
    zeros_digits (w - length (decimal n)) (decimal n) (own.from (decimal n) numeral.0.1)

-- a number in a count of digits
padded_reads : (w n : ℕ) → n < 10 ^ 9 → length (at_least w n) ≡ w → 1 ≤ w → w ≤ 9
    → Reads (at_least w n) (Number (record { value = n; digits = w }) ∷ [])
padded_reads w n small count some few =
    let numeral = decimal_is_IsNumeral n (omega (arith, small)) in
    digits_read (at_least w n) n w (padded_digits w n small)
    (zeros_value (w - length (decimal n)) (decimal n) ∙ numeral.1) count some few

-- ---- a date

abbrev pub tokens_of : ℕ → ℕ → ℕ → List Token
tokens_of y m d =
    Number (record { value = y; digits = 4 }) ∷ Dash ∷ Number (record { value = m; digits = 2 })
    ∷ Dash ∷ Number (record { value = d; digits = 2 }) ∷ []

date_reads : (y m d : ℕ) → y < 10000 → m < 100 → d < 100
    → Reads (date_digits y m d) (tokens_of y m d)
date_reads y m d hy hm hd =
    joined_reads dash
    (padded_reads 4 y (omega (arith, hy)) (ap length (four_digits y hy)) (omega arith)
    (omega arith))
    (joined_reads dash
    (padded_reads 2 m (omega (arith, hm)) (ap length (two_digits m hm)) (omega arith)
    (omega arith))
    (padded_reads 2 d (omega (arith, hd)) (ap length (two_digits d hd)) (omega arith)
    (omega arith)))

-- these are the numbers of a date
pub record IsDay (y m d : ℕ) : Type 0 where
  pub year_high : nat_lt 10000 y ≡ false
  pub month_low : nat_le 1 m ≡ true
  pub month_high : nat_le m 12 ≡ true
  pub day_low : nat_le 1 d ≡ true
  pub day_high : nat_le d 31 ≡ true

abbrev day : ℕ → ℕ → ℕ → PartialDate
day y m d = date.Day (record {
  first = y;
  is_double = false;
  has_three_digits = false;
}) m d

on_read : (o : DateOrder) (y m d : ℕ) → IsDay y m d
    → extent_of o (tokens_of y m d) ≡ Ok (extent.On (day y m d))
unfolding date_or_range
on_read o y m d h = rw (h.year_high, h.month_low, h.month_high, h.day_low, h.day_high) refl

range_read : (o : DateOrder) (y m d z n e : ℕ) → IsDay y m d → IsDay z n e
    → extent_of o (tokens_of y m d ++ Slash ∷ tokens_of z n e)
    ≡ Ok (extent.FromTo (day y m d) (day z n e))
unfolding date_or_range
range_read o y m d z n e h g =
    rw (g.year_high, g.month_low, g.month_high, g.day_low, g.day_high)
    (rw (h.year_high, h.month_low, h.month_high, h.day_low, h.day_high) refl)

not_after_read : (o : DateOrder) (y m d : ℕ) → IsDay y m d
    → extent_of o (Open ∷ Slash ∷ tokens_of y m d) ≡ Ok (extent.NotAfter (day y m d))
unfolding date_or_range
not_after_read o y m d h = rw (h.year_high, h.month_low, h.month_high, h.day_low, h.day_high) refl

not_before_read : (o : DateOrder) (y m d : ℕ) → IsDay y m d
    → extent_of o (tokens_of y m d ++ Slash ∷ Open ∷ []) ≡ Ok (extent.NotBefore (day y m d))
unfolding date_or_range
not_before_read o y m d h = rw (h.year_high, h.month_low, h.month_high, h.day_low, h.day_high) refl

-- ---- signs

abbrev pub sign_tokens : Bool → Bool → List Token
sign_tokens false false = []
sign_tokens false true = Doubt ∷ []
sign_tokens true false = About ∷ []
sign_tokens true true = AboutAndDoubt ∷ []

pub signed_reads : {x : List ℕ} {ps : List Token} (a u : Bool) → Reads x ps
    → Reads (x ++ sign a u) (ps ++ sign_tokens a u)
signed_reads {x} {ps} false false read =
    subst₂ Reads (sym (append-nil x)) (sym (append-nil ps)) read
signed_reads false true read = reads_begun (marked_begins doubt read)
signed_reads true false read = reads_begun (marked_begins about read)
signed_reads true true read = reads_begun (marked_begins about_and_doubt read)

sign_says : (a u : Bool) → Say (sign_tokens a u) [] None None a u false
sign_says false false = nothing_says
sign_says false true = token_adds Doubt refl nothing_says
sign_says true false = token_adds About refl nothing_says
sign_says true true = token_adds AboutAndDoubt refl nothing_says

-- a sign, if none came after it
sign_before : {ps ts : List Token} (a u : Bool) → Say ps ts None None false false false
    → Say (sign_tokens a u ++ ps) ts None None a u false
sign_before false false rest_says = rest_says
sign_before false true rest_says = token_adds Doubt refl rest_says
sign_before true false rest_says = token_adds About refl rest_says
sign_before true true rest_says = token_adds AboutAndDoubt refl rest_says

-- a sign that was found already, found again, changes nothing
sign_added : {ps ts : List Token} (a u : Bool) → Say ps ts None None a u false
    → Say (sign_tokens a u ++ ps) ts None None a u false
sign_added false false rest_says = rest_says
sign_added false true rest_says = token_adds Doubt refl rest_says
sign_added true false rest_says = token_adds About refl rest_says
sign_added true true rest_says = token_adds AboutAndDoubt refl rest_says

date_added : {ps ts : List Token} {a u : Bool} (y m d : ℕ) → Say ps ts None None a u false
    → Say (tokens_of y m d ++ ps) (tokens_of y m d ++ ts) None None a u false
date_added y m d rest_says =
    token_adds (Number (record { value = y; digits = 4 })) refl
    (token_adds Dash refl
    (token_adds (Number (record { value = m; digits = 2 })) refl
    (token_adds Dash refl
    (token_adds (Number (record { value = d; digits = 2 })) refl rest_says))))

-- ---- the law

-- the text of numbers that are a date's
pub record IsDateText (text : List ℕ) (y m d : ℕ) : Type 0 where
  pub reads : Reads text (tokens_of y m d)
  pub is : IsDay y m d

day_says : {x : List ℕ} (y m d : ℕ) (a u : Bool) → IsDateText x y m d
    → TextSays (x ++ sign a u) (tokens_of y m d) None None a u false
day_says y m d a u text = record {
  tokens = tokens_of y m d ++ sign_tokens a u;
  scans = reads_scan (signed_reads a u text.reads);
  says = date_added y m d (sign_says a u);
}

range_says : {x z : List ℕ} (y m d v n e : ℕ) (a u : Bool) → IsDateText x y m d
    → IsDateText z v n e
    → TextSays ((x ++ sign a u) ++ 47 ∷ (z ++ sign a u))
    (tokens_of y m d ++ Slash ∷ tokens_of v n e) None None a u false
range_says y m d v n e a u first last = record {
  tokens = (tokens_of y m d ++ sign_tokens a u) ++ Slash ∷ (tokens_of v n e ++ sign_tokens a u);
  scans = reads_scan
      (joined_reads slash (signed_reads a u first.reads) (signed_reads a u last.reads));
  says = date_added y m d (sign_added a u
      (token_adds Slash refl (date_added v n e (sign_says a u))));
}

open_begins : Begins (codes "../") (Open ∷ Slash ∷ [])
open_begins = record { low = refl; is = λ rest. refl }

open_closes : Closes (codes "/..") (Slash ∷ Open ∷ [])
open_closes = record {
  low = refl;
  no_letter = refl;
  no_stop = refl;
  ends = slash.ends (codes "..");
  is = refl;
}

not_after_says : {x : List ℕ} (y m d : ℕ) (a u : Bool) → IsDateText x y m d
    → TextSays (codes "../" ++ (x ++ sign a u)) (Open ∷ Slash ∷ tokens_of y m d) None None a u false
not_after_says y m d a u text = record {
  tokens = Open ∷ Slash ∷ (tokens_of y m d ++ sign_tokens a u);
  scans = reads_scan (begins_reads open_begins (signed_reads a u text.reads));
  says = token_adds Open refl (token_adds Slash refl (date_added y m d (sign_says a u)));
}

not_before_says : {x : List ℕ} (y m d : ℕ) (a u : Bool) → IsDateText x y m d
    → TextSays ((x ++ sign a u) ++ codes "/..") (tokens_of y m d ++ Slash ∷ Open ∷ []) None None a u
    false
not_before_says y m d a u text = record {
  tokens = (tokens_of y m d ++ sign_tokens a u) ++ Slash ∷ Open ∷ [];
  scans = closed_scans (signed_reads a u text.reads) open_closes;
  says = date_added y m d (sign_before a u
      (token_adds Slash refl (token_adds Open refl nothing_says)));
}

pub year_small : (y : ℤ) → pos 1 ≤ℤ y → y ≤ℤ pos 9999 → unsigned_abs y ≤ 9999
year_small (pos n) low high = omega (arith, ints, high)
year_small (negsuc n) low high = absurd (omega (arith, ints, low))

pub text_is : (d : Date) → HasFourDigits d
    → IsDateText (text_of_date d) (unsigned_abs d.year) d.month d.day
unfolding date_text
text_is d h =
    let year = year_small d.year h.year_low h.year_high in
    record {
      reads = date_reads (unsigned_abs d.year) d.month d.day (omega (arith, year))
          (omega (arith, h.month_high)) (omega (arith, h.day_high));
      is = record {
        year_high = le-ltb 10000 (unsigned_abs d.year) (omega (arith, year));
        month_low = le-leb 1 d.month h.month_low;
        month_high = le-leb d.month 12 h.month_high;
        day_low = le-leb 1 d.day h.day_low;
        day_high = le-leb d.day 31 h.day_high;
      };
    }

pub digits_law : AreDigitsRead
unfolding AreDigitsRead
digits_law o a b approximate uncertain first last =
    let x = text_is a first in
    let z = text_is b last in
    let y = unsigned_abs a.year in
    let v = unsigned_abs b.year in
    record {
      day = text_read o (extent.On (day y a.month a.day))
          (day_says y a.month a.day approximate uncertain x) refl refl
          (on_read o y a.month a.day x.is);
      range = text_read o (extent.FromTo (day y a.month a.day) (day v b.month b.day))
          (range_says y a.month a.day v b.month b.day approximate uncertain x z) refl refl
          (range_read o y a.month a.day v b.month b.day x.is z.is);
      not_after = text_read o (extent.NotAfter (day v b.month b.day))
          (not_after_says v b.month b.day approximate uncertain z) refl refl
          (not_after_read o v b.month b.day z.is);
      not_before = text_read o (extent.NotBefore (day y a.month a.day))
          (not_before_says y a.month a.day approximate uncertain x) refl refl
          (not_before_read o y a.month a.day x.is);
    }
