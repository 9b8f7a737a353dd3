-- Sets of dates in digits are read as the sets of these dates.
use Rattle.std.proofs.Common.{◌≡◌, ℕ, ◌+◌, ◌/◌, ◌^◌, ◌<◌, ◌≤◌, ◌==◌, ◌&&◌, not, Bool, true, false}
use Rattle.std.proofs.Common.{List, [], ◌∷◌, subst₂}
use Rattle.std.proofs.Common.{◌++◌, codes, filter, map, unsigned_abs, Some, None}
use Rattle.std.proofs.Common.{Result, Ok, Err, is_err, refl, ap, ◌∙◌, sym, subst, arith}
use Rattle.std.proofs.Common.{append_assoc, append-nil}
use Rattle.std.proofs.lemmas.Bool.{ne_eqb}
use Rattle.std.proofs.lemmas.List.Elements.{All-nil, All-cons, All-head, All-tail, All-append}
use Rattle.std.proofs.lemmas.List.Elements.{filter-append}
use Rattle.std.proofs.lemmas.List.Splits.{slice_split_at, slice_split_none}
use Rattle.std.specs.List.{All, join_by}
use Rattle.std.specs.Option.{option_to_list, unwrap_or}
use Rattle.std.specs.Result.{result_ok}
use Rattle.std.specs.Str.{all_ascii_digits}
use Rattle.std.proofs.lemmas.Str.Parse.{tells_all_ascii_digits}
use Rattle.osn_days.specs.declared.date.Date.{Date}
use Rattle.osn_days.specs.DateText.{at_least, date_text, text_of_date}
use Rattle.osn_days.proofs.DateDigits.{four_digits}
use Rattle.osn_grammar.specs.declared.token.Token.{Token}
use Rattle.osn_grammar.specs.declared.token.Token.TheVariants.{Open, Bracket}
use Rattle.osn_written.specs.declared.written_date.DateFault.{DateFault}
use Rattle.osn_written.specs.declared.any_date.Extent.{Extent}
use Rattle.osn_grammar.specs.declared.text_reading.TextReading.{TextReading}
use Rattle.osn_grammar.specs.declared.text_reading.TextReading.TheVariants as say
use Rattle.osn_written.specs.declared.any_date.AnyDate.{AnyDate}
use Rattle.osn_grammar.specs.InDigits.{HasFourDigits, sign, text_with_signs}
use Rattle.osn_grammar.specs.Tokens.{is_of_time}
use Rattle.osn_grammar.specs.Reading.{all_members, member_by, member_in, member_of, or_set}
use Rattle.osn_grammar.specs.Reading.{or_years}
use Rattle.osn_grammar.specs.Reading.{list_in, or_list, or_parts, or_phrase, set_or_list}
use Rattle.osn_grammar.specs.Reading.{read_date, reading_of_tokens, set_in, set_inside, with_signs}
use Rattle.osn_grammar.specs.Scan.{first_of, is_letter_alone, next_is, token_of_run, tokens_after}
use Rattle.osn_grammar.specs.Scan.{tokens_in}
use Rattle.osn_grammar.specs.Sets.{between_commas, dates_in_digits, is_sign}
use Rattle.osn_grammar.specs.SetsInDigits.{AreSetsRead, Days, HaveFourDigits, days_text}
use Rattle.osn_grammar.specs.SetsInDigits.{extent_of_days, member, set_text}
use Rattle.osn_grammar.specs.Simple.{◌>>=◌}
use Rattle.osn_grammar.proofs.DigitLaw.{IsDay, padded_digits, sign_tokens, signed_reads}
use Rattle.osn_grammar.proofs.DigitLaw.{text_is, year_small}
use Rattle.osn_grammar.proofs.SetFacts.{last_without}
use Rattle.osn_grammar.proofs.TextFacts.{Ends, IsMark, Reads, Scans, bracket_closes, begun_scans}
use Rattle.osn_grammar.proofs.TextFacts.{closed_scans, is_low-append, joined_reads}
use Rattle.osn_grammar.proofs.TextFacts.{tokens_scanned, reads_scan}
use Rattle.osn_grammar.proofs.WordFacts.{bracket_begins}
use Rattle.osn_grammar.proofs.RefusedFacts.{dated, extent_refused, other_refused, tokens_of_date}
use Rattle.osn_grammar.proofs.RefusedFacts.{said_refused, time_tokens}

-- ---- the texts of days

and_false : (b : Bool) → (b && false) ≡ false
and_false true = refl
and_false false = refl

-- two full stops end the word before them
stops_end : (s : List ℕ) → Ends (46 ∷ 46 ∷ s)
stops_end s word =
    append_assoc (option_to_list (token_of_run word)) (Open ∷ []) (tokens_after [] (46 ∷ s))

-- and are an open end before a text that begins with none
stops_are : (s : List ℕ) → next_is (λ c. c == 46) (first_of s) ≡ false
    → tokens_after [] (46 ∷ 46 ∷ s) ≡ Open ∷ tokens_after [] s
stops_are s none = rw (and_false (is_letter_alone s), none) refl

-- a text without commas, and with no full stop in front
record IsClear (text : List ℕ) : Type 0 where
  no_comma : All (λ b. (b == 44) ≡ false) text
  no_stop : (rest : List ℕ) → next_is (λ c. c == 46) (first_of (text ++ rest)) ≡ false

dotted_reads : {x z : List ℕ} {ps qs : List Token} → Reads x ps → Reads z qs → IsClear z
    → Reads (x ++ 46 ∷ 46 ∷ z) (ps ++ Open ∷ qs)
dotted_reads {x} {z} {ps} {qs} first last clear = record {
  low = is_low-append x (46 ∷ 46 ∷ z) first.low last.low;
  is = λ rest ends. ap (tokens_after []) (append_assoc x (46 ∷ 46 ∷ z) rest)
      ∙ first.is (46 ∷ 46 ∷ (z ++ rest)) (stops_end (z ++ rest))
      ∙ ap (λ r. ps ++ r) (stops_are (z ++ rest) (clear.no_stop rest)
      ∙ ap (λ r. Open ∷ r) (last.is rest ends))
      ∙ sym (append_assoc ps (Open ∷ qs) (tokens_after [] rest));
}

digits_clear : (ds : List ℕ) → all_ascii_digits ds ≡ true → All (λ b. (b == 44) ≡ false) ds
digits_clear [] digits = All-nil (λ b. (b == 44) ≡ false)
digits_clear (d ∷ ds) digits =
    let tokens = tells_all_ascii_digits.parts d ds digits in
    let above : 48 ≤ d = tokens.0.0 in
    All-cons (λ b. (b == 44) ≡ false) d ds (ne_eqb d 44 (λ same. omega (arith, same, above)))
    (digits_clear ds tokens.1)

number_clear : (w n : ℕ) → n < 10 ^ 9 → All (λ b. (b == 44) ≡ false) (at_least w n)
number_clear w n small = digits_clear (at_least w n) (padded_digits w n small)

date_clear : (d : Date) → HasFourDigits d → IsClear (text_of_date d)
unfolding date_text
date_clear d h =
    let P : ℕ → Type 0 = λ b. (b == 44) ≡ false in
    let y = unsigned_abs d.year in
    let low : y ≤ 9999 = year_small d.year h.year_low h.year_high in
    let month_and_day = at_least 2 d.month ++ (codes "-" ++ at_least 2 d.day) in
    record {
      no_comma = All-append P (at_least 4 y) (codes "-" ++ month_and_day)
          (number_clear 4 y (omega (arith, low)))
          (All-cons P 45 month_and_day refl
          (All-append P (at_least 2 d.month) (codes "-" ++ at_least 2 d.day)
          (number_clear 2 d.month (omega (arith, h.month_high)))
          (All-cons P 45 (at_least 2 d.day) refl
          (number_clear 2 d.day (omega (arith, h.day_high))))));
      no_stop = λ rest.
          let Q : List ℕ → Type 0 = λ digits.
          next_is (λ c. c == 46) (first_of ((digits ++ (codes "-" ++ month_and_day)) ++ rest))
          ≡ false in
          subst Q (sym (four_digits y (omega (arith, low))))
          (ne_eqb (48 + y / 10 / 10 / 10) 46 (λ same. omega (arith, same)));
    }

one_clear : (c : ℕ) → (c == 44) ≡ false → All (λ b. (b == 44) ≡ false) (c ∷ [])
one_clear c is =
    All-cons (λ b. (b == 44) ≡ false) c [] is (All-nil (λ b. (b == 44) ≡ false))

sign_clear : (a u : Bool) → All (λ b. (b == 44) ≡ false) (sign a u)
sign_clear false false = All-nil (λ b. (b == 44) ≡ false)
sign_clear false true = one_clear 63 refl
sign_clear true false = one_clear 126 refl
sign_clear true true = one_clear 37 refl

signed_clear : (a u : Bool) (d : Date) → HasFourDigits d → IsClear (text_with_signs d a u)
signed_clear a u d h =
    let clear = date_clear d h in
    record {
      no_comma = All-append (λ b. (b == 44) ≡ false) (text_of_date d) (sign a u) clear.no_comma
          (sign_clear a u);
      no_stop = λ rest. ap (λ s. next_is (λ c. c == 46) (first_of s))
          (append_assoc (text_of_date d) (sign a u) rest) ∙ clear.no_stop (sign a u ++ rest);
    }

-- ---- one member

abbrev signed_tokens : Bool → Bool → Date → List Token
signed_tokens a u d = tokens_of_date d ++ sign_tokens a u

abbrev days_tokens : Bool → Bool → Days → List Token
days_tokens a u (d, None) = signed_tokens a u d
days_tokens a u (d, Some e) = signed_tokens a u d ++ Open ∷ signed_tokens a u e

-- the text of days is these parts, has no comma, and its parts are the member of a set
record IsMemberText (a u : Bool) (days : Days) : Type 0 where
  reads : Reads (days_text a u days) (days_tokens a u days)
  no_comma : All (λ b. (b == 44) ≡ false) (days_text a u days)
  is : member_of (days_tokens a u days) ≡ Ok (member a u days)

abbrev IsDate : Date → Type 0
IsDate d = IsDay (unsigned_abs d.year) d.month d.day

day_is : (a u : Bool) (d : Date) → IsDate d
    → member_of (signed_tokens a u d) ≡ Ok (member a u (d, None))
day_is false false d h = rw (h.year_high, h.month_low, h.month_high, h.day_low, h.day_high) refl
day_is false true d h = rw (h.year_high, h.month_low, h.month_high, h.day_low, h.day_high) refl
day_is true false d h = rw (h.year_high, h.month_low, h.month_high, h.day_low, h.day_high) refl
day_is true true d h = rw (h.year_high, h.month_low, h.month_high, h.day_low, h.day_high) refl

-- the signs of days do not say which day is meant
days_are : (a u : Bool) (d e : Date) → filter (λ p. not (is_sign p)) (days_tokens a u (d, Some e))
    ≡ tokens_of_date d ++ Open ∷ tokens_of_date e
days_are false false d e = refl
days_are false true d e = refl
days_are true false d e = refl
days_are true true d e = refl

days_signed : (a u : Bool) (d e : Date) (extent : Extent)
    → with_signs (days_tokens a u (d, Some e)) extent
    ≡ record (member a u (d, Some e)) { extent = extent }
days_signed false false d e extent = refl
days_signed false true d e extent = refl
days_signed true false d e extent = refl
days_signed true true d e extent = refl

range_is : (a u : Bool) (d e : Date) → IsDate d → IsDate e
    → member_of (days_tokens a u (d, Some e)) ≡ Ok (member a u (d, Some e))
range_is a u d e h g =
    ap (λ ps. member_by (days_tokens a u (d, Some e)) (dates_in_digits ps))
    (days_are a u d e)
    ∙ rw (h.year_high, h.month_low, h.month_high, h.day_low, h.day_high)
    (rw (g.year_high, g.month_low, g.month_high, g.day_low, g.day_high)
    (ap Ok (days_signed a u d e (extent_of_days (d, Some e)))))

member_is : (a u : Bool) (days : Days) → HaveFourDigits days → IsMemberText a u days
member_is a u (d, None) h =
    let text = text_is d h in
    record {
      reads = signed_reads a u text.reads;
      no_comma = (signed_clear a u d h).no_comma;
      is = day_is a u d text.is;
    }
member_is a u (d, Some e) (h, g) =
    let first = text_is d h in
    let last = text_is e g in
    let clear = signed_clear a u e g in
    let P : ℕ → Type 0 = λ b. (b == 44) ≡ false in
    record {
      reads = dotted_reads (signed_reads a u first.reads) (signed_reads a u last.reads) clear;
      no_comma = All-append P (text_with_signs d a u) (46 ∷ 46 ∷ text_with_signs e a u)
          (signed_clear a u d h).no_comma
          (All-cons P 46 (46 ∷ text_with_signs e a u) refl
          (All-cons P 46 (text_with_signs e a u) refl clear.no_comma));
      is = range_is a u d e first.is last.is;
    }

-- ---- all members

comma : IsMark 44 []
comma = record {
  low = refl;
  no_letter = refl;
  no_stop = refl;
  ends = λ rest word. append_assoc (option_to_list (token_of_run word)) [] (tokens_after [] rest);
  is = λ rest. refl;
}

abbrev body : Bool → Bool → List Days → List ℕ
body a u days = join_by (days_text a u) (codes ",") days

abbrev all_tokens : Bool → Bool → List Days → List Token
all_tokens a u [] = []
all_tokens a u (days ∷ rest) = days_tokens a u days ++ all_tokens a u rest

body_reads : (a u : Bool) (first : Days) (rest : List Days) → All HaveFourDigits (first ∷ rest)
    → Reads (body a u (first ∷ rest)) (all_tokens a u (first ∷ rest))
body_reads a u first [] all =
    let read = member_is a u first (All-head HaveFourDigits first [] all) in
    subst₂ Reads (sym (append-nil (days_text a u first))) (sym (append-nil (days_tokens a u first)))
    read.reads
body_reads a u first (next ∷ rest) all =
    let read = member_is a u first (All-head HaveFourDigits first (next ∷ rest) all) in
    joined_reads comma read.reads
    (body_reads a u next rest (All-tail HaveFourDigits first (next ∷ rest) all))

sign_timed : (a u : Bool) (ps rest : List Token)
    → filter is_of_time ((sign_tokens a u ++ ps) ++ rest) ≡ filter is_of_time (ps ++ rest)
sign_timed false false ps rest = refl
sign_timed false true ps rest = refl
sign_timed true false ps rest = refl
sign_timed true true ps rest = refl

last_timed : (a u : Bool) (rest : List Token)
    → filter is_of_time (sign_tokens a u ++ rest) ≡ filter is_of_time rest
last_timed false false rest = refl
last_timed false true rest = refl
last_timed true false rest = refl
last_timed true true rest = refl

tokens_timed : (a u : Bool) (days : List Days) → filter is_of_time (all_tokens a u days)
    ≡ time_tokens days
tokens_timed a u [] = refl
tokens_timed a u ((d, None) ∷ rest) =
    ap (λ ts. tokens_of_date d ++ ts)
    (last_timed a u (all_tokens a u rest) ∙ tokens_timed a u rest)
tokens_timed a u ((d, Some e) ∷ rest) =
    ap (λ ts. tokens_of_date d ++ ts)
    (sign_timed a u (Open ∷ signed_tokens a u e) (all_tokens a u rest)
    ∙ ap (λ ts. Open ∷ (tokens_of_date e ++ ts))
    (last_timed a u (all_tokens a u rest) ∙ tokens_timed a u rest))

text_read : {a u : Bool} {days : Days} → IsMemberText a u days
    → member_in (days_text a u days) ≡ Ok (member a u days)
text_read text = ap member_of (tokens_scanned (reads_scan text.reads)) ∙ text.is

texts_read : (a u : Bool) (first : Days) (rest : List Days) → All HaveFourDigits (first ∷ rest)
    → all_members (between_commas (body a u (first ∷ rest)))
    ≡ Ok (map (member a u) (first ∷ rest))
texts_read a u first [] all =
    let text = member_is a u first (All-head HaveFourDigits first [] all) in
    ap all_members (ap between_commas (append-nil (days_text a u first))
    ∙ slice_split_none (λ b. b == 44) (days_text a u first) text.no_comma)
    ∙ ap (λ found. found >>= (λ w. Ok (w ∷ []))) (text_read text)
texts_read a u first (next ∷ rest) all =
    let text = member_is a u first (All-head HaveFourDigits first (next ∷ rest) all) in
    let more = all_members (between_commas (body a u (next ∷ rest))) in
    ap all_members
    (slice_split_at (λ b. b == 44) (days_text a u first) 44 (body a u (next ∷ rest)) text.no_comma
    refl)
    ∙ ap (λ found. found >>= (λ w. more >>= (λ ws. Ok (w ∷ ws)))) (text_read text)
    ∙ ap (λ found. found >>= (λ ws. Ok (member a u first ∷ ws)))
    (texts_read a u next rest (All-tail HaveFourDigits first (next ∷ rest) all))

-- ---- the law

members_are : (a u : Bool) (first : Days) (rest : List Days) → All HaveFourDigits (first ∷ rest)
    → set_in (set_text a u (first ∷ rest)) ≡ Ok (map (member a u) (first ∷ rest))
unfolding set_in
members_are a u first rest all =
    ap set_inside (last_without 93 (body a u (first ∷ rest))) ∙ texts_read a u first rest all

set_said : (ws : List AnyDate) (r : Result TextReading DateFault) → is_err r ≡ true
    → or_set (Ok ws) r ≡ Ok say.Set
set_said ws (Ok said) wrong = absurd (cc)
set_said ws (Err fault) wrong = refl

pub sets_law : AreSetsRead
unfolding AreSetsRead read_date
sets_law o a u first next rest all =
    let days = first ∷ next ∷ rest in
    let text = set_text a u days in
    let inside = all_tokens a u days ++ Bracket ∷ [] in
    let dates : set_in text ≡ Ok (map (member a u) days) =
    members_are a u first (next ∷ rest) all in
    let scans : Scans text (Bracket ∷ inside) =
    begun_scans bracket_begins
    (closed_scans (body_reads a u first (next ∷ rest) all) bracket_closes) in
    let filtered : filter is_of_time (Bracket ∷ inside) ≡ time_tokens days =
    filter-append is_of_time (all_tokens a u days) (Bracket ∷ [])
    ∙ append-nil (filter is_of_time (all_tokens a u days)) ∙ tokens_timed a u days in
    let P : List Token → Type 0 = λ ps. is_err (reading_of_tokens o ps (filter is_of_time ps))
    ≡ true in
    let wrong : P (tokens_in text) = subst P (sym (tokens_scanned scans))
    (said_refused o Bracket inside (time_tokens days) filtered (dated first (next ∷ rest))
    (other_refused first next rest) (extent_refused o first next rest)) in
    record {
      is = ap (λ read. or_list (list_in text) (or_phrase o text
          (or_parts o (tokens_in text) (filter is_of_time (tokens_in text)) (or_years text read))))
          (ap (λ found. or_set found
          (reading_of_tokens o (tokens_in text) (filter is_of_time (tokens_in text)))) dates
          ∙ set_said (map (member a u) days) _ wrong);
      dates = ap (λ found. unwrap_or (result_ok (set_or_list found (list_in text))) []) dates;
    }
