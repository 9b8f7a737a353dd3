-- The text of a line, after the bytes before it, and texts without escapes.
use Rattle.std.proofs.Common.{◌≡◌, ℕ, ℤ, pos, negsuc, zero, suc, ◌-◌, ◌^◌, ◌<◌, ◌≤◌, replicate}
use Rattle.std.proofs.Common.{List, [], ◌∷◌, ◌++◌, length, drop, Bool, true, false, ◌==◌}
use Rattle.std.proofs.Common.{if◌then◌else◌, IsUtf8, codes, decimal, refl, ap, sym, subst, ◌∙◌}
use Rattle.std.proofs.Common.{arith, append_assoc, append-nil, Option, Some, None}
use Rattle.std.specs.List.{list_all}
use Rattle.std.specs.Fmt.{signed_decimal}
use Rattle.osn_request.specs.Json.{signed, source_member}
use Rattle.std.proofs.lemmas.Bool.{and_parts, or_parts, not-true, eqb-false, ltb-false}
use Rattle.std.proofs.lemmas.List.{drop-append-le, length-append}
use Rattle.std.proofs.lemmas.Str.{IsUtf8-append}
use Rattle.std.proofs.lemmas.Grind.{flat_map-append}
use Rattle.std.proofs.lemmas.Fmt.{decimal_is_IsNumeral}
use Rattle.std.proofs.lemmas.Str.Parse.{digit_from_value}
use Rattle.std.specs.Str.Parse.{AllDigits}
use Rattle.serde_json.specs.Data.{Data, Members}
use Rattle.serde_json.specs.Written.{compact_text, members_text}
use Rattle.json.specs.Run.{is_plain, is_stop}
use Rattle.json.specs.Print.{escape, escape_byte, quoted, print, print_from}
use Rattle.json.specs.Token.{string}
use Rattle.osn_days.specs.DateText.{at_least, date_digits}
use Rattle.json.proofs.Printed.Strings.{escape_byte_plain}
use Rattle.osn_service.specs.ReplyText.{answered_data}
use Rattle.osn_service.specs.SourceInside.{source_text}

-- bytes that are a text are appended after the start
pub goes_on : (start : ℕ) (old new bytes : List ℕ) (ok : Bool) →
    start ≤ length old → IsUtf8 (drop start old) → IsUtf8 bytes →
    new ≡ (if ok then old ++ bytes else old) →
    (start ≤ length new) × IsUtf8 (drop start new)
goes_on start old new bytes true within utf8 more e =
    let far : start ≤ length (old ++ bytes) = omega (arith, length-append old bytes) in (
      subst (λ l. start ≤ length l) (sym e) far,
      subst (λ l. IsUtf8 (drop start l)) (sym e)
          (subst IsUtf8 (sym (drop-append-le start old bytes within))
          (IsUtf8-append _ _ utf8 more)),
    )
goes_on start old new bytes false within utf8 more e = (
  subst (λ l. start ≤ length l) (sym e) within,
  subst (λ l. IsUtf8 (drop start l)) (sym e) utf8,
)

-- a text with no byte that needs an escape is its own
pub escape-plain : (text : List ℕ) → list_all is_plain text ≡ true → escape text ≡ text
escape-plain [] all = refl
escape-plain (x ∷ xs) all =
    let parts = and_parts (is_plain x) _ all in
    let none = or_parts _ _ (not-true (is_stop x) parts.0) in
    let tests = or_parts (x == 34) _ none.0 in
    let first : escape_byte x ≡ x ∷ [] =
    escape_byte_plain x (eqb-false x 34 tests.0) (eqb-false x 92 tests.1)
    (ltb-false x 32 none.1) in
    ap (λ l. l ++ escape xs) first ∙ ap (λ l. x ∷ l) (escape-plain xs parts.1)

-- digits need no escape
escape-append : (xs ys : List ℕ) → escape xs ≡ xs → escape ys ≡ ys → escape (xs ++ ys) ≡ xs ++ ys
escape-append xs ys ex ey =
    flat_map-append escape_byte xs ys ∙ (ap (λ l. l ++ escape ys) ex ∙ ap (λ l. xs ++ l) ey)

escape-digits : (ds : List ℕ) → AllDigits 10 ds → escape ds ≡ ds
escape-digits [] d = refl
escape-digits (c ∷ cs) d =
    let first : escape_byte c ≡ c ∷ [] =
    escape_byte_plain c (λ e. omega (arith, digit_from_value c d.0))
    (λ e. omega (arith, digit_from_value c d.0)) (omega (arith, digit_from_value c d.0)) in
    ap (λ l. l ++ escape cs) first ∙ ap (λ l. c ∷ l) (escape-digits cs d.1)

escape-zeros : (n : ℕ) → escape (replicate n 48) ≡ replicate n 48
unfolding escape_byte
escape-zeros zero = refl
escape-zeros (suc n) = ap (λ l. 48 ∷ l) (escape-zeros n)

escape-at_least : (width n : ℕ) → n < 2 ^ 64 → escape (at_least width n) ≡ at_least width n
escape-at_least width n small =
    escape-append (replicate (width - length (decimal n)) 48) (decimal n)
    (escape-zeros (width - length (decimal n)))
    (escape-digits (decimal n) (decimal_is_IsNumeral n small).0.1)

escape-dash : escape (codes "-") ≡ codes "-"
unfolding escape_byte
escape-dash = refl

-- nor do dates
pub escape-date : (year month day : ℕ) → year < 2 ^ 64 → month < 2 ^ 64 → day < 2 ^ 64 →
    escape (date_digits year month day) ≡ date_digits year month day
escape-date year month day y m d =
    let days = escape-append (codes "-") (at_least 2 day) escape-dash (escape-at_least 2 day d) in
    let months =
    escape-append (at_least 2 month) (codes "-" ++ at_least 2 day) (escape-at_least 2 month m)
    days in
    escape-append (at_least 4 year)
    (codes "-" ++ (at_least 2 month ++ (codes "-" ++ at_least 2 day)))
    (escape-at_least 4 year y)
    (escape-append (codes "-") (at_least 2 month ++ (codes "-" ++ at_least 2 day)) escape-dash
    months)

-- what is printed of a string alone
pub print_one : (s : List ℕ) → print (string s ∷ []) ≡ quoted s
unfolding print_from
print_one s = append-nil (quoted s)

-- the text of a number that may be negative
pub signed_text : (n : ℤ) → signed_decimal n ≡ compact_text (signed n)
signed_text (pos n) = refl
signed_text (negsuc n) = refl

-- pieces, each a prefix and a value: written one after another, and as in the text of an object
-- with its end
abbrev pub pieces_after : List ℕ → List (List ℕ × List ℕ) → List ℕ
pieces_after old [] = old
pieces_after old (p ∷ ps) = pieces_after (old ++ (p.0 ++ p.1)) ps

abbrev pub joined : List (List ℕ × List ℕ) → List ℕ → List ℕ
joined [] end = end
joined (p ∷ ps) end = p.0 ++ (p.1 ++ joined ps end)

pub chain : (old : List ℕ) (pieces : List (List ℕ × List ℕ)) (end : List ℕ) →
    pieces_after old pieces ++ end ≡ old ++ joined pieces end
chain old [] end = refl
chain old (p ∷ ps) end =
    chain (old ++ (p.0 ++ p.1)) ps end
    ∙ (append_assoc old (p.0 ++ p.1) (joined ps end)
    ∙ ap (λ l. old ++ l) (append_assoc p.0 p.1 (joined ps end)))

-- a source that was written before other members
pub source_before : (source : Option (List ℕ)) (rest : Members) →
    source_text source ++ members_text true rest ≡ members_text true (source_member source rest)
unfolding escape_byte
source_before None rest = refl
source_before (Some source) rest =
    append_assoc (codes ",\"source\":") (quoted source) (members_text true rest)

-- an answer that was begun and then ended is the whole reply
pub whole_reply : (old mid new : List ℕ) (reader edition : ℕ) (given answer : Data) →
    given ≡ answer → mid ≡ old ++ (codes "{\"answer\":" ++ compact_text given) →
    new ≡ mid ++ (codes ",\"edition\":" ++ (decimal edition
    ++ (codes ",\"reader\":" ++ (decimal reader ++ codes "}")))) →
    new ≡ old ++ compact_text (answered_data reader edition answer)
unfolding escape_byte
whole_reply old mid new reader edition given answer same initial ended =
    let end = codes ",\"edition\":" ++ (decimal edition
    ++ (codes ",\"reader\":" ++ (decimal reader ++ codes "}"))) in
    ended
    ∙ (ap (λ l. l ++ end) initial
    ∙ (chain old ((codes "{\"answer\":", compact_text given) ∷ []) end
    ∙ ap (λ d. old ++ compact_text (answered_data reader edition d)) same))
