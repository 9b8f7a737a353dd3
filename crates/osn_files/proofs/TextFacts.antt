-- The compact text of an object whose members are texts and numbers: it is a line, and the line's
-- object is that object.
use Rattle.std.proofs.Common.{◌≡◌, ℕ, ◌+◌, ◌*◌, ◌^◌, ◌<◌, ◌≤◌, Bool, true, false}
use Rattle.std.proofs.Common.{if◌then◌else◌}
use Rattle.std.proofs.Common.{List, [], ◌∷◌, ◌++◌, length, Option, Some, None, option_and_then, Ok}
use Rattle.std.proofs.Common.{Err, refl, sym, ap, ◌∙◌, arith}
use Rattle.std.proofs.Common.{append-nil, append_assoc, length-append, IsUtf8}
use Rattle.std.proofs.lemmas.Bool.{le-ltb}
use Rattle.std.proofs.lemmas.Str.{IsUtf8-append, is_utf8-from_IsUtf8}
use Rattle.json.specs.Token.{Token}
use Rattle.json.specs.Json as json
use Rattle.json.specs.Lex.{tokens}
use Rattle.json.specs.Print.{quoted}
use Rattle.json.specs.Tree as tree
use Rattle.json.proofs.Printed.Decimals.{IsNumber-decimal}
use Rattle.json.proofs.Printed.Tokens.{tokens-print}
use Rattle.json.proofs.Printed.Trees.{value-json_tokens, ArePrintable-json_tokens}
use Rattle.json.proofs.Printed.Utf8.{IsUtf8-are_ascii, IsUtf8-quoted, are_ascii}
use Rattle.serde_json.specs.Data.{Data, string, number, unsigned, object, Members, member}
use Rattle.serde_json.specs.Data.{no_members}
use Rattle.serde_json.specs.Read.{read, max_depth, of_json}
use Rattle.serde_json.specs.Written.{compact_text, members_text, outline, members_outline, comma_if}
use Rattle.serde_json.proofs.Texts.{print-outline}
use Rattle.osn_lines.specs.Inside.{HasNoFeed}
use Rattle.osn_lines.specs.Lines.{lines}
use Rattle.osn_lines.proofs.LineLemmas.{HasNoFeed-append, lines-feed}
use Rattle.osn_request.specs.declared.wire_fault.WireFault.TheVariants.{LineTooLong}
use Rattle.osn_request.specs.Request.{object_of, object_in, value_of}
use Rattle.osn_files.specs.JournalText.{line_text}
use Rattle.osn_files.proofs.ByteFacts.{length-quoted, HasNoFeed-quoted, HasNoFeed-decimal}
use Rattle.osn_files.proofs.ByteFacts.{IsUtf8-decimal, length-decimal}

-- what a value's text needs as a line: at most this many bytes, UTF-8 and no line feed. To be read
-- it needs numbers that are numbers, and no depth
pub record Fits (d : Data) (room : ℕ) : Type 0 where
  pub short : length (compact_text d) ≤ room
  pub utf8 : IsUtf8 (compact_text d)
  pub no_feed : HasNoFeed (compact_text d)
  pub numbers : tree.HasNumbers (outline d)
  pub shallow : tree.depth (outline d) ≤ 0

-- what the text of an object's members needs as a line, with a comma before them or not: the
-- conditions are those of a value
pub record Fit (ms : Members) (room : ℕ) : Type 0 where
  pub short : (later : Bool) → length (members_text later ms) ≤ room
  pub utf8 : (later : Bool) → IsUtf8 (members_text later ms)
  pub no_feed : (later : Bool) → HasNoFeed (members_text later ms)
  pub numbers : tree.MembersHaveNumbers (members_outline ms)
  pub shallow : tree.members_depth (members_outline ms) ≤ 0

pub Fits-string : (s : List ℕ) → IsUtf8 s → Fits (string s) (6 * length s + 2)
Fits-string s h = record {
  short = length-quoted s;
  utf8 = IsUtf8-quoted s h;
  no_feed = HasNoFeed-quoted s;
  numbers = tt;
  shallow = omega arith;
}

pub Fits-number : (n : ℕ) → n < 10 ^ 8 → Fits (number (unsigned n)) 8
Fits-number n h = record {
  short = length-decimal n h;
  utf8 = IsUtf8-decimal n (omega arith);
  no_feed = HasNoFeed-decimal n (omega arith);
  numbers = IsNumber-decimal n (omega arith);
  shallow = omega arith;
}

pub Fit-none : Fit no_members 1
Fit-none = record {
  short = λ later. omega arith;
  utf8 = λ later. IsUtf8-are_ascii (125 ∷ []) refl;
  no_feed = λ later. (refl, tt);
  numbers = tt;
  shallow = omega arith;
}

comma-short : (later : Bool) → length (comma_if later) ≤ 1
comma-short true = omega arith
comma-short false = omega arith

comma-utf8 : (later : Bool) → IsUtf8 (comma_if later)
comma-utf8 true = IsUtf8-are_ascii (44 ∷ []) refl
comma-utf8 false = IsUtf8-are_ascii [] refl

comma-no_feed : (later : Bool) → HasNoFeed (comma_if later)
comma-no_feed true = (refl, tt)
comma-no_feed false = tt

-- a member before the others
pub Fit-member : (k : List ℕ) (d : Data) (ms : Members) (m n : ℕ) → are_ascii k ≡ true → Fits d m
    → Fit ms n → Fit (member k d ms) (6 * length k + 4 + m + n)
Fit-member k d ms m n ascii h rest = record {
  short = λ later. omega (
    arith,
    length-append (comma_if later) (quoted k ++ 58 ∷ (compact_text d ++ members_text true ms)),
    length-append (quoted k) (58 ∷ (compact_text d ++ members_text true ms)),
    length-append (compact_text d) (members_text true ms),
    comma-short later,
    length-quoted k,
    h.short,
    rest.short true,
  );
  utf8 = λ later.
      IsUtf8-append (comma_if later) _ (comma-utf8 later)
      (IsUtf8-append (quoted k) _ (IsUtf8-quoted k (IsUtf8-are_ascii k ascii))
      (IsUtf8-append (58 ∷ []) _ (IsUtf8-are_ascii (58 ∷ []) refl)
      (IsUtf8-append (compact_text d) _ h.utf8 (rest.utf8 true))));
  no_feed = λ later.
      HasNoFeed-append (comma_if later) _ (comma-no_feed later)
      (HasNoFeed-append (quoted k) _ (HasNoFeed-quoted k)
      (refl, HasNoFeed-append (compact_text d) _ h.no_feed (rest.no_feed true)));
  numbers = (h.numbers, rest.numbers);
  shallow = omega (arith, h.shallow, rest.shallow);
}

-- the value of a whole text
abbrev whole : Option (json.Json × List Token) → Option Data
whole o = option_and_then of_json (option_and_then (λ p. json.if_last p.0 p.1) o)

-- the text of an object is read as that object
read-object : (ms : Members) (n : ℕ) → Fit ms n → of_json (outline (object ms)) ≡ Some (object ms)
    → read (compact_text (object ms)) ≡ Some (object ms)
read-object ms n h back =
    let j = outline (object ms) in
    let printed : tokens (compact_text (object ms)) ≡ tree.json_tokens j ++ [] =
    ap tokens (sym (print-outline (object ms)))
    ∙ (tokens-print (tree.json_tokens j) (ArePrintable-json_tokens j h.numbers)
    ∙ sym (append-nil _)) in
    ap whole
    (ap (json.value max_depth) printed
    ∙ value-json_tokens j max_depth [] (omega (arith, h.shallow)))
    ∙ back

-- the object of the line of an object is that object
pub object_of-line : (ms : Members) (n : ℕ) → Fit ms n → n < 65536
    → of_json (outline (object ms)) ≡ Some (object ms)
    → object_of (compact_text (object ms)) ≡ Ok (object ms)
object_of-line ms n h room back =
    let text = compact_text (object ms) in
    let utf8 : IsUtf8 text =
    IsUtf8-append (123 ∷ []) _ (IsUtf8-are_ascii (123 ∷ []) refl) (h.utf8 false) in
    let within : length text ≤ 65536 = omega (arith, h.short false) in
    ap (λ b. if b then Err LineTooLong else object_in (value_of text))
    (le-ltb 65536 (length text) within)
    ∙ (ap (λ b. object_in (if b then read text else None)) (is_utf8-from_IsUtf8 text utf8)
    ∙ ap object_in (read-object ms n h back))

-- an object on a line of its own is the first line
pub lines-line : (ms : Members) (n : ℕ) (more : List ℕ) → Fit ms n
    → lines (line_text (object ms) ++ more) ≡ compact_text (object ms) ∷ lines more
unfolding line_text
lines-line ms n more h =
    ap lines (append_assoc (compact_text (object ms)) (10 ∷ []) more)
    ∙ lines-feed (compact_text (object ms)) more (refl, h.no_feed false)

pub utf8-line : (ms : Members) (n : ℕ) → Fit ms n → IsUtf8 (line_text (object ms))
unfolding line_text
utf8-line ms n h =
    IsUtf8-append (compact_text (object ms)) (10 ∷ [])
    (IsUtf8-append (123 ∷ []) _ (IsUtf8-are_ascii (123 ∷ []) refl) (h.utf8 false))
    (IsUtf8-are_ascii (10 ∷ []) refl)
