-- How words, numbers and marks of a text are scanned, one after another.
use Rattle.std.proofs.Common.{◌≡◌, ◌≤◌, ◌<◌, ℕ, Bool, true, false, not, ◌&&◌, ◌==◌, nat_lt, List}
use Rattle.std.proofs.Common.{[]}
use Rattle.std.proofs.Common.{◌∷◌, ◌++◌, length, Some, refl, ap, ◌∙◌, sym, arith, append_assoc}
use Rattle.std.proofs.Common.{append-nil, codes, IsAscii}
use Rattle.std.proofs.lemmas.Bool.{le-leb, le-ltb, lt-leb, lt-ltb, ltb-true, ne_eqb}
use Rattle.std.proofs.lemmas.Str.{encode_ascii, chars-IsAscii}
use Rattle.std.proofs.lemmas.Str.Ascii.{IsAscii-nil, IsAscii-cons}
use Rattle.std.proofs.lemmas.Str.Parse.{tells_all_ascii_digits}
use Rattle.std.specs.Option.{option_to_list}
use Rattle.std.specs.Str.{all_ascii_digits}
use Rattle.std.specs.Str.Parse.{digits_value}
use Rattle.osn_grammar.specs.declared.token.Token.{Token}
use Rattle.osn_grammar.specs.declared.token.Token.TheVariants as token
use Rattle.osn_grammar.specs.Scan.{tokens_after, tokens_in, token_of_run, is_letter, next_is}
use Rattle.osn_grammar.specs.Scan.{first_of, is_letter_alone}
use Rattle.osn_grammar.proofs.Digits.{value_is}

-- ---- ASCII

-- each byte is one of ASCII
abbrev pub is_low : List ℕ → Bool
is_low [] = true
is_low (c ∷ cs) = nat_lt c 128 && is_low cs

both_true : (a b : Bool) → (a && b) ≡ true → (a ≡ true) × (b ≡ true)
both_true true b h = (refl, h)
both_true false b h = absurd (cc)

low_ascii : (text : List ℕ) → is_low text ≡ true → IsAscii text
low_ascii [] low = IsAscii-nil
low_ascii (c ∷ cs) low =
    let both = both_true (nat_lt c 128) (is_low cs) low in
    IsAscii-cons c cs (ltb-true c 128 both.0) (low_ascii cs both.1)

pub is_low-append : (xs ys : List ℕ) → is_low xs ≡ true → is_low ys ≡ true
    → is_low (xs ++ ys) ≡ true
is_low-append [] ys low more = more
is_low-append (x ∷ xs) ys low more =
    let both = both_true (nat_lt x 128) (is_low xs) low in
    rw both.0 (is_low-append xs ys both.1 more)

low_digits : (ds : List ℕ) → all_ascii_digits ds ≡ true → is_low ds ≡ true
low_digits [] digits = refl
low_digits (d ∷ ds) digits =
    let tokens = tells_all_ascii_digits.parts d ds digits in
    let few : d < 128 = omega (arith, tokens.0.1) in
    rw (lt-ltb d 128 few) (low_digits ds tokens.1)

-- ---- the end of a word

-- a word ends before what is left: its part comes first, and the parts of the rest after it
abbrev pub Ends : List ℕ → Type 0
Ends rest =
    (word : List ℕ)
    → tokens_after word rest ≡ option_to_list (token_of_run word) ++ tokens_after [] rest

pub text_ends : Ends []
text_ends word = sym (append-nil (option_to_list (token_of_run word)))

-- a mark ends a word, and is these parts
pub record IsMark (c : ℕ) (marks : List Token) : Type 0 where
  pub low : nat_lt c 128 ≡ true
  pub no_letter : is_letter c ≡ false
  pub no_stop : (c == 46) ≡ false
  pub ends : (rest : List ℕ) → Ends (c ∷ rest)
  pub is : (rest : List ℕ) → tokens_after [] (c ∷ rest) ≡ marks ++ tokens_after [] rest

ended : (marks : List Token) (word rest : List ℕ)
    → (option_to_list (token_of_run word) ++ marks) ++ tokens_after [] rest
    ≡ option_to_list (token_of_run word) ++ (marks ++ tokens_after [] rest)
ended marks word rest =
    append_assoc (option_to_list (token_of_run word)) marks (tokens_after [] rest)

pub blank : IsMark 32 []
blank = record {
  low = refl;
  no_letter = refl;
  no_stop = refl;
  ends = λ rest word. ended [] word rest;
  is = λ rest. refl;
}

pub dash : IsMark 45 (token.Dash ∷ [])
dash = record {
  low = refl;
  no_letter = refl;
  no_stop = refl;
  ends = λ rest word. ended (token.Dash ∷ []) word rest;
  is = λ rest. refl;
}

pub slash : IsMark 47 (token.Slash ∷ [])
slash = record {
  low = refl;
  no_letter = refl;
  no_stop = refl;
  ends = λ rest word. ended (token.Slash ∷ []) word rest;
  is = λ rest. refl;
}

pub doubt : IsMark 63 (token.Doubt ∷ [])
doubt = record {
  low = refl;
  no_letter = refl;
  no_stop = refl;
  ends = λ rest word. ended (token.Doubt ∷ []) word rest;
  is = λ rest. refl;
}

pub about : IsMark 126 (token.About ∷ [])
about = record {
  low = refl;
  no_letter = refl;
  no_stop = refl;
  ends = λ rest word. ended (token.About ∷ []) word rest;
  is = λ rest. refl;
}

pub about_and_doubt : IsMark 37 (token.AboutAndDoubt ∷ [])
about_and_doubt = record {
  low = refl;
  no_letter = refl;
  no_stop = refl;
  ends = λ rest word. ended (token.AboutAndDoubt ∷ []) word rest;
  is = λ rest. refl;
}

-- ---- a text, whatever ends it

-- before an end a text is these parts
pub record Reads (text : List ℕ) (tokens : List Token) : Type 0 where
  pub low : is_low text ≡ true
  pub is : (rest : List ℕ) → Ends rest
      → tokens_after [] (text ++ rest) ≡ tokens ++ tokens_after [] rest

-- a word, which is scanned as one in small letters
pub word_reads : (text word : List ℕ) (p : Token) → is_low text ≡ true
    → ((rest : List ℕ) → tokens_after [] (text ++ rest) ≡ tokens_after word rest)
    → token_of_run word ≡ Some p → Reads text (p ∷ [])
word_reads text word p low scanned is = record {
  low = low;
  is = λ rest ends. scanned rest ∙ ends word
      ∙ ap (λ found. option_to_list found ++ tokens_after [] rest) is;
}

-- one text after another, with a mark between them
pub joined_reads : {c : ℕ} {marks ps qs : List Token} {x y : List ℕ} → IsMark c marks
    → Reads x ps → Reads y qs → Reads (x ++ c ∷ y) (ps ++ (marks ++ qs))
joined_reads {c} {marks} {ps} {qs} {x} {y} mark first last = record {
  low = is_low-append x (c ∷ y) first.low (rw mark.low last.low);
  is = λ rest ends. ap (tokens_after []) (append_assoc x (c ∷ y) rest)
      ∙ first.is (c ∷ (y ++ rest)) (mark.ends (y ++ rest))
      ∙ ap (λ r. ps ++ r) (mark.is (y ++ rest) ∙ ap (λ r. marks ++ r) (last.is rest ends)
      ∙ sym (append_assoc marks qs (tokens_after [] rest)))
      ∙ sym (append_assoc ps (marks ++ qs) (tokens_after [] rest));
}

-- ---- what is read whatever follows

pub record Begins (text : List ℕ) (tokens : List Token) : Type 0 where
  pub low : is_low text ≡ true
  pub is : (rest : List ℕ) → tokens_after [] (text ++ rest) ≡ tokens ++ tokens_after [] rest

pub nothing_begins : Begins [] []
nothing_begins = record { low = refl; is = λ rest. refl }

-- a text with a mark after it
pub marked_begins : {c : ℕ} {marks ps : List Token} {x : List ℕ} → IsMark c marks → Reads x ps
    → Begins (x ++ c ∷ []) (ps ++ marks)
marked_begins {c} {marks} {ps} {x} mark first = record {
  low = is_low-append x (c ∷ []) first.low (rw mark.low refl);
  is = λ rest. ap (tokens_after []) (append_assoc x (c ∷ []) rest)
      ∙ first.is (c ∷ rest) (mark.ends rest) ∙ ap (λ r. ps ++ r) (mark.is rest)
      ∙ sym (append_assoc ps marks (tokens_after [] rest));
}

pub begins_reads : {ps qs : List Token} {x y : List ℕ} → Begins x ps → Reads y qs
    → Reads (x ++ y) (ps ++ qs)
begins_reads {ps} {qs} {x} {y} first last = record {
  low = is_low-append x y first.low last.low;
  is = λ rest ends. ap (tokens_after []) (append_assoc x y rest) ∙ first.is (y ++ rest)
      ∙ ap (λ r. ps ++ r) (last.is rest ends) ∙ sym (append_assoc ps qs (tokens_after [] rest));
}

pub begun_begins : {ps qs : List Token} {x y : List ℕ} → Begins x ps → Begins y qs
    → Begins (x ++ y) (ps ++ qs)
begun_begins {ps} {qs} {x} {y} first last = record {
  low = is_low-append x y first.low last.low;
  is = λ rest. ap (tokens_after []) (append_assoc x y rest) ∙ first.is (y ++ rest)
      ∙ ap (λ r. ps ++ r) (last.is rest) ∙ sym (append_assoc ps qs (tokens_after [] rest));
}

-- what is read whatever follows is read before an end
pub reads_begun : {ps : List Token} {x : List ℕ} → Begins x ps → Reads x ps
reads_begun first = record { low = first.low; is = λ rest ends. first.is rest }

-- ---- the last part of a text

-- a text that ends the word before it, and is these parts
pub record Closes (text : List ℕ) (tokens : List Token) : Type 0 where
  pub low : is_low text ≡ true
  pub no_letter : next_is is_letter (first_of text) ≡ false
  pub no_stop : next_is (λ c. c == 46) (first_of text) ≡ false
  pub ends : Ends text
  pub is : tokens_after [] text ≡ tokens

-- a text that begins with no letter begins with no single letter
pub no_letter_alone : (text : List ℕ) → next_is is_letter (first_of text) ≡ false
    → is_letter_alone text ≡ false
no_letter_alone [] none = refl
no_letter_alone (c ∷ rest) none = rw none refl

pub nothing_closes : Closes [] []
nothing_closes = record {
  low = refl;
  no_letter = refl;
  no_stop = refl;
  ends = text_ends;
  is = refl;
}

pub mark_closes : {c : ℕ} {marks ps : List Token} {x : List ℕ} → IsMark c marks → Closes x ps
    → Closes (c ∷ x) (marks ++ ps)
mark_closes {c} {marks} {ps} {x} mark last = record {
  low = rw mark.low last.low;
  no_letter = mark.no_letter;
  no_stop = mark.no_stop;
  ends = mark.ends x;
  is = mark.is x ∙ ap (λ r. marks ++ r) last.is;
}

-- a square bracket at the end of a text is within no word
and_none : (b : Bool) → (b && false) ≡ false
and_none true = refl
and_none false = refl

bracket_ends : (word : List ℕ)
    → tokens_after word (93 ∷ []) ≡ option_to_list (token_of_run word) ++ token.Bracket ∷ []
bracket_ends word =
    rw (and_none (not (length word == 0)))
    (append-nil (option_to_list (token_of_run word) ++ token.Bracket ∷ []))

pub bracket_closes : Closes (codes "]") (token.Bracket ∷ [])
bracket_closes = record {
  low = refl;
  no_letter = refl;
  no_stop = refl;
  ends = bracket_ends;
  is = refl;
}

-- a text is these parts
pub record Scans (text : List ℕ) (tokens : List Token) : Type 0 where
  pub low : is_low text ≡ true
  pub is : tokens_after [] text ≡ tokens

pub closed_scans : {ps qs : List Token} {x y : List ℕ} → Reads x ps → Closes y qs
    → Scans (x ++ y) (ps ++ qs)
closed_scans {ps} {qs} {x} {y} first last = record {
  low = is_low-append x y first.low last.low;
  is = first.is y last.ends ∙ ap (λ r. ps ++ r) last.is;
}

pub reads_scan : {ps : List Token} {x : List ℕ} → Reads x ps → Scans x ps
reads_scan {ps} {x} read = record {
  low = read.low;
  is = ap (tokens_after []) (sym (append-nil x)) ∙ read.is [] text_ends ∙ append-nil ps;
}

pub begun_scans : {ps qs : List Token} {x y : List ℕ} → Begins x ps → Scans y qs
    → Scans (x ++ y) (ps ++ qs)
begun_scans {ps} {qs} {x} {y} first last = record {
  low = is_low-append x y first.low last.low;
  is = first.is y ∙ ap (λ r. ps ++ r) last.is;
}

-- the parts of a whole text
pub tokens_scanned : {text : List ℕ} {tokens : List Token} → Scans text tokens → tokens_in text
    ≡ tokens
tokens_scanned {text} read =
    ap (tokens_after []) (chars-IsAscii text (low_ascii text read.low)) ∙ read.is

-- ---- numbers

-- a digit belongs to the word so far
digit_joins_word : (c : ℕ) (word rest : List ℕ) → 48 ≤ c → c ≤ 57
    → tokens_after word (c ∷ rest) ≡ tokens_after (word ++ c ∷ []) rest
digit_joins_word c word rest low high =
    rw (
      lt-leb 64 c (omega (arith, high)),
      lt-leb 65 c (omega (arith, high)),
      lt-leb 97 c (omega (arith, high)),
      ne_eqb c 95 (λ same. omega (arith, same, high)),
      ne_eqb c 35 (λ same. omega (arith, same, low)),
      lt-leb 192 c (omega (arith, high)),
      le-ltb 127 c (omega (arith, high)),
      le-leb 48 c low,
      le-leb c 57 high,
      encode_ascii c (omega (arith, high)),
    ) refl

digits_join_word : (ds word rest : List ℕ) → all_ascii_digits ds ≡ true
    → tokens_after word (ds ++ rest) ≡ tokens_after (word ++ ds) rest
digits_join_word [] word rest digits = ap (λ w. tokens_after w rest) (sym (append-nil word))
digits_join_word (d ∷ ds) word rest digits =
    let tokens = tells_all_ascii_digits.parts d ds digits in
    digit_joins_word d word (ds ++ rest) tokens.0.0 tokens.0.1
    ∙ digits_join_word ds (word ++ d ∷ []) rest tokens.1
    ∙ ap (λ w. tokens_after w rest) (append_assoc word (d ∷ []) ds)

-- digits of this value and count are a number
pub digits_read : (ds : List ℕ) (n k : ℕ) → all_ascii_digits ds ≡ true → digits_value 10 ds ≡ n
    → length ds ≡ k → 1 ≤ k → k ≤ 9
    → Reads ds (token.Number (record { value = n; digits = k }) ∷ [])
digits_read ds n k digits value count some few =
    let some_digits : 1 ≤ length ds = omega (arith, count, some) in
    let few_digits : length ds ≤ 9 = omega (arith, count, few) in
    let apart : length ds ≡ 0 → ⊥ = λ none. omega (arith, none, some_digits) in
    let found : token_of_run ds
    ≡ Some (token.Number (record { value = digits_value 10 ds; digits = length ds })) =
    rw (ne_eqb (length ds) 0 apart, value_is ds some_digits few_digits digits) refl in
    word_reads ds ds (token.Number (record { value = n; digits = k })) (low_digits ds digits)
    (λ rest. digits_join_word ds [] rest digits)
    (found
    ∙ ap (λ v. Some (token.Number (record { value = v; digits = length ds }))) value
    ∙ ap (λ c. Some (token.Number (record { value = n; digits = c }))) count)
