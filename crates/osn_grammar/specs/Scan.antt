-- How a text is cut, by its characters, into its parts: words, which are runs of letters and
-- digits, and marks. This project's profile.
use Rattle.std.specs.Prelude.{ℕ, Bool, true, false, not, ◌&&◌, ◌||◌, nat_le, nat_lt, ◌==◌, ◌+◌}
use Rattle.std.specs.Prelude.{if◌then◌else◌, List, [], ◌∷◌, ◌++◌, Option, Some, None, length}
use Rattle.std.specs.Prelude.{chars, encode_utf8}
use Rattle.std.specs.Option.{option_to_list}
use Rattle.std.specs.Str.{all_ascii_digits}
use Rattle.osn_grammar.specs.declared.token.Token.{Token}
use Rattle.osn_grammar.specs.declared.token.Token.TheVariants as token
use Rattle.osn_grammar.specs.Names.{token_named}
use Rattle.osn_grammar.specs.Tokens.{token_of}

-- a character from one to another
abbrev pub is_from_to : ℕ → ℕ → ℕ → Bool
is_from_to low high c = nat_le low c && nat_le c high

-- a digit
abbrev pub is_digit : ℕ → Bool
is_digit c = is_from_to 48 57 c

-- a dash: the hyphens -, U+2010 and U+2011, the dashes U+2013 and U+2014, and the minus sign U+2212
abbrev pub is_dash : ℕ → Bool
is_dash c = c == 45 || (is_from_to 8208 8209 c || (is_from_to 8211 8212 c || c == 8722))

-- a blank: a space, a tab, and the spaces U+00A0, U+2009 and U+202F
abbrev pub is_blank : ℕ → Bool
is_blank c = c == 32 || (c == 9 || (c == 160 || (c == 8201 || c == 8239)))

-- a letter: of ASCII, `_`, `@` and `#`, or any other character beyond ASCII except a dash or blank
abbrev pub is_letter : ℕ → Bool
is_letter c =
    is_from_to 64 90 c
    || (is_from_to 97 122 c
    || (c == 95 || (c == 35 || (nat_lt 127 c && not (is_dash c || is_blank c)))))

-- the small letter of a capital one of ASCII, or of U+00C0 to U+00DE
abbrev pub small : ℕ → ℕ
small c = if is_from_to 65 90 c || is_from_to 192 222 c then c + 32 else c

-- there is a next character, and it passes the test
abbrev pub next_is : (ℕ → Bool) → Option ℕ → Bool
next_is test None = false
next_is test (Some c) = test c

-- a word that is not a number and is not empty
abbrev pub is_name : List ℕ → Bool
is_name word = not (all_ascii_digits word)

-- a word of digits
abbrev pub is_number : List ℕ → Bool
is_number word = not (length word == 0) && all_ascii_digits word

-- the first character
abbrev pub first_of : List ℕ → Option ℕ
first_of [] = None
first_of (c ∷ rest) = Some c

-- no letter comes directly after the digits at the beginning
abbrev pub are_digits_alone : List ℕ → Bool
are_digits_alone [] = true
are_digits_alone (c ∷ rest) = if is_digit c then are_digits_alone rest else not (is_letter c)

-- a number comes next, after any blanks: `8bris` is not a number
abbrev pub is_number_next : List ℕ → Bool
is_number_next [] = false
is_number_next (c ∷ rest) =
    if is_blank c then is_number_next rest else is_digit c && are_digits_alone rest

-- of full stops, two in a row are an open end, and one between two numbers is a mark
abbrev pub mark_of_stop : List ℕ → List ℕ → Option Token
mark_of_stop word rest =
    if next_is (λ c. c == 46) (first_of rest) then Some token.Open
    else (if is_number word && is_number_next rest then Some token.Dot else None)

-- a round bracket before one or two digits and another one, as in `3 (13) June` and `3. (13.)
-- Juni`, is a mark
abbrev pub is_round_next : List ℕ → Bool
is_round_next [] = false
is_round_next (c ∷ rest) = c == 41

abbrev pub ends_round : List ℕ → Bool
ends_round [] = false
ends_round (c ∷ rest) = c == 41 || (c == 46 && is_round_next rest)

abbrev pub is_last_digit_next : List ℕ → Bool
is_last_digit_next [] = false
is_last_digit_next (c ∷ rest) = is_digit c && ends_round rest

abbrev pub is_in_round : List ℕ → Bool
is_in_round [] = false
is_in_round (c ∷ rest) = is_digit c && (ends_round rest || is_last_digit_next rest)

abbrev pub mark_of_round : List ℕ → Option Token
mark_of_round rest = if is_in_round rest then Some token.Round else None

-- the name of a month
abbrev pub is_month : Option Token → Bool
is_month (Some (token.Month m)) = true
is_month _ = false

abbrev pub is_month_name : List ℕ → Bool
is_month_name word = is_month (token_named word)

-- the name of a month, or an ordinal such as `11th`
abbrev pub is_named_part : Option Token → Bool
is_named_part (Some (token.Month m)) = true
is_named_part (Some (token.Number n)) = true
is_named_part _ = false

abbrev pub is_month_or_ordinal : List ℕ → Bool
is_month_or_ordinal word = is_named_part (token_named word)

-- the mark that a character is, after a word and before the rest of the text. Blanks, commas, other
-- round brackets and a colon after the name of a month or an ordinal, `11th: Feb:`, are not marks
abbrev pub mark_of : List ℕ → ℕ → List ℕ → Option Token
mark_of word c rest =
    if is_dash c then Some token.Dash
    else (if c == 47 then Some token.Slash
    else (if c == 63 then Some token.Doubt
    else (if c == 126 then Some token.About
    else (if c == 37 then Some token.AboutAndDoubt
    else (if c == 91 || c == 93 then Some token.Bracket
    else (if c == 46 then mark_of_stop word rest
    else (if c == 40 then mark_of_round rest
    else (if is_blank c || (c == 44 || c == 41) then None
    else (if c == 58 && is_month_or_ordinal word then None
    else (if c == 38 then Some token.And
    else Some token.Unknown))))))))))

-- the part of a word, which may be empty
abbrev pub token_of_run : List ℕ → Option Token
token_of_run word = if length word == 0 then None else Some (token_of word)

-- one letter alone comes next
abbrev pub is_letter_alone : List ℕ → Bool
is_letter_alone [] = false
is_letter_alone (c ∷ rest) =
    is_letter c && not (next_is (λ d. is_letter d || is_digit d) (first_of rest))

-- a letter comes next
abbrev pub is_letter_next : List ℕ → Bool
is_letter_next [] = false
is_letter_next (c ∷ rest) = is_letter c

-- a full stop between two single letters is ignored: `O.S.` is `OS`. A colon between the name of a
-- month and a letter is ignored too: `Feb:ry` is `Febry`
abbrev pub is_passed_over : List ℕ → ℕ → List ℕ → Bool
is_passed_over word c rest =
    if c == 46 then is_letter_alone rest && (length word == 1 && is_name word)
    else c == 58 && (is_letter_next rest && is_month_name word)

-- the next character and a word so far are both of a number, or both of a name
abbrev pub are_alike : List ℕ → ℕ → Bool
are_alike word next =
    if is_digit next then all_ascii_digits word else is_letter next && is_name word

-- a square bracket is within a word if both sides of it are digits or both are letters: `16[60]` is
-- `1660`, and `Feb[ruary]` is `February`
abbrev pub is_alike_next : List ℕ → List ℕ → Bool
is_alike_next word [] = false
is_alike_next word (next ∷ rest) = are_alike word next

abbrev pub is_bracket_within : List ℕ → ℕ → List ℕ → Bool
is_bracket_within word c rest =
    (c == 91 || c == 93) && (not (length word == 0) && is_alike_next word rest)

-- the word so far, after one more character
abbrev pub word_after : List ℕ → ℕ → List ℕ → List ℕ
word_after word c rest =
    if is_letter c || is_digit c then word ++ encode_utf8 (small c)
    else (if is_passed_over word c rest || is_bracket_within word c rest then word else [])

-- the parts that end with a character: a word, and the mark after it. A square bracket within a
-- word comes before it
abbrev pub tokens_ended : List ℕ → ℕ → List ℕ → List Token
tokens_ended word c rest =
    if is_letter c || (is_digit c || is_passed_over word c rest) then []
    else (if is_bracket_within word c rest then token.Bracket ∷ []
    else option_to_list (token_of_run word) ++ option_to_list (mark_of word c rest))

-- the parts of a word so far and of the characters after it
abbrev pub tokens_after : List ℕ → List ℕ → List Token
tokens_after word [] = option_to_list (token_of_run word)
tokens_after word (c ∷ rest) =
    tokens_ended word c rest ++ tokens_after (word_after word c rest) rest

-- the parts of a text
abbrev pub tokens_in : List ℕ → List Token
tokens_in text = tokens_after [] (chars text)
