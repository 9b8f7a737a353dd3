-- The parts of a text: its numbers, its names and its marks. This project's profile.
use Rattle.std.specs.Prelude.{ℕ, Bool, true, false, not, ◌&&◌, ◌||◌, nat_le, ◌==◌}
use Rattle.std.specs.Prelude.{◌+◌, ◌-◌, ◌*◌, if◌then◌else◌}
use Rattle.std.specs.Prelude.{List, [], ◌∷◌, length, Option, Some, None, option_map}
use Rattle.std.specs.List.{list_all}
use Rattle.std.specs.Str.{all_ascii_digits}
use Rattle.std.specs.Str.Parse.{digits_value}
use Rattle.osn_grammar.specs.declared.token.Numeral.{Numeral}
use Rattle.osn_grammar.specs.declared.token.Token.{Token}
use Rattle.osn_grammar.specs.declared.token.Token.TheVariants as token
use Rattle.osn_grammar.specs.declared.token.Years.{Years}
use Rattle.osn_grammar.specs.Names.{token_named}
use Rattle.osn_grammar.specs.RomanYear.{roman_year}

-- the part says which day is meant
abbrev pub is_of_time : Token → Bool
is_of_time (token.Weekday w) = false
is_of_time (token.Reckoning r) = false
is_of_time token.About = false
is_of_time token.Doubt = false
is_of_time token.AboutAndDoubt = false
is_of_time token.Bracket = false
is_of_time token.Round = false
is_of_time token.Filler = false
is_of_time _ = true

-- the value of 1 to 9 digits and nothing else
abbrev pub value_of : List ℕ → Option ℕ
value_of word =
    if nat_le 1 (length word) && (nat_le (length word) 9 && all_ascii_digits word) then
    Some (digits_value 10 word)
    else None

-- the number of 1 to 9 digits and nothing else, with the count of its digits
abbrev pub numeral_of : List ℕ → Option Numeral
numeral_of word =
    option_map (λ n. record { value = n; digits = length word }) (value_of word)

-- a small letter of Roman numerals: i, j, v, x, l, c, d, m
abbrev pub is_roman : ℕ → Bool
is_roman b =
    b == 105 || (b == 106 || (b == 118 || (b == 120 || (b == 108 || (b == 99
    || (b == 100 || b == 109))))))

-- `x` or `_`, for a digit that is open
abbrev pub is_gap : ℕ → Bool
is_gap b = b == 120 || b == 95

-- a digit, or a gap
abbrev pub is_place : ℕ → Bool
is_place b = all_ascii_digits (b ∷ []) || is_gap b

-- two digits
abbrev pub are_two_digits : ℕ → ℕ → Bool
are_two_digits a b = all_ascii_digits (a ∷ []) && all_ascii_digits (b ∷ [])

-- the end of `1580s`
abbrev pub is_zero_s : ℕ → ℕ → Bool
is_zero_s d e = d == 48 && e == 115

-- the value of a digit
abbrev pub digit : ℕ → ℕ
digit b = if nat_le 48 b && nat_le b 57 then b - 48 else 0

-- the years from a first one on
abbrev pub years_from : ℕ → ℕ → Years
years_from first more = record { first = first; last = first + more }

-- the ten years that begin with three digits, and the hundred years that begin with two
abbrev pub decade : ℕ → ℕ → ℕ → Years
decade a b c = years_from (1000 * digit a + 100 * digit b + 10 * digit c) 9

abbrev pub hundred : ℕ → ℕ → Years
hundred a b = years_from (1000 * digit a + 100 * digit b) 99

-- a decade whose last digit is open, 158x, 158_, and the years of 15xx, 15__
abbrev pub years_of_gaps : ℕ → ℕ → ℕ → ℕ → Option Years
years_of_gaps a b c d =
    if not (are_two_digits a b) || not (is_gap d) then None
    else (if all_ascii_digits (c ∷ []) then Some (decade a b c)
    else (if is_gap c then Some (hundred a b)
    else None))

-- the decade of 1580s, and of 1580er. 1500s may be a century, too
abbrev pub years_of_plural : ℕ → ℕ → ℕ → ℕ → ℕ → Option Years
years_of_plural a b c d e =
    if are_two_digits a b && (all_ascii_digits (c ∷ []) && (not (c == 48) && is_zero_s d e)) then
    Some (decade a b c)
    else None

-- the years that a word is
abbrev pub years_of_word : List ℕ → Option Years
years_of_word (a ∷ b ∷ c ∷ d ∷ []) = years_of_gaps a b c d
years_of_word (a ∷ b ∷ c ∷ d ∷ e ∷ []) = years_of_plural a b c d e
years_of_word (a ∷ b ∷ c ∷ d ∷ e ∷ r ∷ []) =
    if e == 101 && r == 114 then years_of_plural a b c d 115 else None
years_of_word _ = None

-- a year with other open digits: 1x3x, 1xxx, and 1500s
abbrev pub is_open_year : List ℕ → Bool
is_open_year (a ∷ b ∷ c ∷ d ∷ []) =
    all_ascii_digits (a ∷ []) && (is_place b && (is_place c && is_gap d))
is_open_year (a ∷ b ∷ c ∷ d ∷ e ∷ []) = are_two_digits a b && (c == 48 && is_zero_s d e)
is_open_year _ = false

-- an ordinal of one or two digits and `e`: 16e
abbrev pub ordinal_of : List ℕ → Option Numeral
ordinal_of (a ∷ e ∷ []) =
    if all_ascii_digits (a ∷ []) && e == 101 then Some (record { value = digit a; digits = 1 })
    else None
ordinal_of (a ∷ b ∷ e ∷ []) =
    if are_two_digits a b && e == 101 then
    Some (record { value = 10 * digit a + digit b; digits = 2 })
    else None
ordinal_of _ = None

-- a year in Roman numerals
abbrev pub roman_number : List ℕ → Option Numeral
roman_number word = option_map (λ n. record { value = n; digits = 4 }) (roman_year word)

-- a word that is neither a number nor a name
abbrev pub token_by_form : List ℕ → Option Years → Option Numeral → Option Numeral → Token
token_by_form word (Some years) ordinal year = token.Years years
token_by_form word None (Some n) year = token.Number n
token_by_form word None None (Some n) = token.Number n
token_by_form word None None None =
    if is_open_year word then token.OpenYear
    else (if list_all is_roman word then token.RomanNumeral else token.Unknown)

abbrev pub token_of_other : List ℕ → Token
token_of_other word =
    token_by_form word (years_of_word word) (ordinal_of word) (roman_number word)

-- a word that is not a number
abbrev pub token_of_name : List ℕ → Option Token → Token
token_of_name word (Some p) = p
token_of_name word None = token_of_other word

-- a word
abbrev pub token_of_word : List ℕ → Option Numeral → Token
token_of_word word (Some n) = token.Number n
token_of_word word None = token_of_name word (token_named word)

abbrev pub token_of : List ℕ → Token
token_of word = token_of_word word (numeral_of word)
