-- A double year after a dash, beside a day or a month: 11 Feb. 1675-6. This project's profile.
use Rattle.std.specs.Prelude.{Bool, true, false, ◌&&◌, ◌||◌, not, nat_le, ◌==◌, if◌then◌else◌}
use Rattle.std.specs.Prelude.{List, [], ◌∷◌, Option, Some, None}
use Rattle.std.specs.List.{list_any}
use Rattle.osn_grammar.specs.declared.token.Numeral.{Numeral}
use Rattle.osn_grammar.specs.declared.token.Token.{Token}
use Rattle.osn_grammar.specs.declared.token.Token.TheVariants.{Number, Month, Dash, Slash, Dot}
use Rattle.osn_grammar.specs.Simple.{ends_next_year}

-- the later year is written with its last one or two digits, or in full. A year of three digits may
-- have lost one
abbrev pub is_double_by : Numeral → Numeral → Bool
is_double_by year later =
    nat_le 4 year.digits
    && (nat_le year.value 10000
    && ((nat_le later.digits 2 || later.digits == 4) && ends_next_year year.value later))

-- the part may be before the year of a date: its month or its day
abbrev pub is_of_date : Option Token → Bool
is_of_date (Some (Month m)) = true
is_of_date (Some (Number n)) = true
is_of_date (Some Dot) = true
is_of_date _ = false

-- a month and a day come next
abbrev pub begins_day : List Token → Bool
begins_day (Month m ∷ Number d ∷ rest) = true
begins_day _ = false

-- the dash of a double year is a `/`. A month or a day is before the year, or a month and a day are
-- after it, as in 1675-6 Feb. 11
abbrev pub slash_if : Bool → Token
slash_if double = if double then Slash else Dash

abbrev pub dash_after : Option Token → Numeral → List Token → Token
dash_after earlier year (Number later ∷ rest) =
    slash_if (is_double_by year later && (is_of_date earlier || begins_day rest))
dash_after earlier year rest = Dash

abbrev pub with_slash : Option Token → Option Token → Token → List Token → Token
with_slash earlier (Some (Number year)) Dash rest = dash_after earlier year rest
with_slash earlier before token rest = token

-- the parts after two others, which may be none
abbrev pub slashed_after : Option Token → Option Token → List Token → List Token
slashed_after earlier before [] = []
slashed_after earlier before (token ∷ rest) =
    with_slash earlier before token rest ∷ slashed_after before (Some token) rest

abbrev pub with_slashes : List Token → List Token
with_slashes tokens = slashed_after None None tokens

-- a month by its name, and one after March
abbrev pub is_month : Token → Bool
is_month (Month m) = true
is_month _ = false

abbrev pub is_late_month : Token → Bool
is_late_month (Month m) = not (nat_le m 3)
is_late_month _ = false

-- a double year is of a date from January to March
abbrev pub may_be_double : List Token → Bool
may_be_double tokens = list_any is_month tokens && not (list_any is_late_month tokens)
