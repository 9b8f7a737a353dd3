-- Decades and centuries, which are ranges of years. This project's profile.
use Rattle.std.specs.Prelude.{ℕ, Bool, true, false, not, ◌&&◌, ◌||◌, ◌==◌, ◌+◌, ◌-◌, ◌*◌, ◌%◌}
use Rattle.std.specs.Prelude.{nat_le}
use Rattle.std.specs.Prelude.{if◌then◌else◌, List, [], ◌∷◌, Option, Some, None}
use Rattle.std.specs.Str.{all_ascii_digits}
use Rattle.osn_grammar.specs.declared.token.Token.{Token}
use Rattle.osn_grammar.specs.declared.token.Token.TheVariants as token
use Rattle.osn_grammar.specs.declared.token.Token.TheVariants.{Number, Roman, Century, Dash}
use Rattle.osn_grammar.specs.declared.token.Token.TheVariants.{Slash, To, Or, CenturyLetter, Tal}
use Rattle.osn_grammar.specs.declared.token.Numeral.{Numeral}
use Rattle.osn_grammar.specs.declared.token.Years.{Years}
use Rattle.osn_grammar.specs.Tokens.{are_two_digits, decade, digit, hundred, years_from}
use Rattle.osn_grammar.specs.Sets.{inside_brackets}
use Rattle.osn_grammar.specs.Simple.{is_between}
use Rattle.osn_written.specs.declared.any_date.AnyDate.{AnyDate}
use Rattle.osn_written.specs.declared.any_date.Extent.{Extent}
use Rattle.osn_written.specs.declared.any_date.Extent.TheVariants as extent
use Rattle.osn_written.specs.declared.any_date.PartialDate.{PartialDate}
use Rattle.osn_written.specs.declared.any_date.PartialDate.TheVariants as date

abbrev pub whole_year : ℕ → PartialDate
whole_year y = date.Year (record {
  first = y;
  is_double = false;
  has_three_digits = false;
})

abbrev pub range_of : Years → Extent
range_of years = extent.FromTo (whole_year years.first) (whole_year years.last)

-- ---- in words

-- the 16th century is 1501 to 1600
abbrev pub century : ℕ → Option Years
century n =
    if is_between 1 99 n then Some (record { first = 100 * n - 99; last = 100 * n }) else None

abbrev pub both_years : Option Years → Option Years → Option Years
both_years None last = None
both_years (Some first) None = None
both_years (Some first) (Some last) = Some (record { first = first.first; last = last.last })

-- 1580s-1590s, 15th/16th century, 15th to 16th century, 15th or 16th century
abbrev pub join_years : Option Years → Token → Option Years → Option Years
join_years first Dash last = both_years first last
join_years first Slash last = both_years first last
join_years first To last = both_years first last
join_years first Or last = both_years first last
join_years first _ last = None

-- a decade, 158x, 1580s, or a century, 15xx, 16th century, XVIe siècle, sec. XVI
abbrev pub one_in : List Token → Option Years
one_in (token.Years years ∷ []) = Some years
one_in (Number n ∷ Century ∷ []) = century n.value
one_in (Roman n ∷ Century ∷ []) = century n
one_in (Century ∷ Roman n ∷ []) = century n
one_in _ = None

-- the years from one of four digits on
abbrev pub years_on : Numeral → ℕ → Option Years
years_on first more =
    if first.digits == 4 && nat_le first.value 9999 then Some (years_from first.value more)
    else None

-- the decade from a year that ends with one zero. The year of `années 1500`, which ends with two,
-- may begin a century too
abbrev pub decade_from : Numeral → Option Years
decade_from first =
    if first.value % 10 == 0 && not (first.value % 100 == 0) then years_on first 9 else None

-- 1500-talet is 1500 to 1599, and 1580-talet 1580 to 1589
abbrev pub years_of_tal : Numeral → Option Years
years_of_tal first = if first.value % 100 == 0 then years_on first 99 else decade_from first

-- XVIe s., s. XVI, 1580-talet, années 1580
abbrev pub by_word : List Token → Option Years
by_word (Roman n ∷ CenturyLetter ∷ []) = century n
by_word (CenturyLetter ∷ Roman n ∷ []) = century n
by_word (Number first ∷ Dash ∷ Tal ∷ []) = years_of_tal first
by_word (token.Decade ∷ Number first ∷ []) = decade_from first
by_word _ = None

-- two of them
abbrev pub decades_in : List Token → Option Years
decades_in (token.Years first ∷ p ∷ token.Years last ∷ []) = join_years (Some first) p (Some last)
decades_in _ = None

abbrev pub centuries_in : List Token → Option Years
centuries_in (Number first ∷ p ∷ Number last ∷ Century ∷ []) =
    join_years (century first.value) p (century last.value)
centuries_in _ = None

abbrev pub roman_years : ℕ → Token → ℕ → Option Years
roman_years first p last = join_years (century first) p (century last)

abbrev pub roman_centuries_in : List Token → Option Years
roman_centuries_in (Roman first ∷ p ∷ Roman last ∷ Century ∷ []) = roman_years first p last
roman_centuries_in (Century ∷ Roman first ∷ p ∷ Roman last ∷ []) = roman_years first p last
roman_centuries_in _ = None

abbrev pub or_years : Option Years → Option Years → Option Years
or_years (Some years) other = Some years
or_years None other = other

abbrev pub years_in : List Token → Option Years
years_in tokens =
    or_years (or_years (one_in tokens) (or_years (by_word tokens) (decades_in tokens)))
    (or_years (centuries_in tokens) (roman_centuries_in tokens))

-- ---- in digits and signs

-- 158? and 158- are a decade, and 15-- the years that begin with 15. With a zero in front, 058? is
-- a year in doubt
abbrev pub years_by_signs : ℕ → ℕ → ℕ → ℕ → Option Years
years_by_signs a b c d =
    if not (are_two_digits a b) || a == 48 then None
    else (if all_ascii_digits (c ∷ []) && (d == 45 || d == 63) then Some (decade a b c)
    else (if c == 45 && d == 45 then Some (hundred a b)
    else None))

abbrev pub date_of_years : Option Years → Bool → Bool → Option AnyDate
date_of_years None uncertain supplied = None
date_of_years (Some years) uncertain supplied = Some (record {
  extent = range_of years;
  weekday = None;
  reckoning = None;
  is_approximate = false;
  is_uncertain = uncertain;
  is_supplied = supplied;
})

-- a text of digits and signs, and nothing else. 158-? and 15--? are in doubt. A dash may be U+2013
-- after three digits
abbrev pub open_years : Bool → List ℕ → Option AnyDate
open_years supplied (a ∷ b ∷ c ∷ d ∷ []) =
    date_of_years (years_by_signs a b c d) false supplied
open_years supplied (a ∷ b ∷ c ∷ d ∷ e ∷ []) =
    if d == 45 && e == 63 then date_of_years (years_by_signs a b c d) true supplied else None
open_years supplied (a ∷ b ∷ c ∷ d ∷ e ∷ f ∷ []) =
    if d == 226 && (e == 128 && f == 147) then
    date_of_years (years_by_signs a b c 45) false supplied
    else None
open_years supplied _ = None

-- 16th c.
abbrev pub years_by : ℕ → ℕ → Option Years
years_by a b = if are_two_digits a b then century (10 * digit a + digit b) else None

abbrev pub is_ordinal : ℕ → ℕ → ℕ → ℕ → Bool
is_ordinal t h s c =
    (t == 116 || t == 84) && ((h == 104 || h == 72) && (s == 32 && (c == 99 || c == 67)))

abbrev pub century_by_letter : List ℕ → Option Years
century_by_letter (a ∷ b ∷ t ∷ h ∷ s ∷ c ∷ []) =
    if is_ordinal t h s c then years_by a b else None
century_by_letter (a ∷ b ∷ t ∷ h ∷ s ∷ c ∷ stop ∷ []) =
    if is_ordinal t h s c && stop == 46 then years_by a b else None
century_by_letter _ = None

abbrev pub date_or : Option AnyDate → Option AnyDate → Option AnyDate
date_or (Some w) other = Some w
date_or None other = other

abbrev pub years_or_century : Bool → List ℕ → Option AnyDate
years_or_century supplied text =
    date_or (open_years supplied text)
    (date_of_years (century_by_letter text) false supplied)

-- in brackets an editor supplied it: [158-]
abbrev pub open_inside : List ℕ → Option (List ℕ) → Option AnyDate
open_inside text None = years_or_century false text
open_inside text (Some inside) = years_or_century true inside

abbrev pub years_of_text : List ℕ → Option AnyDate
years_of_text text = open_inside text (inside_brackets text)
