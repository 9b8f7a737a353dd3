-- The tables of the paschal moon. The Julian rule uses the 19 full moons of the cycle of 19 years
-- (Reingold and Dershowitz, Calendrical Calculations, "The Ecclesiastical Calendars"). The
-- Gregorian rule uses epacts. The second canon of Inter gravissimas (1582) and the calendar of the
-- canons give them for the days on which a paschal new moon can fall.
use Rattle.std.specs.Prelude.{ℕ, ◌+◌, ◌-◌, ◌==◌, ◌&&◌, Bool, true, false, not, nat_lt}
use Rattle.std.specs.Prelude.{if◌then◌else◌, List, [], ◌∷◌, Option, slice_get}
use Rattle.std.specs.List.{find, list_any}
use Rattle.std.specs.Option.{option_map}
use Rattle.osn_computus.specs.declared.epact.Epact.{Epact}

-- a day of a year, whichever the year
pub record MonthDay : Type 0 where
  pub month : ℕ
  pub day : ℕ

abbrev pub march : ℕ → MonthDay
march d = record { month = 3; day = d }

abbrev pub april : ℕ → MonthDay
april d = record { month = 4; day = d }

-- the day this many days after 1 March, up to 30 April
abbrev pub after_march_1 : ℕ → MonthDay
after_march_1 n = if nat_lt n 31 then march (n + 1) else april (n - 30)

-- in the Julian calendar, by the golden number from 1 to 19
abbrev pub julian_full_moons : List MonthDay
julian_full_moons =
    april 5 ∷ march 25 ∷ april 13 ∷ april 2 ∷ march 22 ∷ april 10 ∷ march 30 ∷ april 18 ∷ april 7
    ∷ march 27 ∷ april 15 ∷ april 4 ∷ march 24 ∷ april 12 ∷ april 1 ∷ march 21 ∷ april 9 ∷ march 29
    ∷ april 17 ∷ []

unfoldable pub julian_full_moon : ℕ → Option MonthDay
julian_full_moon golden = slice_get julian_full_moons (golden - 1)

abbrev pub plain : ℕ → Epact
plain n = record { number = n; prime = false }

abbrev pub twenty_five_prime : Epact
twenty_five_prime = record { number = 25; prime = true }

-- a day of the canons' calendar with its epacts
pub record Row : Type 0 where
  pub date : MonthDay
  pub epacts : List Epact

abbrev pub row : MonthDay → List Epact → Row
row date epacts = record { date = date; epacts = epacts }

-- 8 March to 5 April, in the Gregorian calendar. The canons write a star for 0
abbrev pub paschal_rows : List Row
paschal_rows =
    row (march 8) (plain 23 ∷ [])
    ∷ row (march 9) (plain 22 ∷ [])
    ∷ row (march 10) (plain 21 ∷ [])
    ∷ row (march 11) (plain 20 ∷ [])
    ∷ row (march 12) (plain 19 ∷ [])
    ∷ row (march 13) (plain 18 ∷ [])
    ∷ row (march 14) (plain 17 ∷ [])
    ∷ row (march 15) (plain 16 ∷ [])
    ∷ row (march 16) (plain 15 ∷ [])
    ∷ row (march 17) (plain 14 ∷ [])
    ∷ row (march 18) (plain 13 ∷ [])
    ∷ row (march 19) (plain 12 ∷ [])
    ∷ row (march 20) (plain 11 ∷ [])
    ∷ row (march 21) (plain 10 ∷ [])
    ∷ row (march 22) (plain 9 ∷ [])
    ∷ row (march 23) (plain 8 ∷ [])
    ∷ row (march 24) (plain 7 ∷ [])
    ∷ row (march 25) (plain 6 ∷ [])
    ∷ row (march 26) (plain 5 ∷ [])
    ∷ row (march 27) (plain 4 ∷ [])
    ∷ row (march 28) (plain 3 ∷ [])
    ∷ row (march 29) (plain 2 ∷ [])
    ∷ row (march 30) (plain 1 ∷ [])
    ∷ row (march 31) (plain 0 ∷ [])
    ∷ row (april 1) (plain 29 ∷ [])
    ∷ row (april 2) (plain 28 ∷ [])
    ∷ row (april 3) (plain 27 ∷ [])
    ∷ row (april 4) (plain 26 ∷ twenty_five_prime ∷ [])
    ∷ row (april 5) (plain 25 ∷ plain 24 ∷ [])
    ∷ []

abbrev pub same_epact : Epact → Epact → Bool
same_epact a b = (a.number == b.number) && (if a.prime then b.prime else not b.prime)

-- the day whose label is the epact
unfoldable pub gregorian_new_moon : Epact → Option MonthDay
gregorian_new_moon epact =
    option_map (λ r. r.date) (find (λ r. list_any (same_epact epact) r.epacts) paschal_rows)
