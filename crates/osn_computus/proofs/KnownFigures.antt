-- The definitions give figures of years that are known from elsewhere.
use Rattle.std.proofs.Common.{◌≡◌, [], ◌∷◌, map, Some, refl}
use Rattle.std.specs.List.{range_with_len}
use Rattle.osn_computus.specs.Figures.{golden_number, indiction, julian_epact, gregorian_epact}
use Rattle.osn_computus.specs.Moon.{april, plain, twenty_five_prime, julian_full_moon}
use Rattle.osn_computus.specs.Moon.{gregorian_new_moon}

-- the first row of the table of Dionysius Exiguus (525). In 532, the first year of a cycle, the
-- indiction is 10, the epact is 0 and the full moon is on 5 April
first_row : (golden_number 532 ≡ 1) × (indiction 532 ≡ 10) × (julian_epact 532 ≡ 0)
    × (julian_full_moon 1 ≡ Some (april 5))
unfolding julian_full_moon
first_row = (refl, refl, refl, refl)

-- the first and the second canon: in 1582 the golden number is 6, and the epact of the reform 26.
-- In 1583 both are 7
reform : (golden_number 1582 ≡ 6) × (gregorian_epact 1582 ≡ plain 26)
    × (golden_number 1583 ≡ 7) × (gregorian_epact 1583 ≡ plain 7)
reform = (refl, refl, refl, refl)

-- the epacts of the 19 golden numbers from 1900 to 2199, as printed at the beginning of a Missal of
-- that time, with 0 for the star
from_1900 : map gregorian_epact (range_with_len 1900 19)
    ≡ plain 29 ∷ plain 10 ∷ plain 21 ∷ plain 2 ∷ plain 13 ∷ plain 24 ∷ plain 5 ∷ plain 16 ∷ plain 27
    ∷ plain 8 ∷ plain 19 ∷ plain 0 ∷ plain 11 ∷ plain 22 ∷ plain 3 ∷ plain 14 ∷ twenty_five_prime
    ∷ plain 6 ∷ plain 17 ∷ []
from_1900 = refl

-- 25 with the golden numbers 6, 17 and 12: the bound between them shows in 3108 alone
twenty_five : (gregorian_epact 1886 ≡ plain 25) × (gregorian_epact 1954 ≡ twenty_five_prime)
    × (gregorian_epact 3108 ≡ twenty_five_prime)
twenty_five = (refl, refl, refl)

-- its two new moons
two_moons : (gregorian_new_moon (plain 25) ≡ Some (april 5))
    × (gregorian_new_moon twenty_five_prime ≡ Some (april 4))
unfolding gregorian_new_moon
two_moons = (refl, refl)
