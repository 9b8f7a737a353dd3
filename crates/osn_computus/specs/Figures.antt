-- The figures of a year: the cycles and the epacts of the canons of Inter gravissimas (1582), with
-- the arithmetic of Reingold and Dershowitz, Calendrical Calculations, "The Ecclesiastical
-- Calendars".
use Rattle.std.specs.Prelude.{ℕ, ◌+◌, ◌-◌, ◌*◌, ◌/◌, ◌%◌, ◌==◌, ◌&&◌, nat_lt}
use Rattle.std.specs.Prelude.{pos, ◌-ℤ◌, unsigned_abs}
use Rattle.std.specs.Int.{int_rem_euclid}
use Rattle.osn_computus.specs.declared.epact.Epact.{Epact}

-- canon 1: the place in the cycle of 19 years, after which the moons come on the same days again
abbrev pub golden_number : ℕ → ℕ
golden_number y = y % 19 + 1

-- canon 4: the place in the cycle of 15 years
abbrev pub indiction : ℕ → ℕ
indiction y = (y + 2) % 15 + 1

-- a year makes the moon 11 days older
abbrev pub julian_epact : ℕ → ℕ
julian_epact y = (11 * (golden_number y - 1)) % 30

-- the century that the corrections count
abbrev pub century : ℕ → ℕ
century y = y / 100 + 1

-- the leap days that centuries skip, each of which makes the moon a day younger
abbrev pub solar_correction : ℕ → ℕ
solar_correction y = (3 * century y) / 4

-- eight days in 2500 years, each of which makes the moon a day older
abbrev pub lunar_correction : ℕ → ℕ
lunar_correction y = (8 * century y + 5) / 25

-- canon 2: the epact of the first golden number in the first century is 8, and that of each next
-- one is 11 more. Both corrections apply, and 30 are a whole month
abbrev pub epact_number : ℕ → ℕ
epact_number y =
    let older = pos (8 + 11 * (golden_number y - 1) + lunar_correction y) in
    unsigned_abs (int_rem_euclid (older -ℤ pos (solar_correction y)) (pos 30))

-- 25 has a prime if the golden number is above 11, so that no two of the 19 years of a cycle have
-- one new moon. Up to 3107 the golden numbers with the epact 25 are 11 at most or 14 at least: 12
-- first has it in 3108
abbrev pub gregorian_epact : ℕ → Epact
gregorian_epact y = record {
  number = epact_number y;
  prime = (epact_number y == 25) && nat_lt 11 (golden_number y);
}
