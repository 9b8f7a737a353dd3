-- A number of one or two digits is small.
use Rattle.std.proofs.Common.{◌≡◌, ◌≤◌, ◌<◌, nat_le, ℕ, Bool, true, false, ◌&&◌, if◌then◌else◌}
use Rattle.std.proofs.Common.{List, length, Some, None, refl, arith}
use Rattle.std.specs.Str.{all_ascii_digits}
use Rattle.std.specs.Str.Parse.{digits_value}
use Rattle.std.proofs.lemmas.Str.Parse.{digits_value_short, numerals_by_value}
use Rattle.std.proofs.lemmas.Str.Parse.{tells_all_ascii_digits}
use Rattle.osn_written.specs.WrittenDate.{number_of}

number_parts : (a b d : Bool) (v n : ℕ) → Some n ≡ (if a && (b && d) then Some v else None)
    → (d ≡ true) × (n ≡ v)
number_parts true true true v n e = (refl, cc)
number_parts true true false v n e = absurd (cc)
number_parts true false d v n e = absurd (cc)
number_parts false b d v n e = absurd (cc)

pub short_below : (part : List ℕ) (n : ℕ) → Some n ≡ number_of part → length part ≤ 2 → n < 100
short_below part n is few =
    let own = numerals_by_value (λ ds. all_ascii_digits ds ≡ true) tells_all_ascii_digits in
    let parts = number_parts (nat_le 1 (length part)) (nat_le (length part) 9)
    (all_ascii_digits part) (digits_value 10 part) n is in
    omega (arith, parts.1, digits_value_short own part 2 parts.0 few)
