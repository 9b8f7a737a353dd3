-- The years of the first rules keep their Sunday letters.
use Rattle.std.proofs.Common.{◌≡◌, ◌≢◌, ℕ, ◌≤◌, Bool, true, refl, sym, ap, ◌∙◌}
use Rattle.std.proofs.Common.{arith}
use Rattle.std.specs.List.{find}
use Rattle.std.specs.Option.{option_map}
use Rattle.osn_days.specs.declared.calendar.Calendar.{Calendar}
use Rattle.osn_days.specs.declared.calendar.Calendar.TheVariants.{Julian, Gregorian, Swedish}
use Rattle.osn_days.specs.Rules.{first_rules, newest_rules}
use Rattle.osn_days.specs.Line.{line, IsYear}
use Rattle.osn_days.proofs.ChainFacts.{julian_by_months, gregorian_by_months}
use Rattle.osn_days.proofs.RangeFacts.{found_on_line, find_on_both}
use Rattle.osn_computus.specs.Letters.{letter_of, is_sunday_of, letter_of_sundays, letters_of}
use Rattle.osn_computus.proofs.LetterFacts.{january_sunday, march_sunday, march_sunday_is}
use Rattle.osn_computus.proofs.EarlierEasters.{march_1-within, newest_year}

-- a search that a day of the first rules passes finds the same day on both lines
same_found : (test : ℕ → Bool) (d : ℕ) → 1 ≤ d → d ≤ first_rules.high → test d ≡ true
    → find test (line first_rules) ≡ find test (line newest_rules)
same_found test d low high is =
    let found = found_on_line first_rules test d (low, high) is in
    found.is ∙ sym (find_on_both first_rules newest_rules test found.day found.is
    (omega (arith, found.on.1)))

-- the Sundays of some months show the same letter
same_letter_of : (c : Calendar) (y low high d : ℕ) → 1 ≤ d → d ≤ first_rules.high
    → is_sunday_of c y low high d ≡ true
    → letter_of_sundays first_rules c y low high ≡ letter_of_sundays newest_rules c y low high
unfolding letter_of_sundays
same_letter_of c y low high d from until is =
    ap (option_map (letter_of c)) (same_found (is_sunday_of c y low high) d from until is)

same_by_months : (c : Calendar) → c ≢ Swedish → (y : ℕ) → IsYear first_rules y
    → letters_of first_rules c y ≡ letters_of newest_rules c y
unfolding letters_of
same_by_months c months y year =
    let bound = march_1-within c y year in
    let january = january_sunday c months y (newest_year y year) in
    let first = same_letter_of c y 1 1 january.day january.low
    (omega (arith, january.before_march)) january.is in
    let later = same_letter_of c y 3 12 (march_sunday c y) (omega arith) (omega arith)
    (march_sunday_is c months y (newest_year y year)) in
    rw (first, later) refl

pub same_letters : (c : Calendar) (y : ℕ) → IsYear first_rules y
    → letters_of first_rules c y ≡ letters_of newest_rules c y
unfolding letters_of
same_letters Julian y year = same_by_months Julian julian_by_months y year
same_letters Gregorian y year = same_by_months Gregorian gregorian_by_months y year
same_letters Swedish y year = refl
