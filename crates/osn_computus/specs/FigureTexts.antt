-- Epacts and Sunday letters as they are written.
use Rattle.std.specs.Prelude.{ℕ, ◌==◌, ◌&&◌, if◌then◌else◌, List, ◌++◌, codes}
use Rattle.std.specs.Fmt.{decimal}
use Rattle.osn_computus.specs.declared.epact.Epact.{Epact}
use Rattle.osn_computus.specs.declared.letters.Letters.{Letters}
use Rattle.osn_computus.specs.Letters.{letter_name, letter_number}

-- an epact of the Gregorian reckoning as the canons write it: a star for 0, and the second of the
-- two of 25 with a prime
unfoldable pub epact_text : Epact → List ℕ
epact_text e =
    if e.number == 0 then codes "*"
    else (if (e.number == 25) && e.prime then codes "25'"
    else decimal e.number)

-- the letter of January before that of March, and one letter if they are the same
unfoldable pub letters_text : Letters → List ℕ
letters_text l =
    if letter_number l.january == letter_number l.march then letter_name l.january
    else letter_name l.january ++ letter_name l.march
