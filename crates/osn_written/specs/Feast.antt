-- The feasts that are counted from Easter, with their English names. They are the movable feasts of
-- the Western church, by weeks and days as in the tables of the Book of Common Prayer (1662), and
-- Corpus Christi, the Thursday after Trinity.
use Rattle.std.specs.Prelude.{ℕ, Bool, ◌&&◌, if◌then◌else◌, ℤ, pos, ◌+ℤ◌, ◌-ℤ◌, unsigned_abs}
use Rattle.std.specs.Prelude.{List, Option, Some, None, codes, int_le}
use Rattle.osn_days.specs.Rules.{Rules}
use Rattle.osn_written.specs.declared.feast.Feast.{Feast}
use Rattle.osn_written.specs.declared.feast.Feast.TheVariants.{Septuagesima, AshWednesday}
use Rattle.osn_written.specs.declared.feast.Feast.TheVariants.{PalmSunday, MaundyThursday}
use Rattle.osn_written.specs.declared.feast.Feast.TheVariants.{GoodFriday, Easter, EasterMonday}
use Rattle.osn_written.specs.declared.feast.Feast.TheVariants.{EasterTuesday, Ascension, Pentecost}
use Rattle.osn_written.specs.declared.feast.Feast.TheVariants.{WhitMonday, WhitTuesday, Trinity}
use Rattle.osn_written.specs.declared.feast.Feast.TheVariants.{CorpusChristi}

abbrev pub feast_name : Feast → List ℕ
feast_name Septuagesima = codes "Septuagesima"
feast_name AshWednesday = codes "Ash Wednesday"
feast_name PalmSunday = codes "Palm Sunday"
feast_name MaundyThursday = codes "Maundy Thursday"
feast_name GoodFriday = codes "Good Friday"
feast_name Easter = codes "Easter"
feast_name EasterMonday = codes "Easter Monday"
feast_name EasterTuesday = codes "Easter Tuesday"
feast_name Ascension = codes "Ascension"
feast_name Pentecost = codes "Pentecost"
feast_name WhitMonday = codes "Whit Monday"
feast_name WhitTuesday = codes "Whit Tuesday"
feast_name Trinity = codes "Trinity"
feast_name CorpusChristi = codes "Corpus Christi"

-- how many days it is after Easter
abbrev pub days_after_easter : Feast → ℤ
days_after_easter Septuagesima = pos 0 -ℤ pos 63
days_after_easter AshWednesday = pos 0 -ℤ pos 46
days_after_easter PalmSunday = pos 0 -ℤ pos 7
days_after_easter MaundyThursday = pos 0 -ℤ pos 3
days_after_easter GoodFriday = pos 0 -ℤ pos 2
days_after_easter Easter = pos 0
days_after_easter EasterMonday = pos 1
days_after_easter EasterTuesday = pos 2
days_after_easter Ascension = pos 39
days_after_easter Pentecost = pos 49
days_after_easter WhitMonday = pos 50
days_after_easter WhitTuesday = pos 51
days_after_easter Trinity = pos 56
days_after_easter CorpusChristi = pos 60

abbrev pub is_on_line : Rules → ℤ → Bool
is_on_line p day = int_le (pos 1) day && int_le day (pos p.high)

-- the day of a feast in a year with this Easter, if the line has it
abbrev pub feast_day : Rules → ℕ → Feast → Option ℕ
feast_day p easter feast =
    if is_on_line p (pos easter +ℤ days_after_easter feast) then
    Some (unsigned_abs (pos easter +ℤ days_after_easter feast))
    else None
