-- What separates the fields of a table: what its header says, unless it was named.
use Rattle.std.specs.Prelude.{ℕ, ◌==◌, Option, Some, None, if◌then◌else◌}
use Rattle.csv.specs.declared.parser.Action.{Action}
use Rattle.csv.specs.declared.parser.Action.TheVariants as act
use Rattle.csv.specs.declared.parser.Config.{Config}
use Rattle.csv.specs.declared.writer.WriterBuilder.{WriterBuilder}
use Rattle.csv.specs.Reading.{default_config}
use Rattle.csv.specs.Writing.{default_writer, with_delimiter}
use Rattle.osn_letters.specs.declared.separator.Separator.{Separator}
use Rattle.osn_letters.specs.declared.separator.Separator.TheVariants.{Comma, Semicolon, Tab}

abbrev pub separator_byte : Separator → ℕ
separator_byte Comma = 44
separator_byte Semicolon = 59
separator_byte Tab = 9

-- the separator that a byte is, if it is one
abbrev pub separator_of : ℕ → Option Separator
separator_of b =
    if b == 44 then Some Comma
    else if b == 59 then Some Semicolon
    else if b == 9 then Some Tab
    else None

-- how the kit reads and writes with a separator
abbrev pub config_by : Separator → Config
config_by separator = record default_config { delimiter = separator_byte separator }

abbrev pub writer_by : Separator → WriterBuilder
writer_by separator = with_delimiter default_writer (separator_byte separator)

-- ---- while a table is read: the separator that was found, if any

abbrev pub or_comma : Option Separator → Separator
or_comma None = Comma
or_comma (Some separator) = separator

-- the separator by which a byte is read: the one that was found, or else the byte itself, or else
-- the comma
abbrev pub separator_at : Option Separator → ℕ → Separator
separator_at None b = or_comma (separator_of b)
separator_at (Some separator) b = separator

-- the separator that was found after a byte: the byte that ends the first field, or the comma if
-- that ends the header
abbrev pub separator_after : Option Separator → ℕ → Action → Option Separator
separator_after (Some separator) b a = Some separator
separator_after None b act.EndField = separator_of b
separator_after None b act.EndRecord = Some Comma
separator_after None b act.Skip = None
separator_after None b act.Copy = None
