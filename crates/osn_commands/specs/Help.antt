-- The help for a common mistake in the arguments, by the kind of the fault and the typed words.
use Rattle.std.specs.Prelude.{◌&&◌, ◌||◌, ◌==◌, ℕ, Bool, false, List, [], codes, if◌then◌else◌}
use Rattle.std.specs.Prelude.{is_some, nat_lt, not, slice_get}
use Rattle.std.specs.Char.{is_ascii_digit}
use Rattle.std.specs.List.{list_any}
use Rattle.std.specs.Option.{option_map_or}
use Rattle.std.specs.Str.{bytes_eq}
use Rattle.std.specs.Str.Parse.{starts_with_minus}
use Rattle.clap.specs.Words.{Text}
use Rattle.clap.specs.declared.error.kind.ErrorKind.{ErrorKind}
use Rattle.clap.specs.declared.error.kind.ErrorKind.TheVariants.{InvalidSubcommand, InvalidValue}
use Rattle.clap.specs.declared.error.kind.ErrorKind.TheVariants.{ValueValidation, UnknownArgument}
use Rattle.clap.specs.declared.error.kind.ErrorKind.TheVariants.{MissingRequiredArgument}
use Rattle.osn_commands.specs.Journal.{option_at, words_without}
use Rattle.osn_commands.specs.CommandWords.{begins_with_journal, command_in, plain_count}

-- the first word is not a command
abbrev pub command_help : Text
command_help =
    codes "help: the first argument is a command, such as read: oldstyle --help lists them\n"

-- a word that is not a number: a year, or how many readers there are
abbrev pub number_help : Text → Text
number_help command =
    if bytes_eq command (codes "almanac")
    then codes "help: write one year, 1 to 9999, counted from 1 January, such as 1731\n"
    else codes "help: write the number of readers, 1 to 64\n"

-- a word that is missing
abbrev pub missing_help : Text → Text
missing_help command =
    if is_some (words_without command)
    then codes
    "help: name the journal first, by --journal or by OLDSTYLE_JOURNAL; publish TEXT makes one\n"
    else (if begins_with_journal command
    then codes "help: the file of the journal comes first, or --journal FILE names it\n"
    else [])

-- the words name the journal by the option --journal, or have the option alone
abbrev pub has_journal_option : List Text → Bool
has_journal_option words =
    begins_with_journal (command_in words) && is_some (option_at words)

-- an option that has no value
abbrev pub value_help : List Text → Text
value_help words =
    if has_journal_option words
    then codes "help: write the file of the journal after the option: --journal FILE\n" else []

-- ---- a word that its command does not take

-- how many words the command takes besides its options
abbrev pub words_taken : Text → ℕ
words_taken command =
    if bytes_eq command (codes "serve") then 0
    else (if bytes_eq command (codes "replay") || (bytes_eq command (codes "editions")
    || (bytes_eq command (codes "completions") || bytes_eq command (codes "check"))) then 1
    else (if bytes_eq command (codes "letters") || (bytes_eq command (codes "convert")
    || (bytes_eq command (codes "territory") || (bytes_eq command (codes "text")
    || (bytes_eq command (codes "plan") || (bytes_eq command (codes "publish")
    || (bytes_eq command (codes "audit") || bytes_eq command (codes "desk"))))))) then 2
    else (if bytes_eq command (codes "month") then 4
    else 3)))

-- the commands whose words say a date or a year
abbrev pub takes_date : Text → Bool
takes_date command =
    bytes_eq command (codes "read") || (bytes_eq command (codes "day")
    || (bytes_eq command (codes "month") || (bytes_eq command (codes "year")
    || (bytes_eq command (codes "almanac") || bytes_eq command (codes "convert")))))

-- a word such as `-43`
abbrev pub is_negative : Text → Bool
is_negative word =
    option_map_or is_ascii_digit (slice_get word 1) false && starts_with_minus word

abbrev pub has_negative_date : List Text → Bool
has_negative_date words = takes_date (command_in words) && list_any is_negative words

-- the commands with the option --json
abbrev pub takes_json : Text → Bool
takes_json command =
    bytes_eq command (codes "read") || (bytes_eq command (codes "day")
    || (bytes_eq command (codes "month") || (bytes_eq command (codes "year")
    || bytes_eq command (codes "territory"))))

abbrev pub is_json : Text → Bool
is_json word = bytes_eq word (codes "--json")

abbrev pub has_json_elsewhere : List Text → Bool
has_json_elsewhere words = not (takes_json (command_in words)) && list_any is_json words

-- the journal is the first of as many words as the command takes, and the option names it too
abbrev pub is_named_twice : List Text → Bool
is_named_twice words =
    has_journal_option words && plain_count words == words_taken (command_in words)

-- a journal that is given otherwise, or a text that is not in quotes
abbrev pub surplus_help : Text → Text
surplus_help command =
    if bytes_eq command (codes "serve")
    then codes "help: name the journal by an option: oldstyle serve --journal FILE\n"
    else (if takes_date command || bytes_eq command (codes "territory")
    then codes "help: put a date or a name of several words in quotes: \"11 February 1731\"\n"
    else codes
    "help: put a path that has spaces in quotes: oldstyle help COMMAND lists the arguments\n")

abbrev pub has_surplus : List Text → Bool
has_surplus words = nat_lt (words_taken (command_in words)) (plain_count words)

-- the first of these that the words have
abbrev pub unknown_help : List Text → Text
unknown_help words =
    if has_negative_date words
    then codes "help: a year is 1 to 9999, and no date begins with a hyphen\n"
    else (if has_json_elsewhere words
    then codes
    "help: read, day, month, year and territory have --json: serve answers other queries in JSON\n"
    else (if is_named_twice words
    then codes "help: the journal is named twice: leave out the first argument or --journal\n"
    else (if has_surplus words then surplus_help (command_in words) else [])))

-- the help after a fault of this kind, if there is any
abbrev pub help_on : ErrorKind → List Text → Text
help_on InvalidSubcommand words = command_help
help_on InvalidValue words = value_help words
help_on ValueValidation words = number_help (command_in words)
help_on MissingRequiredArgument words = missing_help (command_in words)
help_on UnknownArgument words = unknown_help words
help_on kind words = []
