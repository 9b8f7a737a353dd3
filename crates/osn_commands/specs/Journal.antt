-- The words of a command line with the file of the journal among them: the words may name it by the
-- option --journal, or leave it out.
use Rattle.std.specs.Prelude.{◌||◌, ◌+◌, ◌==◌, ℕ, Bool, false, List, Option, Some, None}
use Rattle.std.specs.Prelude.{if◌then◌else◌, codes, drop, is_some, length, nat_lt, slice_get}
use Rattle.std.specs.List.{insert, list_any, position, remove}
use Rattle.std.specs.Option.{option_map_or}
use Rattle.std.specs.Str.{bytes_eq}
use Rattle.clap.specs.Words.{Text}
use Rattle.osn_written.specs.WrittenDate.{parts_at}
use Rattle.osn_commands.specs.CommandWords.{begins_with_journal, command_in, plain_count}

-- ---- the default

-- how many words follow the command besides its options, if the file of the journal is left out, in
-- a command that has a default journal: each that begins with it, except audit
abbrev pub words_without : Text → Option ℕ
words_without command =
    if bytes_eq command (codes "territory") then Some 0
    else (if bytes_eq command (codes "letters") then Some 0
    else (if bytes_eq command (codes "text") then Some 0
    else (if bytes_eq command (codes "editions") then Some 0
    else (if bytes_eq command (codes "plan") then Some 1
    else (if bytes_eq command (codes "publish") then Some 1
    else (if bytes_eq command (codes "read") then Some 2
    else (if bytes_eq command (codes "day") then Some 2
    else (if bytes_eq command (codes "diff") then Some 2
    else (if bytes_eq command (codes "year") then Some 2
    else (if bytes_eq command (codes "almanac") then Some 2
    else (if bytes_eq command (codes "month") then Some 3
    else None)))))))))))

-- the words leave out the file of the journal
abbrev pub leaves_out_journal : List Text → Bool
leaves_out_journal words =
    option_map_or (λ count. plain_count words == count) (words_without (command_in words)) false

-- the words, if they have a command, with one more after it
abbrev pub with_path : {X : Type 0} → X → List X → List X
with_path path words = if nat_lt (length words) 2 then words else insert words 2 path

-- the words with the default, if they leave out the journal and there is one
abbrev pub with_default : Option Text → List Text → List Text
with_default None words = words
with_default (Some path) words = if leaves_out_journal words then with_path path words else words

-- ---- the option

-- the file in a word that is `--journal=FILE`
abbrev pub file_in : Option (Text × Text) → Option Text
file_in None = None
file_in (Some parts) = if bytes_eq parts.0 (codes "--journal") then Some parts.1 else None

abbrev pub file_after_equals : Text → Option Text
file_after_equals word = file_in (parts_at 61 word)

-- the option, with its file or before it
abbrev pub is_journal_option : Text → Bool
is_journal_option word =
    bytes_eq word (codes "--journal") || is_some (file_after_equals word)

-- the place of the first such option
abbrev pub option_at : List Text → Option ℕ
option_at words = position is_journal_option words

-- there is another one after this place
abbrev pub is_repeated : ℕ → List Text → Bool
is_repeated at words = list_any is_journal_option (drop (at + 1) words)

-- the words without the option at this place and its file, which comes after the command
abbrev pub with_next_file : {X : Type 0} → Option X → ℕ → List X → List X
with_next_file None at words = words
with_next_file (Some path) at words = with_path path (remove (remove words (at + 1)) at)

abbrev pub with_file : {X : Type 0} → Option X → ℕ → List X → List X
with_file (Some path) at words = with_path path (remove words at)
with_file None at words = with_next_file (slice_get words (at + 1)) at words

abbrev pub with_option : Option Text → ℕ → List Text → List Text
with_option None at words = words
with_option (Some word) at words = with_file (file_after_equals word) at words

-- if the option comes after the command and is not repeated
abbrev pub with_named : ℕ → List Text → List Text
with_named at words =
    if nat_lt at 2 || is_repeated at words then words
    else with_option (slice_get words at) at words

-- ---- both

-- the words with the journal of the option at this place, or with the default
abbrev pub with_named_or_default : Option ℕ → Option Text → List Text → List Text
with_named_or_default None default words = with_default default words
with_named_or_default (Some at) default words = with_named at words

-- what a command line means in which the file of the journal is left out, or named by the option
-- `--journal`, with this default: the words with the file after the command
abbrev pub with_journal : Option Text → List Text → List Text
with_journal default words =
    if begins_with_journal (command_in words)
    then with_named_or_default (option_at words) default words else words
