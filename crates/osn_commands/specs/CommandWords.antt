-- The words of a command line, as they were typed: the program's name, the command, and the rest.
use Rattle.std.specs.Prelude.{◌&&◌, ◌||◌, ◌+◌, ℕ, Bool, true, false, List, [], ◌∷◌, not, drop}
use Rattle.std.specs.Prelude.{get_or, codes, if◌then◌else◌, is_some, Option, Some, None}
use Rattle.std.specs.Str.Parse.{starts_with_minus}
use Rattle.std.specs.List.{remove}
use Rattle.std.specs.Str.{bytes_eq}
use Rattle.clap.specs.Words.{Text}
use Rattle.osn_written.specs.WrittenDate.{parts_at}
use Rattle.osn_commands.specs.declared.command_words.Next.{Next}
use Rattle.osn_commands.specs.declared.command_words.Next.TheVariants as next

-- the word of the command
abbrev pub command_in : List Text → Text
command_in words = get_or words 1 []

-- help is asked for of the command that prints it
abbrev pub is_help : Text → Bool
is_help word = bytes_eq word (codes "--help") || bytes_eq word (codes "-h")

abbrev pub asks_help_twice : List Text → Bool
asks_help_twice words =
    bytes_eq (command_in words) (codes "help") && is_help (get_or words 2 [])

-- `help --help` means `--help`
abbrev pub with_plain_help : List Text → List Text
with_plain_help words = if asks_help_twice words then remove words 1 else words

-- the commands that begin with the file of a journal
abbrev pub begins_with_journal : Text → Bool
begins_with_journal command =
    bytes_eq command (codes "read") || (bytes_eq command (codes "day")
    || (bytes_eq command (codes "month") || (bytes_eq command (codes "year")
    || (bytes_eq command (codes "territory") || (bytes_eq command (codes "letters")
    || (bytes_eq command (codes "text") || (bytes_eq command (codes "editions")
    || (bytes_eq command (codes "diff") || (bytes_eq command (codes "plan")
    || (bytes_eq command (codes "publish") || (bytes_eq command (codes "almanac")
    || bytes_eq command (codes "audit"))))))))))))

-- the options without a value
abbrev pub is_flag : Text → Bool
is_flag word =
    bytes_eq word (codes "--strict") || (bytes_eq word (codes "--json")
    || (bytes_eq word (codes "--summary") || (bytes_eq word (codes "--replace")
    || (bytes_eq word (codes "--keep-going") || (bytes_eq word (codes "--onto-newest")
    || (bytes_eq word (codes "--upgrade") || (bytes_eq word (codes "--read-only")
    || (bytes_eq word (codes "--stop-at-refusal") || (bytes_eq word (codes "--explain")
    || (bytes_eq word (codes "--strict-members") || (bytes_eq word (codes "--help")
    || bytes_eq word (codes "-h"))))))))))))

-- a word that begins with a hyphen and has more
abbrev pub is_option : Text → Bool
is_option word = starts_with_minus word && not (bytes_eq word (codes "-"))

-- the next word is the value of the option: it has one, and not after `=`
abbrev pub has_value_next : Text → Bool
has_value_next option = not (is_flag option) && not (is_some (parts_at 61 option))

-- what a word is, by those before it: after `--` no word is an option
abbrev pub next_after : Next → Text → Next
next_after next.Plain word = next.Plain
next_after next.Value word = next.Any
next_after next.Any word =
    if bytes_eq word (codes "--") then next.Plain
    else (if is_option word && has_value_next word then next.Value else next.Any)

abbrev pub is_plain : Next → Text → Bool
is_plain next.Plain word = true
is_plain next.Value word = false
is_plain next.Any word = not (is_option word)

-- how many of the words are neither options nor their values, by their texts
abbrev pub plain_from : {X : Type 0} → (X → Text) → Next → List X → ℕ
plain_from text next [] = 0
plain_from text next (word ∷ words) =
    (if is_plain next (text word) then 1 else 0)
    + plain_from text (next_after next (text word)) words

-- how many such words follow the command
abbrev pub plain_count : List Text → ℕ
plain_count words = plain_from (λ word. word) next.Any (drop 2 words)

-- the first of the words that is neither an option nor the value of one, by their texts
abbrev pub first_plain_from : {X : Type 0} → (X → Text) → Next → List X → Option Text
first_plain_from text next [] = None
first_plain_from text next (word ∷ words) =
    if is_plain next (text word) then Some (text word)
    else first_plain_from text (next_after next (text word)) words

-- the first such word after the command
abbrev pub first_plain : List Text → Option Text
first_plain words = first_plain_from (λ word. word) next.Any (drop 2 words)
