-- A command line with a text for a journal that it leaves out, which may be a new one.
use Rattle.std.specs.Prelude.{◌&&◌, ◌||◌, ◌==◌, Bool, List, Option, None, not, codes, is_some}
use Rattle.std.specs.Prelude.{if◌then◌else◌}
use Rattle.std.specs.List.{list_any}
use Rattle.std.specs.Str.{bytes_eq}
use Rattle.clap.specs.Words.{Text}
use Rattle.osn_commands.specs.CommandWords.{command_in, first_plain, is_help, plain_count}
use Rattle.osn_commands.specs.Journal.{option_at}

-- the command plans or publishes a text
abbrev pub takes_text : Text → Bool
takes_text command = bytes_eq command (codes "plan") || bytes_eq command (codes "publish")

-- it does so, and no option names its journal
abbrev pub takes_text_for_default : List Text → Bool
takes_text_for_default words = takes_text (command_in words) && not (is_some (option_at words))

-- the text is the only argument besides the options, which do not ask for help
abbrev pub has_text_alone : List Text → Bool
has_text_alone words =
    (takes_text_for_default words && not (list_any is_help words)) && plain_count words == 1

-- this text
abbrev pub text_alone : List Text → Option Text
text_alone words = if has_text_alone words then first_plain words else None
