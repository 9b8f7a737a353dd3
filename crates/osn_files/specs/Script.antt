-- The commands in the lines of a script. A head comes first, and after it the commands of one
-- editor, which are not run. This project's profile.
use Rattle.std.specs.Prelude.{ℕ, List, [], ◌∷◌, ◌++◌, None, Result, Ok}
use Rattle.serde_json.specs.Data.{Data}
use Rattle.osn_core.specs.declared.command.Command.{Command}
use Rattle.osn_request.specs.declared.version.Version.{Version}
use Rattle.osn_files.specs.declared.fault.LineFault.{LineFault}
use Rattle.osn_files.specs.Commands.{command_in}
use Rattle.osn_files.specs.Turns.{on_read, in_turn}

-- the commands, with that of a line's object, which is read by the rules of a version
abbrev pub with_command : Version → List Command → Data → Result (List Command) LineFault
with_command version commands d =
    on_read (command_in version d) (λ command. Ok (commands ++ command ∷ []))

-- the commands of a script's lines, or the first fault and the number of its line, counted from 1
abbrev pub script : List (List ℕ) → Result (List Command) (ℕ × LineFault)
script = in_turn with_command 1 None []
