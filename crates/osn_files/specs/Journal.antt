-- The object that is loaded from the lines of a journal. They are a head and then commands, which
-- are run in turn on a new object up to the first that is refused. This project's profile.
use Rattle.std.specs.Prelude.{ℕ, List, Option, Some, None, Result, Ok, Err}
use Rattle.serde_json.specs.Data.{Data}
use Rattle.osn_days.specs.Rules.{Rules}
use Rattle.osn_register.specs.declared.limits.Limits.{Limits}
use Rattle.osn_register.specs.declared.refusal.Refusal.{Refusal}
use Rattle.osn_core.specs.declared.command.Command.{Command}
use Rattle.osn_core.specs.declared.command.Command.TheVariants.{Stage, Publish}
use Rattle.osn_core.specs.Sequential.{ObjectState, empty_object, with_pending, with_edition}
use Rattle.osn_core.specs.Sequential.{stage_refusal, publish_refusal}
use Rattle.osn_request.specs.declared.version.Version.{Version}
use Rattle.osn_files.specs.declared.fault.LineFault.{LineFault}
use Rattle.osn_files.specs.declared.fault.LineFault.TheVariants.{Register}
use Rattle.osn_files.specs.Commands.{command_in}
use Rattle.osn_files.specs.Turns.{on_read, in_turn}

abbrev pub unless_refused : Option Refusal → ObjectState → Result ObjectState LineFault
unless_refused None s = Ok s
unless_refused (Some f) s = Err (Register f)

-- the object after a command, or why it is refused
abbrev pub after_command : Rules → ObjectState → Command → Result ObjectState LineFault
after_command p s (Stage e) = unless_refused (stage_refusal p s e) (with_pending s e)
after_command p s Publish = unless_refused (publish_refusal s) (with_edition s)

-- the object after what a line's object says, which is read by the rules of a version, or why it is
-- refused
abbrev pub after_object : Rules → Version → ObjectState → Data → Result ObjectState LineFault
after_object p version s d = on_read (command_in version d) (after_command p s)

-- the object of a journal's lines, or the first fault and the number of its line, counted from 1
abbrev pub load : Rules → Limits → List (List ℕ) → Result ObjectState (ℕ × LineFault)
load p limits = in_turn (after_object p) 1 None (empty_object limits)
