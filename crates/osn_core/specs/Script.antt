-- A script: the commands to one editor, in order, and the editions that they make.
use Rattle.std.specs.Prelude.{Bool, true, false, List, fold}
use Rattle.osn_days.specs.Rules.{Rules}
use Rattle.osn_register.specs.declared.limits.Limits.{Limits}
use Rattle.osn_register.specs.declared.edit.Edit.{Edit}
use Rattle.osn_core.specs.declared.command.Command.{Command}
use Rattle.osn_core.specs.declared.command.Command.TheVariants.{Stage, Publish}
use Rattle.osn_core.specs.Sequential.{ObjectState, empty_object, stage_after, publish_after}

-- whether a copy of a command takes memory
abbrev pub copy_takes_memory : Command → Bool
copy_takes_memory (Stage edit) = true
copy_takes_memory Publish = false

-- what a command leaves: a refused one is ignored
abbrev pub command_after : Rules → ObjectState → Command → ObjectState
command_after p s (Stage edit) = stage_after p s edit
command_after p s Publish = publish_after s

-- what commands in order leave
abbrev pub script_after : Rules → ObjectState → List Command → ObjectState
script_after p s commands = fold (command_after p) s commands

-- the editions of a script: the batches that it leaves of the empty object
abbrev pub editions_of : Rules → Limits → List Command → List (List Edit)
editions_of p limits commands = (script_after p (empty_object limits) commands).batches
