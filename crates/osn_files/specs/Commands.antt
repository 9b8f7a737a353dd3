-- The command of the object of a line of a journal or a script, an edit or a publish: this
-- project's profile.
use Rattle.std.specs.Prelude.{Result, Ok, Err}
use Rattle.serde_json.specs.Data.{Data}
use Rattle.osn_core.specs.declared.command.Command.{Command}
use Rattle.osn_core.specs.declared.command.Command.TheVariants.{Stage, Publish}
use Rattle.osn_request.specs.declared.request.op.Op.{Op}
use Rattle.osn_request.specs.declared.request.op.Op.TheVariants as ops
use Rattle.osn_request.specs.declared.version.Version.{Version}
use Rattle.osn_request.specs.declared.wire_fault.WireFault.{WireFault}
use Rattle.osn_request.specs.declared.wire_fault.WireFault.TheVariants.{UnknownOp}
use Rattle.osn_request.specs.EditRequest.{edit_of}
use Rattle.osn_request.specs.Field.{◌>>=◌}
use Rattle.osn_request.specs.Op.{op_of}

-- the command of an object that asks for this, by the rules of a version
abbrev pub command_by : Version → Data → Op → Result Command WireFault
command_by v d (ops.Edit op) = edit_of v op d >>= λ e. Ok (Stage e)
command_by v d ops.Publish = Ok Publish
command_by v d (ops.Query op) = Err UnknownOp

-- the command of an object
abbrev pub command_in : Version → Data → Result Command WireFault
command_in v d = op_of d >>= command_by v d
