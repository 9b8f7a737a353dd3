-- The request of one that borrows from its line.
use Rattle.std.specs.Prelude.{Bool, true, false, Result, Ok, Err}
use Rattle.osn_request.specs.declared.wire_fault.WireFault.{WireFault}
use Rattle.osn_request.specs.declared.request.line_request.LineRequest.{LineRequest}
use Rattle.osn_request.specs.declared.request.line_request.LineRequest.TheVariants as lines
use Rattle.osn_request.specs.LineQuery.{line_query}
use Rattle.osn_request.specs.declared.request.op.Op.{Op}
use Rattle.osn_request.specs.declared.request.op.Op.TheVariants as ops
use Rattle.osn_request.specs.declared.request.Request.{Request}
use Rattle.osn_request.specs.declared.request.Request.TheVariants.{Stage, Publish, Ask}

abbrev pub as_request : LineRequest → Request
as_request (lines.Stage edit) = Stage edit
as_request lines.Publish = Publish
as_request (lines.Ask reader query) = Ask reader (line_query query)

-- whether what an object asks for is an edit, whose texts take memory
abbrev pub is_edit : Result Op WireFault → Bool
is_edit (Ok (ops.Edit op)) = true
is_edit (Ok ops.Publish) = false
is_edit (Ok (ops.Query op)) = false
is_edit (Err f) = false
