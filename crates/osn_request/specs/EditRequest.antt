-- The edit of a line's object, its members in the order of the formats: this project's profile.
use Rattle.std.specs.Prelude.{Result, Ok}
use Rattle.serde_json.specs.Data.{Data}
use Rattle.osn_register.specs.declared.edit.Edit.{Edit}
use Rattle.osn_register.specs.declared.edit.Edit.TheVariants.{AddLand, AddChange, AlterChange}
use Rattle.osn_register.specs.declared.edit.Edit.TheVariants.{DropChange, AddException}
use Rattle.osn_register.specs.declared.edit.Edit.TheVariants.{DropException}
use Rattle.osn_request.specs.declared.member.Member.TheVariants as members
use Rattle.osn_request.specs.declared.request.op.EditOp.{EditOp}
use Rattle.osn_request.specs.declared.request.op.EditOp.TheVariants as ops
use Rattle.osn_request.specs.declared.version.Version.{Version}
use Rattle.osn_request.specs.declared.wire_fault.WireFault.{WireFault}
use Rattle.osn_request.specs.Version.{rules_of}
use Rattle.osn_request.specs.Field.{◌>>=◌, text_at, whole_at, regime_of, source_at}

unfoldable pub add_land_of : Version → Data → Result Edit WireFault
add_land_of v d = do
  code ← text_at members.Code d
  name ← text_at members.Name d
  regime ← regime_of (rules_of v) d
  source ← source_at v d
  Ok (AddLand code name regime source)

unfoldable pub add_change_of : Version → Data → Result Edit WireFault
add_change_of v d = do
  code ← text_at members.Code d
  day ← whole_at members.Day d
  regime ← regime_of (rules_of v) d
  source ← source_at v d
  Ok (AddChange code day regime source)

unfoldable pub alter_change_of : Version → Data → Result Edit WireFault
alter_change_of v d = do
  code ← text_at members.Code d
  day ← whole_at members.Day d
  regime ← regime_of (rules_of v) d
  source ← source_at v d
  Ok (AlterChange code day regime source)

unfoldable pub drop_change_of : Data → Result Edit WireFault
drop_change_of d = do
  code ← text_at members.Code d
  day ← whole_at members.Day d
  Ok (DropChange code day)

unfoldable pub add_exception_of : Version → Data → Result Edit WireFault
add_exception_of v d = do
  code ← text_at members.Code d
  year ← whole_at members.Year d
  day ← whole_at members.Day d
  source ← source_at v d
  Ok (AddException code year day source)

unfoldable pub drop_exception_of : Data → Result Edit WireFault
drop_exception_of d = do
  code ← text_at members.Code d
  year ← whole_at members.Year d
  Ok (DropException code year)

-- the edit of an object that asks for this one, by the rules of a version
abbrev pub edit_of : Version → EditOp → Data → Result Edit WireFault
edit_of v ops.AddLand d = add_land_of v d
edit_of v ops.AddChange d = add_change_of v d
edit_of v ops.AlterChange d = alter_change_of v d
edit_of v ops.DropChange d = drop_change_of d
edit_of v ops.AddException d = add_exception_of v d
edit_of v ops.DropException d = drop_exception_of d
