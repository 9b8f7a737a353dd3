-- The value of a line's object.
use Rattle.std.specs.Prelude.{if◌then◌else◌, is_some, Option, Some, None}
use Rattle.serde_json.specs.Data.{Data, object}
use Rattle.serde_json.specs.Find.{as_object}
use Rattle.serde_json.specs.View.{view}
use Rattle.osn_request.specs.declared.request.line_object.LineObject.{LineObject}
use Rattle.osn_request.specs.declared.request.line_object.LineObject.TheVariants.{Flat, Tree}
use Rattle.osn_request.specs.Flat.{flat_members}

abbrev pub line_data : LineObject → Data
line_data (Flat f) = object (flat_members f)
line_data (Tree v) = view v

abbrev pub if_object : Data → Option Data
if_object d = if is_some (as_object d) then Some d else None
