use Rattle.std.proofs.Common.{◌≡◌, ◌∷◌, ◌-◌, length, ap, ◌∙◌, arith}
use Rattle.std.proofs.lemmas.Option.{IfSome_then}
use Rattle.json.specs.Token.{Token}
use Rattle.json.specs.Json.{parse_map, members, value}
use Rattle.json.proofs.Grammar.{value-begin_object}
use Rattle.serde_json.specs.Data.{object}
use Rattle.serde_json.specs.Read.{converted, of_json}
use Rattle.osn_request.proofs.TreeLemmas.{object_read}
use Rattle.osn_request.proofs.request.flat.reading.flat_object_in.Goals as goal

pub returns-in-BeginObject : goal.returns-in-BeginObject
returns-in-BeginObject c =
    let ts = c.next.new.self in
    let opened : c.args.reader.now ≡ Token.begin_object ∷ ts = grind arith in
    IfSome_then c.members_in.result c.members_in.ensures
    (λ found read depth some.
    ap (λ all. converted of_json (value depth all)) opened
    ∙ ap (converted of_json) (value-begin_object depth ts some)
    ∙ object_read (members (value (depth - 1)) (length ts) ts)
    ∙ ap (parse_map object) (read (depth - 1)))
