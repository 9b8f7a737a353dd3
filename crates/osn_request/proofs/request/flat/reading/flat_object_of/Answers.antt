use Rattle.std.proofs.Common.{◌≡◌, [], Some, ap, sym, ◌∙◌, rules, arith}
use Rattle.serde_json.specs.Data.{object}
use Rattle.serde_json.specs.Read.{converted, of_json}
use Rattle.osn_request.specs.Flat.{flat_members}
use Rattle.json.specs.Json.{value}
use Rattle.json.specs.Lex.{tokens}
use Rattle.osn_request.proofs.TreeLemmas.{whole_read}
use Rattle.osn_request.proofs.request.flat.reading.flat_object_of.Goals as goal

pub returns-clause-object : goal.returns-clause-object
returns-clause-object c =
    let over : c.flat_object_in.new.reader ≡ [] = search rules in
    whole_read (value 127 (tokens c.args.text.now)) _
    (ap (λ ts. converted of_json (value 127 ts)) (sym c.in_ok-reader.ensures.ok)
    ∙ c.in-Some.ensures 127 (omega arith)
    ∙ ap (λ rest. Some (object (flat_members c.in-Some.object), rest)) over)
