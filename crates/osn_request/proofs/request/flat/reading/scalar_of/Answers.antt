use Rattle.std.proofs.Common.{◌≡◌, ◌∷◌, Some, option_map, ap, ◌∙◌, sym, rules, to_z, of_z, w64}
use Rattle.json.specs.Json.{value}
use Rattle.json.specs.Reads.{token_of}
use Rattle.json.proofs.Grammar.{value_is}
use Rattle.serde_json.specs.Data.{number}
use Rattle.serde_json.specs.Find.{of_integer}
use Rattle.serde_json.specs.Read.{converted, of_json}
use Rattle.osn_request.proofs.request.flat.reading.scalar_of.Goals as goal

pub returns-in-String : goal.returns-in-String
returns-in-String c depth rest =
    ap (λ t. converted of_json (value depth (token_of t ∷ rest))) c.in-String.is
    ∙ ap (converted of_json) (value_is depth _)

pub returns-in_ok-whole_of-in-Number : goal.returns-in_ok-whole_of-in-Number
returns-in_ok-whole_of-in-Number c depth rest =
    let z = c.in_ok-whole_of-in-Number.field-0 in
    let same : to_z w64 (of_z w64 z) ≡ z = search rules in
    ap (λ t. converted of_json (value depth (token_of t ∷ rest))) c.in-Number.is
    ∙ ap (converted of_json) (value_is depth _)
    ∙ ap (λ n. option_map (λ d. (d, rest)) (option_map number n))
    c.in_ok-whole_of-in-Number.ensures
    ∙ ap (λ x. Some (number (of_integer x), rest)) (sym same)
