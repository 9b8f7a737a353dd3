use Rattle.std.proofs.Common.{◌∙◌, ap, option_map, if◌then◌else◌, Some, None}
use Rattle.std.specs.Str.{is_utf8}
use Rattle.osn_letters.proofs.FieldFacts.{text_is}
use Rattle.osn_letters.proofs.row_field.text_in_field.Goals as goal

pub returns : goal.returns
returns c =
    ap (option_map (λ s. s.now)) c.ok.ensures.value
    ∙ (text_is _ c.trimmed.result.now c.from_utf8.result c.from_utf8.ensures.cases
    ∙ ap (λ bytes. if is_utf8 bytes then Some bytes else None) c.trimmed.ensures)
