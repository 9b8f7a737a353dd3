use Rattle.std.proofs.Common.{refl}
use Rattle.std.proofs.lemmas.Str.Ascii.{trim_ascii_is}
use Rattle.osn_letters.specs.RowFields.{without_leading}
use Rattle.osn_letters.proofs.row_field.trimmed.Goals as goal

pub returns : goal.returns
returns c = trim_ascii_is c.args.bytes.now c.trim_ascii.result.now
    (without_leading c.args.bytes.now) refl c.trim_ascii.ensures.value
