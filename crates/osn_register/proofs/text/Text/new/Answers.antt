use Rattle.std.proofs.lemmas.Str.{IsUtf8-string_bytes}
use Rattle.osn_register.proofs.text.Text.new.Goals as goal

pub invariant_of-result : goal.invariant_of-result
invariant_of-result c = IsUtf8-string_bytes c.args.text
