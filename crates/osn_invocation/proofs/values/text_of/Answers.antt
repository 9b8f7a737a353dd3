use Rattle.std.proofs.Common.{◌≡◌, []}
use Rattle.clap.specs.Words.{found_of}
use Rattle.osn_invocation.proofs.TextLemmas.{text_given}
use Rattle.osn_invocation.proofs.values.text_of.Goals as goal

pub returns : goal.returns
returns c =
    text_given (λ x. x.now ≡ []) (λ x e. e) (found_of c.args.matches.now) c.args.id.now
    c.get_str.result c.unwrap_or_default.result c.get_str.ensures c.unwrap_or_default.ensures
