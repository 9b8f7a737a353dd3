use Rattle.std.proofs.Common.{◌∙◌}
use Rattle.std.specs.Str.Parse.{ParsesUnsigned, ExplainsUnsignedError, HasUnsignedDigitsIfOk}
use Rattle.clap.specs.Words.{found_of}
use Rattle.osn_invocation.proofs.NumberLemmas.{number_given}
use Rattle.osn_invocation.proofs.values.number_of.Goals as goal

pub returns : goal.returns
returns c =
    c.unwrap_or.ensures
    ∙ number_given (λ text r. ParsesUnsigned 32 10 text r × ExplainsUnsignedError 10 text r
    × HasUnsignedDigitsIfOk text r)
    (λ t x g. g.0) c.args.other (found_of c.args.matches.now) c.args.id.now
    c.get_one.result c.get_one.ensures.none c.get_one.ensures.value
