use Rattle.std.proofs.Common.{◌==◌, not, rules}
use Rattle.std.proofs.lemmas.Fn.{filter_same}
use Rattle.osn_register.proofs.sources.remove.Goals as goal

pub returns-clause-value : goal.returns-clause-value
returns-clause-value c =
    filter_same _ (λ s. not (s.0 == c.args.number)) _
    (λ entry answer after called. search rules) _ _ c.retain.ensures.filtered
