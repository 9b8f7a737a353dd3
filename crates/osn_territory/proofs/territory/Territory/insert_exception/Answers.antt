use Rattle.std.proofs.Common.{sym, ap, ◌∙◌}
use Rattle.osn_territory.specs.Exceptions.{exception_of}
use Rattle.osn_territory.proofs.ExceptionFacts.{is_elsewhere, same_lookup}
use Rattle.osn_territory.proofs.territory.Territory.insert_exception.Goals as goal

pub returns-clause-others : goal.returns-clause-others
returns-clause-others c other apart =
    same_lookup other c.insert.new.self.entries
    ∙ c.in_ok-insert.ensures.updates.2 other (is_elsewhere c.args.year other apart)
    ∙ sym (same_lookup other c.self.inside.exceptions.entries)
    ∙ ap (λ t. exception_of t other) c.self.view_is
