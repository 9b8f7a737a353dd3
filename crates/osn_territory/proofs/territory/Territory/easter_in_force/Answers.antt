use Rattle.std.proofs.Common.{sym, ap, ◌∙◌}
use Rattle.osn_days.specs.Rules.{newest_rules}
use Rattle.osn_territory.specs.declared.regime.Regime.{Regime}
use Rattle.osn_territory.specs.EasterSearch.{is_rule}
use Rattle.osn_territory.proofs.EasterFacts.{in_force, not_in_force, same_rule}
use Rattle.osn_territory.proofs.territory.Territory.easter_in_force.Goals as goal

pub returns-then-eq : goal.returns-then-eq
returns-then-eq c =
    in_force newest_rules c.args.self.now c.args.rule c.args.year c.easter-day.result
    c.easter-day.ensures.value
    (ap (λ (r : Regime). is_rule r.rule c.args.rule) (sym c.regime_at.ensures)
    ∙ same_rule c.regime_at.result.rule c.args.rule ∙ sym c.eq.ensures ∙ c.if-eq.true)

pub returns-else-eq : goal.returns-else-eq
returns-else-eq c =
    not_in_force newest_rules c.args.self.now c.args.rule c.args.year c.easter-day.result
    c.easter-day.ensures.value
    (ap (λ (r : Regime). is_rule r.rule c.args.rule) (sym c.regime_at.ensures)
    ∙ same_rule c.regime_at.result.rule c.args.rule ∙ sym c.eq.ensures ∙ c.if-eq.false)
