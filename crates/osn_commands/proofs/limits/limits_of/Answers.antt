use Rattle.std.proofs.Common.{◌∙◌, rules, sym}
use Rattle.osn_commands.proofs.LimitsLemmas.{first_set, none_set, only_set, shorter}
use Rattle.osn_commands.proofs.limits.limits_of.Goals as goal

pub loop-first-smaller : goal.loop-first-smaller
loop-first-smaller c =
    shorter c.loop-first.rest.now c.in-Some.first.now c.in-Some.further.now
    (sym c.in-Some.ensures)

pub loop-first-preserved : goal.loop-first-preserved
loop-first-preserved c = (
  search rules,
  c.loop-first.invariant.1
      ∙ first_set c.loop-first.limits c.in_ok-limits.limits c.loop-first.rest.now
      c.in-Some.first.now c.in-Some.further.now (sym c.in-Some.ensures)
      (sym c.in_ok-limits.ensures),
)

pub returns-in_err-limits : goal.returns-in_err-limits
returns-in_err-limits c =
    c.from_residual.ensures
    ∙ sym (c.loop-first.invariant.1
    ∙ none_set c.loop-first.limits c.loop-first.rest.now c.in-Some.first.now c.in-Some.further.now
    (sym c.in-Some.ensures) (sym c.in_err-limits.ensures))

pub returns : goal.returns
returns c =
    c.with_setting-2.ensures
    ∙ sym (c.loop-first.invariant.1
    ∙ only_set c.loop-first.limits c.loop-first.rest.now (sym c.in_default.ensures))
