use Rattle.std.proofs.Common.{◌∙◌, None, Some, ap, option_map, rules, sym}
use Rattle.osn_page_commands.proofs.HintLemmas.{hint_first, hint_last, hint_later}
use Rattle.osn_page_commands.proofs.PieceLemmas.{shorter}
use Rattle.osn_page_commands.proofs.date_hint.first_hint.Goals as goal

pub loop-word-smaller : goal.loop-word-smaller
loop-word-smaller c =
    shorter 32 c.loop-word.rest.now c.in-Some.word.now c.in-Some.further.now
    (sym c.in-Some.ensures)

pub loop-word-preserved : goal.loop-word-preserved
loop-word-preserved c = (
  search rules,
  c.loop-word.invariant.1
      ∙ hint_later c.loop-word.rest.now c.in-Some.word.now c.in-Some.further.now
      c.in_ok-name.field-0 (sym c.in-Some.ensures) c.in_ok-name.ensures c.in-None.is,
)

pub returns-in-Some-2 : goal.returns-in-Some-2
returns-in-Some-2 c =
    hint_first c.loop-word.rest.now c.in-Some.word.now c.in-Some.further.now c.in_ok-name.field-0
    (sym c.in-Some.ensures) c.in_ok-name.ensures c.in-Some-2.name c.in-Some-2.is
    ∙ sym c.loop-word.invariant.1

pub returns-in-Some-3 : goal.returns-in-Some-3
returns-in-Some-3 c =
    hint_last c.loop-word.rest.now (Some c.in-Some-3.name.now) (sym c.in_default.ensures)
    (sym (ap (option_map (λ name. name.now)) c.in-Some-3.is) ∙ c.in_ok-name-2.ensures)
    ∙ sym c.loop-word.invariant.1

pub returns-in-None-2 : goal.returns-in-None-2
returns-in-None-2 c =
    hint_last c.loop-word.rest.now None (sym c.in_default.ensures)
    (sym (ap (option_map (λ name. name.now)) c.in-None-2.is) ∙ c.in_ok-name-2.ensures)
    ∙ sym c.loop-word.invariant.1
