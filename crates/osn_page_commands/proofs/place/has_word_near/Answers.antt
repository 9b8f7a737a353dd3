use Rattle.std.proofs.Common.{◌∙◌, rules, sym}
use Rattle.std.proofs.lemmas.Result.{IfOk-weaker}
use Rattle.osn_page_commands.proofs.PieceLemmas.{shorter}
use Rattle.osn_page_commands.proofs.PlaceLemmas.{near_first, near_last, near_later}
use Rattle.osn_page_commands.proofs.place.has_word_near.Goals as goal

pub loop-part-smaller : goal.loop-part-smaller
loop-part-smaller c =
    shorter 32 c.loop-part.rest.now c.in-Some.part.now c.in-Some.further.now
    (sym c.in-Some.ensures)

pub loop-part-preserved : goal.loop-part-preserved
loop-part-preserved c = (
  search rules,
  c.loop-part.invariant.1
      ∙ near_later c.args.word.now c.loop-part.rest.now c.in-Some.part.now
      c.in-Some.further.now c.in_ok-is_near.field-0 (sym c.in-Some.ensures)
      c.in_ok-is_near.ensures c.if-branch.false,
)

pub returns-then-branch : goal.returns-then-branch
returns-then-branch c =
    near_first c.args.word.now c.loop-part.rest.now c.in-Some.part.now c.in-Some.further.now
    c.in_ok-is_near.field-0 (sym c.in-Some.ensures) c.in_ok-is_near.ensures c.if-branch.true
    ∙ sym c.loop-part.invariant.1

pub returns : goal.returns
returns c =
    IfOk-weaker c.is_near-2.result _ _
    (λ near is. near_last c.args.word.now c.loop-part.rest.now near
    (sym c.in_default.ensures) is ∙ sym c.loop-part.invariant.1) c.is_near-2.ensures
