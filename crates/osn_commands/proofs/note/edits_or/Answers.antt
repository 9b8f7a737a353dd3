use Rattle.std.proofs.Common.{◌≡◌, ◌==◌, ◌∙◌, ℕ, length, vec_len, ap, arith, inl, refl, sym}
use Rattle.osn_commands.proofs.NoteLemmas.{with_edits, without_edits}
use Rattle.osn_commands.proofs.note.edits_or.Goals as goal

pub returns-then-is_empty : goal.returns-then-is_empty
returns-then-is_empty c =
    let size : length c.args.edits.items ≡ vec_len c.args.edits =
    omega (arith, c.args.edits.ok.0) in
    without_edits c.args.object.now _ c.args.edits.items c.args.other
    (ap (λ (n : ℕ). n == 0) size ∙ (sym c.is_empty.ensures ∙ c.if-is_empty.true)) (inl refl)

pub returns : goal.returns
returns c =
    let size : length c.args.edits.items ≡ vec_len c.args.edits =
    omega (arith, c.args.edits.ok.0) in
    with_edits c.args.object.now _ c.args.edits.items c.args.other
    (ap (λ (n : ℕ). n == 0) size ∙ (sym c.is_empty.ensures ∙ c.if-is_empty.false))
    c.refusal_or.ensures
