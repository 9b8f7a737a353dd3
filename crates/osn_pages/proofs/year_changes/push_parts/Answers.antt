use Rattle.std.proofs.Common.{◌≡◌, ◌++◌, ◌∙◌, List, ℕ, ap, append_assoc}
use Rattle.std.proofs.lemmas.Result.{on_ok_weaker}
use Rattle.osn_pages.specs.YearPage as spec
use Rattle.osn_pages.proofs.year_changes.push_parts.Goals as goal

-- three texts, one after another
three_texts : (a b c t0 t1 t2 t3 : List ℕ) → t1 ≡ t0 ++ a → t2 ≡ t1 ++ b → t3 ≡ t2 ++ c
    → t3 ≡ t0 ++ (a ++ (b ++ c))
three_texts a b c t0 t1 t2 t3 e1 e2 e3 =
    e3 ∙ ap (λ t. t ++ c) (e2 ∙ ap (λ t. t ++ b) e1)
    ∙ append_assoc (t0 ++ a) b c ∙ append_assoc t0 a (b ++ c)

pub returns : goal.returns
unfolding spec.turned_lines
returns c =
    rw (
      ← c.word.ensures,
      ← c.word-2.ensures,
      ← c.beginning_of_year.ensures,
      ← c.beginning_of_year-2.ensures,
      ← c.word-3.ensures,
      ← c.word-4.ensures,
    )
    (on_ok_weaker c.push_if_other-3.result
    (three_texts _ _ _ _ _ _ _ c.in_ok-push_if_other.ensures c.in_ok-push_if_other-2.ensures)
    c.push_if_other-3.ensures)
