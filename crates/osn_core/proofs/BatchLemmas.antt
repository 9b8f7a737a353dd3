-- Batches of edits that are applied in turn.
use Rattle.std.proofs.Common.{◌≡◌, ℕ, ◌+◌, ◌<◌, List, ◌∷◌, length, get_or, drop, sym, ap, ◌∙◌}
use Rattle.std.proofs.lemmas.List.{drop_more}
use Rattle.osn_days.specs.Rules.{newest_rules}
use Rattle.osn_register.specs.declared.edit.Edit.{Edit}
use Rattle.osn_register.specs.declared.limits.Limits.{Limits}
use Rattle.osn_register.specs.Plain.{EntryModel, after_edits}
use Rattle.osn_core.specs.Sequential.{joined}
use Rattle.osn_core.proofs.Lawful.{after_edits-append}

-- one batch more is applied
pub batch_more : (limits now : Limits) (old new all : List EntryModel) (bs : List (List Edit))
    (i : ℕ) (b : List Edit) → i < length bs → b ≡ get_or bs i b → now ≡ limits
    → new ≡ after_edits newest_rules now old b
    → after_edits newest_rules limits old (joined (drop i bs)) ≡ all
    → after_edits newest_rules limits new (joined (drop (i + 1) bs)) ≡ all
batch_more limits now old new all bs i b within is same one so_far =
    let rest = drop (i + 1) bs in
    let left : drop i bs ≡ b ∷ rest = drop_more bs i b within ∙ ap (λ c. c ∷ rest) (sym is) in
    ap (λ ls. after_edits newest_rules limits ls (joined rest))
    (one ∙ ap (λ m. after_edits newest_rules m old b) same)
    ∙ (sym (after_edits-append newest_rules limits old b (joined rest))
    ∙ (sym (ap (λ cs. after_edits newest_rules limits old (joined cs)) left) ∙ so_far))
