-- The replies to readers at work, each to its own list of questions.
use Rattle.std.specs.Prelude.{◌≡◌, ℕ, ◌+◌, ◌<◌, ◌≤◌, List, [], ◌∷◌, length, take, Vec}
use Rattle.std.specs.declared.alloc.Global.{Global}
use Rattle.osn_days.specs.Rules.{Rules}
use Rattle.osn_register.specs.declared.limits.Limits.{Limits}
use Rattle.osn_register.specs.declared.edit.Edit.{Edit}
use Rattle.osn_register.specs.declared.query.Query.{Query}
use Rattle.osn_core.specs.declared.step.Reply.{Reply}
use Rattle.osn_core.specs.Sequential.{reply_at}

-- the reply is the definition's under the first of these batches, as many as it names
abbrev pub IsReplyWithin : Rules → Limits → List (List Edit) → Query → Reply → Type 0
IsReplyWithin p limits batches q r =
    (r.edition ≤ length batches) × (r ≡ reply_at p limits (take r.edition batches) q)

-- one reply to each question, in its place, and no edition below the one before it
abbrev pub AreReplies : Rules → Limits → List (List Edit) → ℕ → List Query → List Reply → Type 0
AreReplies p limits batches floor [] [] = Unit {0}
AreReplies p limits batches floor (q ∷ qs) (r ∷ rs) =
    (floor ≤ r.edition) × IsReplyWithin p limits batches q r
    × AreReplies p limits batches r.edition qs rs
AreReplies p limits batches floor [] (r ∷ rs) = ⊥
AreReplies p limits batches floor (q ∷ qs) [] = ⊥

-- to each list of questions its list of replies, in its place
abbrev pub AreAll : Rules → Limits → List (List Edit) → List (Vec Query Global) →
    List (Vec Reply Global) → Type 0
AreAll p limits batches [] [] = Unit {0}
AreAll p limits batches (qs ∷ lists) (rs ∷ all) =
    AreReplies p limits batches 0 qs.items rs.items × AreAll p limits batches lists all
AreAll p limits batches [] (rs ∷ all) = ⊥
AreAll p limits batches (qs ∷ lists) [] = ⊥

-- a gate let each item of a list pass, and saw the end of each. The list is that of `who`, and has
-- this many items
pub record HearsOf {G : Type 0} (let_pass saw_end : G → ℕ → ℕ → Type 0) (gate : G) (who items : ℕ)
    : Type 0 where
  pub let_each_pass : (place : ℕ) → place < items → let_pass gate who place
  pub saw_each_end : (place : ℕ) → place < items → saw_end gate who place

-- a gate let the items of each list of questions pass, and saw their ends. The readers of the lists
-- are numbered from this number
abbrev pub HearsOfLists : {G : Type 0} → (G → ℕ → ℕ → Type 0) → (G → ℕ → ℕ → Type 0) → G → ℕ
    → List (Vec Query Global) → Type 0
HearsOfLists let_pass saw_end gate who [] = Unit {0}
HearsOfLists let_pass saw_end gate who (list ∷ lists) =
    HearsOf let_pass saw_end gate who (length list.items)
    × HearsOfLists let_pass saw_end gate (who + 1) lists

-- a gate let the items of all lists pass, and saw their ends: those of the editor, who is 0, and
-- those of the readers, who are 1 upward
pub record HearsOfAll {G : Type 0} (let_pass saw_end : G → ℕ → ℕ → Type 0) (gate : G)
    (commands : ℕ) (lists : List (Vec Query Global)) : Type 0 where
  pub editor : HearsOf let_pass saw_end gate 0 commands
  pub readers : HearsOfLists let_pass saw_end gate 1 lists
