-- A draft: what of the sequential object the next edit and the next edition depend on.
use Rattle.std.specs.Prelude.{ℕ, ◌≡◌, ◌+◌, ◌==◌, nat_lt, if◌then◌else◌, List, [], ◌∷◌, ◌++◌, length}
use Rattle.std.specs.Prelude.{Option, Some, None}
use Rattle.osn_days.specs.Rules.{newest_rules}
use Rattle.osn_register.specs.declared.limits.Limits.{Limits}
use Rattle.osn_register.specs.declared.edit.Edit.{Edit}
use Rattle.osn_register.specs.declared.refusal.Refusal.{Refusal}
use Rattle.osn_register.specs.declared.refusal.Refusal.TheVariants.{NothingPending, JournalFull}
use Rattle.osn_register.specs.declared.refusal.Refusal.TheVariants.{EditionsFull}
use Rattle.osn_register.specs.Refusal.{or_else}
use Rattle.osn_register.specs.Plain.{RegisterModel, refusal, effect}
use Rattle.osn_core.specs.Sequential.{ObjectState, draft_territories, edits_in}

-- the register of all edits, the pending ones, and how many edits and editions there are
pub record DraftState : Type 0 where
  pub register : RegisterModel
  pub pending : List Edit
  pub edits : ℕ
  pub editions : ℕ

abbrev pub first_draft : Limits → DraftState
first_draft limits = record {
  register = record { limits = limits; territories = [] };
  pending = [];
  edits = 0;
  editions = 0;
}

-- the first refusal of an edit, the same as that of the sequential object
abbrev pub edit_refusal : DraftState → Edit → Option Refusal
edit_refusal d e =
    or_else (refusal newest_rules d.register.limits d.register.territories e)
    (if nat_lt d.edits d.register.limits.edits then None else Some JournalFull)

-- the first refusal of a publish, the same as that of the sequential object
abbrev pub edition_refusal : DraftState → Option Refusal
edition_refusal d =
    if length d.pending == 0 then Some NothingPending
    else (if nat_lt d.editions d.register.limits.editions then None else Some EditionsFull)

-- the draft with one more pending edit
abbrev pub draft_with_edit : DraftState → Edit → DraftState
draft_with_edit d e = record {
  register = record d.register { territories = effect d.register.territories e };
  pending = d.pending ++ e ∷ [];
  edits = d.edits + 1;
  editions = d.editions;
}

-- the draft once its pending edits are the next edition
abbrev pub draft_with_edition : DraftState → DraftState
draft_with_edition d = record d { pending = []; editions = d.editions + 1 }

-- the sequential object with these batches
abbrev pub object_of : DraftState → List (List Edit) → ObjectState
object_of d batches =
    record { limits = d.register.limits; batches = batches; pending = d.pending }

-- the draft of the sequential object with these batches
pub record IsDraftOf (d : DraftState) (batches : List (List Edit)) : Type 0 where
  pub territories : d.register.territories ≡ draft_territories newest_rules (object_of d batches)
  pub edits : d.edits ≡ edits_in (object_of d batches)
  pub editions : d.editions ≡ length batches
