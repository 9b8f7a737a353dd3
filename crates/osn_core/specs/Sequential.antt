-- The sequential object: batches of published edits, and edits that are pending.
use Rattle.std.specs.Prelude.{ℕ, ◌+◌, ◌-◌, ◌≤◌, ◌<◌, nat_lt, slice_get, unwrap_or, ◌==◌}
use Rattle.std.specs.Prelude.{if◌then◌else◌, List, [], ◌∷◌, ◌++◌, length, take, Option, Some, None}
use Rattle.std.specs.List.{sum_by, All}
use Rattle.osn_days.specs.Rules.{Rules}
use Rattle.osn_register.specs.declared.limits.Limits.{Limits}
use Rattle.osn_register.specs.declared.edit.Edit.{Edit}
use Rattle.osn_register.specs.declared.query.Query.{Query}
use Rattle.osn_register.specs.declared.refusal.Refusal.{Refusal}
use Rattle.osn_register.specs.declared.refusal.Refusal.TheVariants.{NothingPending, JournalFull}
use Rattle.osn_register.specs.declared.refusal.Refusal.TheVariants.{EditionsFull}
use Rattle.osn_register.specs.Refusal.{or_else}
use Rattle.osn_register.specs.Lawful.{AreLawful, source_given}
use Rattle.osn_register.specs.Plain.{EntryModel, refusal, after_edits}
use Rattle.osn_register.specs.Answer.{answer}
use Rattle.osn_register.specs.Sources.{IsGiven}
use Rattle.osn_core.specs.declared.step.Reply.{Reply}
use Rattle.osn_core.specs.declared.step.Out.{Out}
use Rattle.osn_core.specs.declared.step.Out.TheVariants.{Staged, Published, Refused}

pub record ObjectState : Type 0 where
  pub limits : Limits
  pub batches : List (List Edit)
  pub pending : List Edit

abbrev pub empty_object : Limits → ObjectState
empty_object limits = record { limits = limits; batches = []; pending = [] }

-- the edits of batches, in order
abbrev pub joined : List (List Edit) → List Edit
joined [] = []
joined (b ∷ bs) = b ++ joined bs

-- the edits of the last batch, or none
abbrev pub last_batch : List (List Edit) → List Edit
last_batch batches = unwrap_or (slice_get batches (length batches - 1)) []

-- edits without the last ones
abbrev pub without_last : ℕ → List Edit → List Edit
without_last count edits = take (length edits - count) edits

-- the territories of the published edits
abbrev pub territories_of : Rules → Limits → List (List Edit) → List EntryModel
territories_of p limits batches = after_edits p limits [] (joined batches)

-- the territories of all published and pending edits
abbrev pub draft_territories : Rules → ObjectState → List EntryModel
draft_territories p s = after_edits p s.limits [] (joined s.batches ++ s.pending)

-- how many edits there are, published and pending
abbrev pub edits_in : ObjectState → ℕ
edits_in s = sum_by (λ b. length b) s.batches + length s.pending

abbrev pub stage_refusal : Rules → ObjectState → Edit → Option Refusal
stage_refusal p s e =
    or_else (refusal p s.limits (draft_territories p s) e)
    (if nat_lt (edits_in s) s.limits.edits then None else Some JournalFull)

abbrev pub publish_refusal : ObjectState → Option Refusal
publish_refusal s =
    if length s.pending == 0 then Some NothingPending
    else (if nat_lt (length s.batches) s.limits.editions then None else Some EditionsFull)

-- the object with one more pending edit
abbrev pub with_pending : ObjectState → Edit → ObjectState
with_pending s e = record s { pending = s.pending ++ e ∷ [] }

-- the object once its pending edits are the next edition
abbrev pub with_edition : ObjectState → ObjectState
with_edition s = record s { batches = s.batches ++ s.pending ∷ []; pending = [] }

abbrev pub state_unless : Option Refusal → ObjectState → ObjectState → ObjectState
state_unless None new old = new
state_unless (Some f) new old = old

abbrev pub out_unless : Option Refusal → Out → Out
out_unless None out = out
out_unless (Some f) out = Refused f

-- what staging an edit gives, and what it leaves
abbrev pub stage_out : Rules → ObjectState → Edit → Out
stage_out p s e = out_unless (stage_refusal p s e) (Staged (length s.pending + 1))

abbrev pub stage_after : Rules → ObjectState → Edit → ObjectState
stage_after p s e = state_unless (stage_refusal p s e) (with_pending s e) s

-- what a publish gives, and what it leaves
abbrev pub publish_out : ObjectState → Out
publish_out s = out_unless (publish_refusal s) (Published (length s.batches + 1))

abbrev pub publish_after : ObjectState → ObjectState
publish_after s = state_unless (publish_refusal s) (with_edition s) s

-- the reply to a query under these batches
abbrev pub reply_at : Rules → Limits → List (List Edit) → Query → Reply
reply_at p limits batches q =
    record { edition = length batches; answer = answer p (territories_of p limits batches) q }

-- an edit gives no source, or one that may be given
abbrev pub HasLawfulSource : Edit → Type 0
HasLawfulSource e = IsGiven (source_given e)

-- no batch is empty
abbrev pub NoneEmpty : List (List Edit) → Type 0
NoneEmpty [] = Unit {0}
NoneEmpty (b ∷ bs) = (0 < length b) × NoneEmpty bs

-- what holds of every object
pub record IsSound (p : Rules) (s : ObjectState) : Type 0 where
  pub lawful : AreLawful p s.limits [] (joined s.batches ++ s.pending)
  pub none_empty : NoneEmpty s.batches
  pub edits : edits_in s ≤ s.limits.edits
  pub editions : length s.batches ≤ s.limits.editions
  pub sources : All HasLawfulSource (joined s.batches ++ s.pending)
