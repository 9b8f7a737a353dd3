-- No reader's editions fall: those that the sequential object gives a reader never do, and a reader
-- gets the first of them.
use Rattle.std.proofs.Common.{◌≡◌, ℕ, ◌+◌, ◌≤◌, ◌==◌, true, false, if◌then◌else◌, List, []}
use Rattle.std.proofs.Common.{◌∷◌, ◌++◌, map, length, Option, Some, None, refl, sym, subst, arith}
use Rattle.std.proofs.Common.{le_refl, length-append, ap, ◌∙◌}
use Rattle.osn_days.specs.Rules.{Rules}
use Rattle.osn_register.specs.declared.limits.Limits.{Limits}
use Rattle.osn_register.specs.declared.refusal.Refusal.{Refusal}
use Rattle.osn_register.specs.declared.edit.Edit.{Edit}
use Rattle.osn_core.specs.declared.step.Reply.{Reply}
use Rattle.osn_core.specs.declared.step.Step.{Step}
use Rattle.osn_core.specs.Sequential.{ObjectState, empty_object, stage_refusal, publish_refusal}
use Rattle.osn_core.specs.Sequential.{with_pending, with_edition, state_unless}
use Rattle.osn_core.specs.Sequential.{stage_after, publish_after, reply_at}
use Rattle.osn_core.specs.Control.{reader_at, all_idle}
use Rattle.osn_core.specs.Machine.{first_core, outs_of}
use Rattle.osn_core.specs.History.{Call, Stages, Publishes, Asks, no_looks, history, outs_to}
use Rattle.osn_core.specs.History.{replies_to, Begin, editions_to, NeverFalls}
use Rattle.osn_core.proofs.Knows.{Knows, idle_at}
use Rattle.osn_core.proofs.PendingReplies.{owed}
use Rattle.osn_core.proofs.Runs.{stage_silent, publish_silent, replies_of_run}

abbrev editions : List Reply → List ℕ
editions replies = map (λ (reply : Reply). reply.edition) replies

staged_batches : (s : ObjectState) (e : Edit) (f : Option Refusal) →
    length s.batches ≤ length (state_unless f (with_pending s e) s).batches
staged_batches s e None = le_refl _
staged_batches s e (Some f) = le_refl _

published_batches : (s : ObjectState) (f : Option Refusal) →
    length s.batches ≤ length (state_unless f (with_edition s) s).batches
published_batches s None = omega (arith, length-append s.batches (s.pending ∷ []))
published_batches s (Some f) = le_refl _

editions_rise : (p : Rules) (r : ℕ) (s : ObjectState) (calls : List Call) (floor : ℕ) →
    floor ≤ length s.batches → NeverFalls floor (editions (replies_to r (outs_to p s calls)))
editions_rise p r s [] floor low = tt
editions_rise p r s (Stages e ∷ cs) floor low =
    let f = stage_refusal p s e in
    let after = stage_after p s e in
    let more : length s.batches ≤ length after.batches = staged_batches s e f in
    subst (λ l. NeverFalls floor (editions (l ++ replies_to r (outs_to p after cs))))
    (sym (stage_silent r (length s.pending + 1) f))
    (editions_rise p r after cs floor (omega (arith, low, more)))
editions_rise p r s (Publishes ∷ cs) floor low =
    let f = publish_refusal s in
    let after = publish_after s in
    let more : length s.batches ≤ length after.batches = published_batches s f in
    subst (λ l. NeverFalls floor (editions (l ++ replies_to r (outs_to p after cs))))
    (sym (publish_silent r (length s.batches + 1) f))
    (editions_rise p r after cs floor (omega (arith, low, more)))
editions_rise p r s (Asks a q ∷ cs) floor low =
    let reply = reply_at p s.limits s.batches q in
    elim (a == r) as (λ b. NeverFalls floor
    (editions ((if b then reply ∷ [] else []) ++ replies_to r (outs_to p s cs)))) [
      | true ↦ (low, editions_rise p r s cs (length s.batches) (le_refl _))
      | false ↦ editions_rise p r s cs floor low
    ]

begin_rises : (floor : ℕ) (xs ys : List Reply) → NeverFalls floor (editions (xs ++ ys)) →
    NeverFalls floor (editions xs)
begin_rises floor [] ys h = tt
begin_rises floor (x ∷ xs) ys h = (h.0, begin_rises x.edition xs ys h.1)

-- from the first state on, the replies to a reader begin those that the sequential object gives it
pub outs_begin : (p : Rules) (limits : Limits) (readers : ℕ) (steps : List Step) (r : ℕ) →
    let outs = outs_of p (first_core limits readers) steps in
    Begin (replies_to r outs) (replies_to r (outs_to p (empty_object limits) (history steps outs)))
outs_begin p limits readers steps r =
    let first = first_core limits readers in
    let outs = outs_of p first steps in
    let known = λ (by : ℕ). idle_at (Knows no_looks 0 by) tt tt readers by in
    let all = replies_of_run p r no_looks first steps known in
    let none : owed p first.object (reader_at (all_idle readers) r) ≡ [] =
    idle_at (λ at. owed p first.object at ≡ []) refl refl readers r in
    record {
      rest = all.0;
      is = all.1
          ∙ ap (λ l. l ++ replies_to r (outs_to p (empty_object limits) (history steps outs))) none;
    }

pub outs_rise : (p : Rules) (limits : Limits) (readers : ℕ) (steps : List Step) (r : ℕ) →
    NeverFalls 0 (editions_to r (outs_of p (first_core limits readers) steps))
outs_rise p limits readers steps r =
    let outs = outs_of p (first_core limits readers) steps in
    let begin = outs_begin p limits readers steps r in
    begin_rises 0 (replies_to r outs) begin.rest
    (subst (λ rs. NeverFalls 0 (editions rs)) (sym begin.is)
    (editions_rise p r (empty_object limits) (history steps outs) 0 (omega arith)))
