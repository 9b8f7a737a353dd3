-- Where readers are, and what they see there, after each step.
use Rattle.std.proofs.Common.{◌≡◌, ℕ, zero, suc, ◌+◌, ◌-◌, ◌<◌, ◌==◌, inl, inr, Bool}
use Rattle.std.proofs.Common.{true, false, ◌||◌, if◌then◌else◌, List, [], ◌∷◌, ◌++◌, length}
use Rattle.std.proofs.Common.{slice_get, Option, Some, None, refl, sym, ap, ◌∙◌, arith}
use Rattle.std.proofs.Common.{append-nil}
use Rattle.std.proofs.lemmas.Bool.{false≢true}
use Rattle.std.proofs.lemmas.Bool.Decides.{nat_tests}
use Rattle.std.proofs.lemmas.List.{take_all}
use Rattle.osn_days.specs.Rules.{newest_rules}
use Rattle.osn_register.specs.Plain.{EntryModel, after_edits}
use Rattle.osn_register.specs.declared.query.Query.{Query}
use Rattle.osn_core.specs.declared.phase.Phase.{Phase}
use Rattle.osn_core.specs.declared.phase.Phase.TheVariants.{Ready, Draining, Claimed}
use Rattle.osn_core.specs.declared.reader.ReaderState.{ReaderState}
use Rattle.osn_core.specs.declared.reader.ReaderState.TheVariants.{Idle, Noted, Marked, Entered}
use Rattle.osn_core.specs.declared.reader.ReaderState.TheVariants.{Answered}
use Rattle.osn_core.specs.Sequential.{ObjectState, joined, territories_of, without_last}
use Rattle.osn_core.specs.Control.{reader_at, look, pin, check, leave, entering, marks, is_marked}
use Rattle.osn_core.specs.Machine.{CoreState}
use Rattle.osn_core.specs.LiveAndStandby.{standby_territories, side_territories}
use Rattle.osn_core.specs.LiveAndStandby.{edition_territories, IsSeenBy}
use Rattle.osn_core.specs.LiveAndStandbyInside.{lagging_territories}
use Rattle.osn_core.specs.CoreInside.{IsLag, IsIn, IsPlaced, IsCore}
use Rattle.osn_core.proofs.Batches.{without_none, without_batch}
use Rattle.osn_core.proofs.ReaderMoves.{test_same, test_other}

module _ (live : ℕ) (phase : Phase) (n : ℕ) where
  pub look_placed : (query : Query) (x : ReaderState) → IsPlaced live phase n (Some x) →
      IsPlaced live phase n (Some (look live query x).at)
  look_placed query Idle h = tt
  look_placed query (Noted q s) h = h
  look_placed query (Marked q s) h = h
  look_placed query (Entered q s k) h = h
  look_placed query (Answered s k) h = h

  pub pin_placed : (x : ReaderState) → IsPlaced live phase n (Some x) →
      IsPlaced live phase n (Some (pin x).at)
  pin_placed Idle h = h
  pin_placed (Noted q s) h = tt
  pin_placed (Marked q s) h = h
  pin_placed (Entered q s k) h = h
  pin_placed (Answered s k) h = h

  entering_placed : (b : Bool) (q : Query) (s : ℕ) → (s == live) ≡ b →
      IsPlaced live phase n (Some (entering b live n q s).at)
  entering_placed true q s is = inl (grind (arith, nat_tests), refl)
  entering_placed false q s is = tt

  pub check_placed : (x : ReaderState) → IsPlaced live phase n (Some x) →
      IsPlaced live phase n (Some (check live n x).at)
  check_placed Idle h = h
  check_placed (Noted q s) h = h
  check_placed (Marked q s) h = entering_placed (s == live) q s refl
  check_placed (Entered q s k) h = h
  check_placed (Answered s k) h = h

  pub leave_placed : (x : ReaderState) → IsPlaced live phase n (Some x) →
      IsPlaced live phase n (Some (leave x).at)
  leave_placed Idle h = h
  leave_placed (Noted q s) h = h
  leave_placed (Marked q s) h = h
  leave_placed (Entered q s k) h = h
  leave_placed (Answered s k) h = tt

-- a reader that is in a side is in one of the two
pub in_two : (live : ℕ) (phase : Phase) (n s k : ℕ) → live < 2 → IsIn live phase n s k → s < 2
in_two live phase n s k two h = elim h [
  | inl (side, all) ↦ omega (arith, two, side)
  | inr (side, draining, all) ↦ omega (arith, two, side)
]

-- if nobody marks the standby, nobody is in it
unmarked_at : (side : ℕ) (readers : List ReaderState) (i : ℕ) (x : ReaderState) →
    is_marked side readers ≡ false → slice_get readers i ≡ Some x → marks side x ≡ false
unmarked_at side [] i x none is = cc
unmarked_at side (y ∷ ys) zero x none is =
    let same : y ≡ x = cc in
    elim (marks side y) as (λ b. marks side y ≡ b → (b || is_marked side ys) ≡ false →
    marks side x ≡ false)
    [ true ↦ λ e f. absurd (false≢true (sym f)) | false ↦ λ e f. ap (marks side) (sym same) ∙ e ]
    refl none
unmarked_at side (y ∷ ys) (suc i) x none is =
    elim (marks side y) as (λ b. (b || is_marked side ys) ≡ false → marks side x ≡ false)
    [ true ↦ λ f. absurd (false≢true (sym f)) | false ↦ λ f. unmarked_at side ys i x f is ]
    none

unmarked : (side : ℕ) (readers : List ReaderState) (r : ℕ) (x : ReaderState) →
    is_marked side readers ≡ false → reader_at readers r ≡ Some x → marks side x ≡ false
unmarked side readers r x none is =
    elim (r == 0) as (λ b. (if b then None else slice_get readers (r - 1)) ≡ Some x →
    marks side x ≡ false)
    [ true ↦ λ e. cc | false ↦ λ e. unmarked_at side readers (r - 1) x none e ]
    is

claimed_in : (live n s k : ℕ) → (s == 1 - live) ≡ false → IsIn live Draining n s k →
    IsIn live Claimed n s k
claimed_in live n s k other h = elim h [
  | inl there ↦ inl there
  | inr (side, draining, all) ↦ absurd (false≢true (sym other ∙ test_same s (1 - live) side))
]

claimed_at : (live n : ℕ) (at : Option ReaderState) →
    ((x : ReaderState) → at ≡ Some x → marks (1 - live) x ≡ false) →
    IsPlaced live Draining n at → IsPlaced live Claimed n at
claimed_at live n None other h = tt
claimed_at live n (Some Idle) other h = tt
claimed_at live n (Some (Noted q s)) other h = tt
claimed_at live n (Some (Marked q s)) other h = tt
claimed_at live n (Some (Entered q s k)) other h = claimed_in live n s k (other _ refl) h
claimed_at live n (Some (Answered s k)) other h = claimed_in live n s k (other _ refl) h

pub claimed_placed : (live n : ℕ) (readers : List ReaderState) →
    is_marked (1 - live) readers ≡ false →
    ((r : ℕ) → IsPlaced live Draining n (reader_at readers r)) →
    (r : ℕ) → IsPlaced live Claimed n (reader_at readers r)
claimed_placed live n readers none all r = claimed_at live n (reader_at readers r)
    (λ x is. unmarked (1 - live) readers r x none is) (all r)

-- what the standby shows, by the phase
lagging_is : (s : ObjectState) (lag : ℕ) → s.pending ≡ [] →
    lagging_territories newest_rules (record { object = s; lag = lag })
    ≡ after_edits newest_rules s.limits [] (without_last lag (joined s.batches))
lagging_is s lag none = ap (λ es. after_edits newest_rules s.limits [] (without_last lag es))
    (ap (λ es. joined s.batches ++ es) none ∙ append-nil (joined s.batches))

standby_register : (s : ObjectState) (lag : ℕ) (phase : Phase) → IsLag s lag phase →
    lagging_territories newest_rules (record { object = s; lag = lag })
    ≡ standby_territories newest_rules s lag phase
standby_register s lag Ready h = ap (after_edits newest_rules s.limits [])
    (without_none (joined s.batches ++ s.pending) lag h)
standby_register s lag Draining h = lagging_is s lag h.0
standby_register s lag Claimed h = lagging_is s lag h

pub standby_side : (c : CoreState) (side : ℕ) → IsCore c → (side == c.control.side) ≡ false →
    lagging_territories newest_rules (record { object = c.object; lag = c.control.lag })
    ≡ side_territories newest_rules c side
standby_side c side h other =
    standby_register c.object c.control.lag c.control.phase h.lag
    ∙ sym (ap (λ b. if b then territories_of newest_rules c.object.limits c.object.batches
    else standby_territories newest_rules c.object c.control.lag c.control.phase) other)

pub live_side : (c : CoreState) (side : ℕ) → (side == c.control.side) ≡ true →
    territories_of newest_rules c.object.limits c.object.batches
    ≡ side_territories newest_rules c side
live_side c side same =
    sym (ap (λ b. if b then territories_of newest_rules c.object.limits c.object.batches
    else standby_territories newest_rules c.object c.control.lag c.control.phase) same)

-- while the standby is draining it lacks the last batch
draining_is : (s : ObjectState) (lag : ℕ) (phase : Phase) (k : ℕ) → IsLag s lag phase →
    phase ≡ Draining → k + 1 ≡ length s.batches →
    standby_territories newest_rules s lag phase ≡ edition_territories newest_rules s k
draining_is s lag Ready k h is all = cc
draining_is s lag Draining k h is all =
    ap (after_edits newest_rules s.limits [])
    (ap (λ n. without_last n (joined s.batches)) h.1 ∙ without_batch s.batches k all)
draining_is s lag Claimed k h is all = cc

-- a reader that is in a side sees in it the editions that it entered with
seen_in : (c : CoreState) (side s k : ℕ) → IsCore c →
    IsIn c.control.side c.control.phase (length c.object.batches) s k → s ≡ side →
    side_territories newest_rules c side ≡ edition_territories newest_rules c.object k
seen_in c side s k h there same = elim there [
  | inl (live, all) ↦
      sym (live_side c side (test_same side c.control.side (sym same ∙ live)))
      ∙ ap (territories_of newest_rules c.object.limits)
      (sym (take_all k c.object.batches (omega (arith, all))))
  | inr (standby, draining, all) ↦
      ap (λ b. if b then territories_of newest_rules c.object.limits c.object.batches
      else standby_territories newest_rules c.object c.control.lag c.control.phase)
      (test_other side c.control.side (λ e. omega (arith, h.side, e, same, standby)))
      ∙ draining_is c.object c.control.lag c.control.phase k h.lag draining all
]

seen_at : (c : CoreState) (side : ℕ) (territories : List EntryModel) (at : Option ReaderState) →
    IsCore c → territories ≡ side_territories newest_rules c side →
    IsPlaced c.control.side c.control.phase (length c.object.batches) at →
    IsSeenBy newest_rules c.object side territories at
seen_at c side territories None h is there = tt
seen_at c side territories (Some Idle) h is there = tt
seen_at c side territories (Some (Noted q s)) h is there = tt
seen_at c side territories (Some (Marked q s)) h is there = tt
seen_at c side territories (Some (Entered q s k)) h is there =
    λ same. is ∙ seen_in c side s k h there same
seen_at c side territories (Some (Answered s k)) h is there =
    λ same. is ∙ seen_in c side s k h there same

pub seen_by : (c : CoreState) (side : ℕ) (territories : List EntryModel) (reader : ℕ) → IsCore c →
    territories ≡ side_territories newest_rules c side →
    IsSeenBy newest_rules c.object side territories (reader_at c.control.readers reader)
seen_by c side territories reader h is =
    seen_at c side territories (reader_at c.control.readers reader) h is (h.readers reader)
