-- A kept object is a store.
use Rattle.std.proofs.Common.{ℕ, List, Bool, true, false, Option, Result, Ok, Err, OnOk, IfErr}
use Rattle.std.proofs.Common.{◌≡◌, None, sym, subst}
use Rattle.osn_core.specs.Sequential.{ObjectState}
use Rattle.osn_lines.specs.declared.fault.EndedEarly.{EndedEarly}
use Rattle.osn_lines.specs.Streams.{Input}
use Rattle.osn_folder.specs.declared.fault.KeptFileFault.{KeptFileFault}
use Rattle.osn_service.specs.Change.{change_refusal, changed}
use Rattle.osn_service.specs.declared.fault.ServiceFault.{ServiceFault}
use Rattle.osn_service.specs.declared.fault.ServiceFault.TheVariants.{Serve, NotKept}
use Rattle.osn_service.specs.declared.rules.ServeRules.{ServeRules}
use Rattle.osn_service.specs.declared.service.Served.{Served}
use Rattle.osn_service.specs.declared.store.Change.{Change}
use Rattle.osn_service.specs.declared.store.StoreFault.{StoreFault}
use Rattle.osn_service.specs.declared.store.StoreFault.TheVariants as store_faults
use Rattle.osn_service.specs.Faults.{MatchServed}
use Rattle.osn_service.specs.Serves.{KeepsStore}
use Rattle.osn_service.specs.Store.{Makes, MatchStoreFault, FailsToKeep}
use Rattle.osn_journal.specs.declared.kept_object.KeptObject.{KeptObject}
use Rattle.osn_journal.specs.KeptJournal.{FileState, KeepsAll, KeepsFile, KeepsUntil, file_of}
use Rattle.osn_journal.specs.ChangeInside.{ChangeResult}
use Rattle.osn_journal.specs.KeptObjectInside.{HasKept, HasLost}
use Rattle.osn_journal.proofs.KeepingLemmas.{KeepsAll-nothing, KeepsAll-change, KeepsAll-then}
use Rattle.osn_journal.proofs.KeepingLemmas.{KeepsUntil-from}

module _ {K : Type 0} (contents synced : K → Option (List ℕ))
    (fault : K → Option KeptFileFault) where
  -- what it has at a moment: its object, and its file
  abbrev object_of : KeptObject K → ObjectState
  object_of s = s.object.now

  abbrev file_at : KeptObject K → FileState
  file_at s = file_of contents synced fault s.keeper.now

  -- what of it is kept, and is not
  abbrev has_kept : KeptObject K → KeptObject K → Type 0
  has_kept = HasKept contents synced fault

  abbrev has_lost : KeptObject K → ObjectState → KeptObject K → KeptFileFault → Type 0
  has_lost = HasLost contents synced fault

  module _ (change : Change) (old new : KeptObject K)
      (lawful : change_refusal (object_of old) change ≡ None) where
    -- a change was made and kept
    pub Makes-changed : {A : Type 0} (result : Result A (StoreFault KeptFileFault))
        → ChangeResult change (object_of old) (object_of new) (file_at old) (file_at new) result
        → OnOk result (Makes object_of has_kept old new (changed (object_of old) change))
    Makes-changed (Ok done) h = record {
      is = h.0;
      keeps = λ initial before.
          subst
          (λ (t : ObjectState). KeepsAll (object_of initial) t (file_at initial) (file_at new))
          (sym h.0)
          (KeepsAll-then (object_of initial) (object_of old) change (file_at initial) (file_at old)
          (file_at new) before
          (KeepsAll-change (object_of old) change (file_at old) (file_at new) lawful h.1 h.2));
    }
    Makes-changed (Err why) h = tt

    -- a change was not made, or not kept
    pub Faults-changed : {A : Type 0} (result : Result A (StoreFault KeptFileFault))
        → ChangeResult change (object_of old) (object_of new) (file_at old) (file_at new) result
        → IfErr result (λ why. MatchStoreFault why
        (Makes object_of has_kept old new (object_of old))
        (FailsToKeep object_of has_kept has_lost old new (changed (object_of old) change)))
    Faults-changed (Ok done) h = tt
    Faults-changed (Err store_faults.NoMemory) h = record {
      is = h.0;
      keeps = λ initial before.
          subst (λ (t : ObjectState). KeepsAll (object_of initial) t (file_at initial)
          (file_at new))
          (sym h.0)
          (subst
          (λ (f : FileState). KeepsAll (object_of initial) (object_of old) (file_at initial) f)
          (sym h.1) before);
    }
    Faults-changed (Err (store_faults.NotKept why)) h = record {
      is = h.0;
      fails = λ initial before.
          subst
          (λ (t : ObjectState). KeepsUntil (object_of initial) (object_of old) t (file_at initial)
          (file_at new) why) (sym h.0)
          (KeepsUntil-from (object_of initial) (object_of old) change why (file_at initial)
          (file_at old) (file_at new) before h.1);
    }

  module _ (rules : ServeRules) (old new : KeptObject K) (i : Input) where
    -- nothing is kept yet
    initial : KeepsAll (object_of old) (object_of old) (file_at old) (file_at old)
    initial = KeepsAll-nothing (object_of old) (file_at old)

    -- the file was kept from its first state on, or from any state from which it was kept before
    abbrev KeepsFromFirst : Type 0
    KeepsFromFirst = KeepsAll (object_of old) (object_of new) (file_at old) (file_at new)

    abbrev KeepsFromAny : Type 0
    KeepsFromAny = (first : KeptObject K) → has_kept first old → has_kept first new

    -- if the service ended without a fault
    served : (refused : Bool) (n : ℕ)
        → MatchServed refused (λ _. KeepsFromAny) (λ _. KeepsFromAny) n
        → MatchServed refused (λ _. KeepsFromFirst) (λ _. KeepsFromFirst) n
    served false n h = h old initial
    served true n h = h old initial

    -- if it ended by a fault
    ended : (n : ℕ) (cause : ServiceFault KeptFileFault)
        → KeepsStore has_kept has_lost rules (object_of old) old new i
        (Err (record { lines = n; cause = cause }))
        → KeepsFile rules (object_of old) (object_of new) i.bytes (file_at old) (file_at new)
        (Err (record { lines = n; cause = cause }))
    ended n (Serve why) h = h old initial
    ended n (NotKept why) h = record { before = h.0; stands = h.1; keeps = h.2 old initial }

    -- what the store has kept since it began
    pub KeepsFile-begun : (result : Result Served (EndedEarly (ServiceFault KeptFileFault)))
        → KeepsStore has_kept has_lost rules (object_of old) old new i result
        → KeepsFile rules (object_of old) (object_of new) i.bytes (file_at old) (file_at new) result
    KeepsFile-begun (Ok done) h = served done.refused done.lines h
    KeepsFile-begun (Err end) h = ended end.lines end.cause h
