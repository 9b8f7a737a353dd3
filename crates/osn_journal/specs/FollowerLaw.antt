-- A journal that grows keeps its editions: what a follower shows never falls, and what was synced
-- of it shows no fewer after a crash of the machine.
use Rattle.std.specs.Prelude.{◌≡◌, ℕ, List, ◌++◌, Ok}
use Rattle.osn_register.specs.declared.edit.Edit.{Edit}
use Rattle.osn_register.specs.declared.limits.Limits.{Limits}
use Rattle.osn_core.specs.Sequential.{ObjectState}
use Rattle.osn_folder.specs.FollowedFile.{IsOfWholeLines}
use Rattle.osn_journal.specs.Outcomes.{journal_object}

-- the batches of one object are the first of another's
pub record BeginsWith (s t : ObjectState) : Type 0 where
  pub later : List (List Edit)
  pub batches : t.batches ≡ s.batches ++ later

-- As a law: a journal of whole lines that has grown shows the editions that it showed before, and
-- perhaps more.
unfoldable pub DoEditionsNeverFall : Type 0
DoEditionsNeverFall =
    (limits : Limits) (file more : List ℕ) (s t : ObjectState) → IsOfWholeLines file
    → journal_object limits file ≡ Ok s → journal_object limits (file ++ more) ≡ Ok t
    → BeginsWith s t

-- what is left shows all editions of one object, and none that another has not
pub record IsBetween (limits : Limits) (left : List ℕ) (s t : ObjectState) : Type 0 where
  pub object : ObjectState
  pub shown : journal_object limits left ≡ Ok object
  pub keeps : BeginsWith s object
  pub no_more : BeginsWith object t

-- As a law: a crash of the machine keeps each edition of a journal that was synced. The synced part
-- has whole lines, and lines were appended since. If the crash leaves a prefix of them that has
-- whole lines, the journal is loaded, and shows each edition that was synced.
unfoldable pub DoSyncedEditionsStay : Type 0
DoSyncedEditionsStay =
    (limits : Limits) (synced front rest : List ℕ) (s t : ObjectState) → IsOfWholeLines synced
    → IsOfWholeLines front → journal_object limits synced ≡ Ok s
    → journal_object limits (synced ++ front ++ rest) ≡ Ok t
    → IsBetween limits (synced ++ front) s t
