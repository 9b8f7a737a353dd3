-- A text was saved in the place of a file that is left beside it, by what each step did.
use Rattle.std.proofs.Common.{◌≡◌, ◌≢◌, ◌∙◌, ℕ, List, Option, Some, None, false, sym, subst, inr}
use Rattle.osn_folder.specs.Folder.{FolderModel, Paths, Changes, CannotSaveAt, IsPlaceOf, SavesAt}
use Rattle.osn_folder.specs.Crash.{BacksUpSafely, CannotSaveBeside, CannotSaveBesideAt, GivesUp}
use Rattle.osn_folder.specs.Crash.{IsSafelyLeftAt, IsSafelySavedAt, OthersOfFileStaySure}
use Rattle.osn_folder.specs.Crash.{SavesBeside, SavesBesideAt, StaysSure}
use Rattle.osn_folder.specs.declared.fault.SaveFault.{SaveFault}

-- the old file stays at the other path
stays_sure : (place backup : List ℕ) (k m n : FolderModel) → BacksUpSafely place backup k m
    → OthersOfFileStaySure place m n → k.paths.is_stream place ≡ false → k.at place ≢ None
    → StaysSure backup m n
stays_sure place backup k m n backs others file there =
    others (subst (λ (p : Paths). p.is_stream place ≡ false) (sym backs.0.2.0.1) file) backup
    backs.0.0 (λ none. there (sym backs.0.2.1 ∙ none))

-- the text was saved
pub saved_beside : (path place one two backup text : List ℕ) (k p m n : Option FolderModel)
    → one ≡ place → two ≡ place → Changes (IsPlaceOf path place) k p
    → Changes (BacksUpSafely one backup) p m → Changes (SavesAt two None text) m n
    → Changes (IsSafelySavedAt two text) m n → Changes (OthersOfFileStaySure two) m n
    → Changes (SavesBeside path backup text) k n
saved_beside path place one two backup text None p m n e f found backs saves crash others = tt
saved_beside path place one two backup text (Some k) None m n e f found backs saves crash others =
    absurd found
saved_beside path place one two backup text (Some k) (Some p) None n e f found backs saves crash
    others = absurd backs
saved_beside path place one two backup text (Some k) (Some p) (Some m) None e f found backs saves
    crash others = absurd saves
saved_beside path place one two backup text (Some k) (Some p) (Some m) (Some n) e f found backs
    saves crash others =
    let first : BacksUpSafely place backup k m =
    subst (λ x. BacksUpSafely x backup k m) e
    (subst (λ j. BacksUpSafely one backup j m) found.0 backs) in
    subst (λ x. SavesBesideAt x backup text k n) found.1 (record {
      session_state = m;
      backs_up = first;
      saves = subst (λ x. SavesAt x None text m n) f saves;
      crash = subst (λ x. IsSafelySavedAt x text m n) f crash;
      stays = stays_sure place backup k m n first
          (subst (λ x. OthersOfFileStaySure x m n) f others);
    })

-- the text was not saved, by this fault
pub left_beside : (path place one two backup given text : List ℕ) (fault : SaveFault)
    (k p m a n : Option FolderModel)
    → one ≡ place → two ≡ place → given ≡ backup → Changes (IsPlaceOf path place) k p
    → Changes (BacksUpSafely one backup) p m → Changes (CannotSaveAt two None text fault) m a
    → Changes (IsSafelyLeftAt two text fault) m a → Changes (OthersOfFileStaySure two) m a
    → Changes (GivesUp given fault) a n → Changes (CannotSaveBeside path text fault) k n
left_beside path place one two backup given text fault None p m a n e f h found backs fails crash
    others ended = tt
left_beside path place one two backup given text fault (Some k) None m a n e f h found backs fails
    crash others ended = absurd found
left_beside path place one two backup given text fault (Some k) (Some p) None a n e f h found backs
    fails crash others ended = absurd backs
left_beside path place one two backup given text fault (Some k) (Some p) (Some m) None n e f h found
    backs fails crash others ended = absurd fails
left_beside path place one two backup given text fault (Some k) (Some p) (Some m) (Some a) None e f
    h found backs fails crash others ended = absurd ended
left_beside path place one two backup given text fault (Some k) (Some p) (Some m) (Some a) (Some n)
    e f h found backs fails crash others ended =
    let first : BacksUpSafely place backup k m =
    subst (λ x. BacksUpSafely x backup k m) e
    (subst (λ j. BacksUpSafely one backup j m) found.0 backs) in
    subst (λ x. CannotSaveBesideAt x text fault k n) found.1 (inr (record {
      backup = backup;
      session_state = m;
      after = a;
      backs_up = first;
      fails = subst (λ x. CannotSaveAt x None text fault m a) f fails;
      crash = subst (λ x. IsSafelyLeftAt x text fault m a) f crash;
      stays = stays_sure place backup k m a first
          (subst (λ x. OthersOfFileStaySure x m a) f others);
      ended = subst (λ x. GivesUp x fault a n) h ended;
    }))
