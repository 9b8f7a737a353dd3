-- The service over the files of a folder did what its contract says, by what the service of streams
-- did and the journal that was saved.
use Rattle.std.proofs.Common.{◌≡◌, ℕ, Bool, true, false, List, [], ◌∷◌, Option, Some, None}
use Rattle.std.proofs.Common.{Result, Ok, Err, IfSome, is_some, option_map, ap, refl, sym, subst}
use Rattle.std.proofs.Common.{inl, inr, ◌∙◌, if◌then◌else◌, bytes_eq, unwrap_or}
use Rattle.std.specs.Option.{option_map_or}
use Rattle.std.proofs.lemmas.Option.{same_Some}
use Rattle.osn_core.specs.Sequential.{ObjectState}
use Rattle.osn_register.specs.declared.limits.Limits.{Limits}
use Rattle.osn_files.specs.JournalText.{journal_text}
use Rattle.osn_folder.specs.Crash.{LeavesAllSafe}
use Rattle.osn_folder.specs.Folder.{FolderModel, Changes, IsFileIf, IsOneOf, IsOpenFailure}
use Rattle.osn_folder.specs.Folder.{first_missed}
use Rattle.osn_folder.specs.declared.fault.OpenFailed.{OpenFailed}
use Rattle.osn_report.specs.Failure.{IsNotRead}
use Rattle.osn_folder.specs.Folder.{IsFileOf, MayFail, Opens, path_if}
use Rattle.osn_lines.specs.Streams.{Input, Output, output_of}
use Rattle.osn_lines.specs.Whole.{WhyNotRead}
use Rattle.osn_lines.specs.declared.fault.EndedEarly.{EndedEarly}
use Rattle.osn_lines.specs.declared.whole.ReadAllFault.{ReadAllFault}
use Rattle.osn_lines.specs.declared.whole.ReadAllFault.TheVariants as read_faults
use Rattle.osn_service.specs.declared.fault.ServiceFault.{ServiceFault}
use Rattle.osn_service.specs.declared.fault.ServiceFault.TheVariants.{Serve, NotKept}
use Rattle.osn_service.specs.declared.rules.ServeRules.{ServeRules}
use Rattle.osn_service.specs.declared.service.Served.{Served}
use Rattle.osn_report.specs.Fault.{by_read}
use Rattle.osn_report.specs.Folders.{Folders}
use Rattle.osn_report.specs.Printing.{PrintsNoneAt}
use Rattle.osn_report.specs.Messages.{Ends, EndsBy, Reports, ReportsAt, ReportsNothing}
use Rattle.osn_report.specs.declared.fault.CommandFault.{CommandFault}
use Rattle.osn_report.specs.declared.fault.CommandFault.TheVariants.{File, NoMemory, RefusedLine}
use Rattle.osn_report.specs.declared.fault.CommandFault.TheVariants.{ReadFault, Service}
use Rattle.osn_report.specs.declared.status.Status.{Status}
use Rattle.osn_serve_commands.specs.InFolder.{CanFailIf, EndsSaving, EndsServing, IsNotReadWhole}
use Rattle.osn_serve_commands.specs.InFolder.{RunsService, SavesOverFound, replaced_path}
use Rattle.osn_serve_commands.specs.Save.{FinishesSave, LocksIf}
use Rattle.osn_serve_commands.specs.SaveInside.{ReplacesRead}
use Rattle.osn_serve_commands.specs.Serve.{EndsServed, LeavesJournal, Serves, input_if}

-- how the service ended, in other words of what came of that
module _ {F : Type 0} (e f : Output) (was is : Status) (Done Did Rest Rested : Type 0)
    (Lost : F → Type 0) (done : Done → Did) (rest : Rest → Rested)
    (message : Rest → (fault : CommandFault) → Reports e fault was → Reports f fault is) where
  by_served : (refused : Bool) (n : ℕ)
      → EndsServed {F = F} (Ok (record { lines = n; refused = refused })) e was Done Rest Lost
      → EndsServed {F = F} (Ok (record { lines = n; refused = refused })) f is Did Rested Lost
  by_served false n h = done h
  by_served true n h = (rest h.0, message h.0 (RefusedLine n) h.1)

  by_cause : (n : ℕ) (cause : ServiceFault F)
      → EndsServed {F = F} (Err (record { lines = n; cause = cause })) e was Done Rest Lost
      → EndsServed {F = F} (Err (record { lines = n; cause = cause })) f is Did Rested Lost
  by_cause n (Serve why) h = (rest h.0, message h.0 (Service why) h.1)
  by_cause n (NotKept why) h = h

  pub ended_so : (result : Result Served (EndedEarly (ServiceFault F)))
      → EndsServed result e was Done Rest Lost → EndsServed result f is Did Rested Lost
  ended_so (Ok served) h = by_served served.refused served.lines h
  ended_so (Err end) h = by_cause end.lines end.cause h

-- ---- how a run of the service ended, after the journal that was saved or not

-- if nothing more was written, it ended as before
as_before : {E : Type 0} (contents : E → Option (List ℕ)) (has_failed holds_back : E → Bool)
    (old mid new : E) (was is : Status) (Printed : Output → Status → Type 0) → is ≡ was → new ≡ mid
    → Printed (output_of contents has_failed holds_back old mid) was
    → Printed (output_of contents has_failed holds_back old new) is
as_before contents has_failed holds_back old mid new was is Printed e same h =
    subst (λ s. Printed (output_of contents has_failed holds_back old new) s) (sym e)
    (subst (λ x. Printed (output_of contents has_failed holds_back old x) was) (sym same) h)

-- no journal in one form, no journal in another
none_left : {A B : Type 0} (f : A → B) (journal : Option A) → option_map f journal ≡ None
    → journal ≡ None
none_left f None h = refl
none_left f (Some x) h = absurd (cc)

module _ {E D J P : Type 0} (contents : E → Option (List ℕ)) (has_failed holds_back : E → Bool)
    (known : D → Option FolderModel) (bytes : J → List ℕ) (now : P → List ℕ)
    (loaded_bytes : Option (List ℕ)) (beside : Bool) (old mid new : E) (opened after : D)
    (was is : Status) where
  -- the messages before anything was saved, and all messages
  abbrev before : Output
  before = output_of contents has_failed holds_back old mid

  abbrev in_all : Output
  in_all = output_of contents has_failed holds_back old new

  -- nothing was done if no journal is left
  abbrev Unsaved : Option J → Type 0
  Unsaved journal = journal ≡ None → (is ≡ was) × (new ≡ mid) × (after ≡ opened)

  -- what is done with a journal that is left, and a path
  abbrev SavesOne : P → J → Type 0
  SavesOne path text =
      FinishesSave beside loaded_bytes (now path) (bytes text) (known opened) (known after)
      (output_of contents has_failed holds_back mid new) is

  abbrev SavesBoth : Option P → Option J → Type 0
  SavesBoth save journal = IfSome save (λ path. IfSome journal (SavesOne path))

  -- output before that is empty does not count
  reports_in_all : (Printed : Output → Type 0) → ReportsNothing before
      → Printed (output_of contents has_failed holds_back mid new) → Printed in_all
  reports_in_all Printed same message =
      subst (λ c. Printed (record {
        old = c;
        new = contents new;
        unwritten_before = has_failed old;
        unwritten = has_failed new;
        holds_back = holds_back new;
      })) same.0
      (subst (λ b. Printed (record {
        old = contents mid;
        new = contents new;
        unwritten_before = b;
        unwritten = has_failed new;
        holds_back = holds_back new;
      })) same.1 message)

  -- a journal that is left was saved
  one_saved : (t : ObjectState) (path : P) (text : J)
      → bytes text ≡ journal_text t → Ends before None was → SavesOne path text
      → EndsSaving (Some (now path)) loaded_bytes beside t (known opened) (known after) in_all is
  one_saved t path text same h saved =
      inr (reports_in_all (λ e. FinishesSave beside loaded_bytes (now path) (journal_text t)
      (known opened) (known after) e is) h.1
      (subst (λ l. FinishesSave beside loaded_bytes (now path) l (known opened) (known after)
      (output_of contents has_failed holds_back mid new) is) same saved))

  -- of an object all of whose lines were answered
  left_saved : (t : ObjectState) (save : Option P) (journal : Option J)
      → LeavesJournal (is_some save) t (option_map bytes journal) before was
      → Unsaved journal → SavesBoth save journal
      → EndsSaving (option_map now save) loaded_bytes beside t (known opened) (known after) in_all
      is
  left_saved t None journal (inl left) unsaved saved =
      let same = unsaved (none_left bytes journal left.0) in (
        ap known same.2,
        as_before contents has_failed holds_back old mid new was is (λ e status. Ends e None status)
            same.0 same.1 left.1,
      )
  left_saved t None journal (inr memory) unsaved saved = absurd (cc)
  left_saved t (Some path) (Some text) (inl left) unsaved saved =
      one_saved t path text (same_Some _ _ left.0) left.1 saved
  left_saved t (Some path) None (inl left) unsaved saved = absurd (cc)
  left_saved t (Some path) journal (inr memory) unsaved saved =
      let same = unsaved (none_left bytes journal memory.1) in
      inl (
        ap known same.2,
        as_before contents has_failed holds_back old mid new was is (λ e status. EndsBy e NoMemory
            status) same.0 same.1 memory.2,
      )

  -- the service ended so, and what it left was saved
  pub served_and_saved : (limits : Limits) (path : List ℕ) (rules : ServeRules)
      (initial : Option Input)
      (saves : Bool) (i : Input) (o : Output) (save : Option P) (journal : Option J)
      (editions : ℕ)
      → saves ≡ is_some save
      → Serves limits path rules initial saves i o before (option_map bytes journal) editions was
      → Unsaved journal → SavesBoth save journal
      → EndsServing limits path (option_map now save) rules initial loaded_bytes beside
      (known opened)
      (known after) i o in_all is
  served_and_saved limits path rules initial saves i o save journal editions by (inl none) unsaved
      saved =
      let same = unsaved (none_left bytes journal none.2) in
      inl (
        none.0,
        none.1,
        ap known same.2,
        as_before contents has_failed holds_back old mid new was is (λ e status. PrintsNoneAt
            path (File none.0) o e status) same.0 same.1 none.4,
      )
  served_and_saved limits path rules initial saves i o save journal editions by
      (inr (s, begins, lines)) unsaved saved =
      inr (record {
        first = s;
        last = lines.object;
        result = lines.result;
        begins = begins;
        serves = lines.serves;
        ended =
            ended_so before in_all was is _ _ _ _ (λ never. ⊥)
            (λ left. left_saved lines.object save journal
            (subst (λ b. LeavesJournal b lines.object (option_map bytes journal) before was) by
            left) unsaved saved)
            (λ none. ap known (unsaved (none_left bytes journal none)).2)
            (λ none fault message.
            let same = unsaved (none_left bytes journal none) in
            as_before contents has_failed holds_back old mid new was is
            (λ e status. Reports e fault status) same.0 same.1 message)
            lines.result lines.ended;
      })

-- a file that could not be opened once another was locked
one_of : (at : List ℕ → Option (List ℕ)) (paths : List (List ℕ)) (path : List ℕ)
    → first_missed at paths ≡ Some path → IsOneOf paths path
one_of at [] path is = absurd (cc)
one_of at (first ∷ paths) path is = by (is_some (at first)) is (one_of at paths path)
  where
    by : (there : Bool) → (if there then first_missed at paths else Some first) ≡ Some path
        → (first_missed at paths ≡ Some path → IsOneOf paths path) → IsOneOf (first ∷ paths) path
    by true h rest = inr (rest h)
    by false h rest = inl (sym (same_Some _ _ h))

missed_first : (save : Option (List ℕ)) (paths : List (List ℕ)) (path : List ℕ)
    (cause : OpenFailed) (old locked new : Option FolderModel) → LocksIf save old locked
    → IsOpenFailure paths path cause locked new → IsOpenFailure paths path cause old new
missed_first None paths path cause old locked new same h =
    subst (λ k. IsOpenFailure paths path cause k new) same h
missed_first (Some save) paths path cause None None new lock h = h
missed_first (Some save) paths path cause None (Some m) new lock h =
    ((h.0.0, tt), one_of m.at paths path h.1, tt)
missed_first (Some save) paths path cause (Some k) None new lock h = absurd lock
missed_first (Some save) paths path cause (Some k) (Some m) new lock h =
    subst (λ n. IsOpenFailure paths path cause (Some n) new) lock.0 h

pub not_opened : (save : Option (List ℕ)) (paths : List (List ℕ)) (path named : List ℕ)
    (fault : CommandFault) (cause : OpenFailed) (old locked new : Option FolderModel)
    → LocksIf save old locked → (path ≡ named) × (fault ≡ ReadFault cause)
    → IsOpenFailure paths named cause locked new
    → IsNotRead paths (record { before = old; after = new }) path fault
not_opened save paths path named fault cause old locked new lock is h = (
  cause,
  is.1,
  missed_first save paths path cause old locked new lock
      (subst (λ p. IsOpenFailure paths p cause locked new) (sym is.0) h),
)

-- ---- over the files of a folder

-- for a file that may be there, a read failed only if one of its kind can
pub may_fail_if : {S : Type 0} (remaining : S → Option (List ℕ)) (has_failed : S → Bool)
    (old new : Option S) → CanFailIf (MayFail has_failed) (input_if remaining has_failed old new)
may_fail_if remaining has_failed None new = tt
may_fail_if remaining has_failed (Some old) None = λ e. absurd (cc)
may_fail_if remaining has_failed (Some old) (Some new) = λ e. (new, e)

-- what it will give
pub given_if : {S : Type 0} (remaining : S → Option (List ℕ)) (has_failed : S → Bool)
    (known : Option FolderModel) (path : Option (List ℕ)) (old new : Option S)
    → IsFileIf known path (option_map remaining old)
    → IsFileIf known path
    (option_map (λ journal. journal.bytes) (input_if remaining has_failed old new))
given_if remaining has_failed known path None new h = h
given_if remaining has_failed known path (Some old) new h = h

-- the path that is replaced is that of the journal
of_journal : (journal save path : List ℕ)
    → (if bytes_eq journal save then Some journal else None) ≡ Some path → journal ≡ path
of_journal journal save path h = by (bytes_eq journal save) h
  where
    by : (same : Bool) → (if same then Some journal else None) ≡ Some path → journal ≡ path
    by true h = same_Some _ _ h
    by false h = absurd (cc)

replaces_journal : (journal save : Option (List ℕ)) (path : List ℕ)
    → replaced_path journal save ≡ Some path → journal ≡ Some path
replaces_journal None save path h = absurd (cc)
replaces_journal (Some journal) None path h = absurd (cc)
replaces_journal (Some journal) (Some save) path h = ap Some (of_journal journal save path h)

-- the journal that is replaced could not be opened once it was locked
pub replaced_open_failure : (journal save lock : Option (List ℕ)) (replaced path named : List ℕ)
    (fault : CommandFault) (cause : OpenFailed) (old locked new : Option FolderModel)
    → replaced_path journal save ≡ Some replaced → LocksIf lock old locked
    → (path ≡ named) × (fault ≡ ReadFault cause)
    → IsOpenFailure (replaced ∷ []) named cause locked new
    → IsNotRead (path_if journal) (record { before = old; after = new }) path fault
replaced_open_failure journal save lock replaced path named fault cause old locked new by content is
    h = subst (λ j. IsNotRead (path_if j) (record { before = old; after = new }) path fault)
    (sym (replaces_journal journal save replaced by))
    (not_opened lock (replaced ∷ []) path named fault cause old locked new content is h)

-- bytes that are known must be unchanged
same_content : (bytes : Option (List ℕ)) (content : List ℕ) → bytes ≡ Some content
    → IfSome bytes (λ input. Some content ≡ Some input)
same_content None content is = tt
same_content (Some input) content is = sym is

-- the bytes that were read whole are those of the file
pub read_whole : (known : Option FolderModel) (path content : List ℕ) (bytes initial : Option
    (List ℕ))
    → IsFileOf known path bytes → IfSome bytes (λ input. content ≡ input) → initial ≡ Some content
    → IsFileOf known path initial
read_whole None path content bytes initial is read same = tt
read_whole (Some k) path content None initial is read same = absurd (cc)
read_whole (Some k) path content (Some input) initial is read same = (
  same ∙ ap Some read ∙ is.0,
  ap is_some same,
)

module _ (limits : Limits) (journal save : Option (List ℕ)) (rules : ServeRules)
    (CanFail : Bool → Type 0) (d : Folders) (i : Input) (o e : Output) (status : Status)
    (opened : Option FolderModel) where
  -- the service was run, and no file is replaced
  pub service_ran : (initial : Option Input) → replaced_path journal save ≡ None
      → IsFileIf d.before journal (option_map (λ journal. journal.bytes) initial)
      → CanFailIf CanFail initial → Changes (Opens (path_if journal)) d.before opened
      → Changes LeavesAllSafe d.before opened
      → SavesOverFound limits (unwrap_or journal []) save rules initial opened d.after i o e status
      → RunsService limits journal save rules CanFail d i o e status
  service_ran initial none file fails opens crash h = record {
    initial = initial;
    opened = opened;
    file = file;
    fails = fails;
    opens = opens;
    crash = crash;
    ended = rw none h;
  }

  -- the service was run, and the file that it began with is replaced
  module _ (path : List ℕ) (locked : Option (List ℕ)) (at : path ≡ unwrap_or journal [])
      (named : locked ≡ save) where
    reports_at : (fault : CommandFault) → ReportsAt path e fault status
        → ReportsAt (unwrap_or journal []) e fault status
    reports_at fault h = subst (λ p. ReportsAt p e fault status) at h

    served_at : (initial : Input) (content : List ℕ)
        → EndsServing limits path locked rules (Some initial) (Some content) false opened d.after i
        o e
        status
        → EndsServing limits (unwrap_or journal []) save rules (Some initial) (Some content) false
        opened
        d.after i o e status
    served_at initial content h =
        subst (λ p. EndsServing limits p save rules (Some initial) (Some content) false opened
        d.after i
        o e status) at
        (subst (λ s. EndsServing limits path s rules (Some initial) (Some content) false opened
        d.after i
        o e status) named h)

    pub replacing_ran : (replaced : List ℕ) (file : Input)
        → replaced_path journal save ≡ Some replaced → IsFileOf d.before replaced file.bytes
        → CanFail file.unread → CanFail false
        → Changes (Opens (replaced ∷ [])) d.before opened → Changes LeavesAllSafe d.before opened
        → ReplacesRead limits path locked rules file opened d.after i o e status
        → RunsService limits journal save rules CanFail d i o e status
    replacing_ran replaced file is given_file fails sound opens crash (inl none) =
        let journal_is = replaces_journal journal save replaced is in record {
          initial = Some file;
          opened = opened;
          file = rw journal_is (file.bytes, refl, given_file);
          fails = fails;
          opens = rw journal_is opens;
          crash = crash;
          ended = rw is (inl (none.0, none.1, none.2, (none.3.0, reports_at none.0 none.3.1)));
        }
    replacing_ran replaced file is given_file fails sound opens crash
        (inr (content, initial, whole, h)) =
        let journal_is = replaces_journal journal save replaced is in record {
          initial = Some initial;
          opened = opened;
          file = rw journal_is (
            initial.bytes,
            refl,
            read_whole d.before replaced content file.bytes initial.bytes given_file whole.read
                whole.bytes,
          );
          fails = subst CanFail (sym whole.sound) sound;
          opens = rw journal_is opens;
          crash = crash;
          ended = rw is (inr (
            Some content,
            same_content initial.bytes content whole.bytes,
            served_at initial content h,
          ));
        }

-- a journal was not read whole
pub not_read_whole : (why : ReadAllFault) (fault : CommandFault) (journal : Input)
    → fault ≡ by_read why → WhyNotRead why journal.unread_before journal.unread journal.bytes
    → IsNotReadWhole journal fault
not_read_whole read_faults.NoMemory fault journal is h = inl is
not_read_whole read_faults.ReadFault fault journal is h = inr (is, h)

-- bytes in memory never fail
pub never_failed : {S : Type 0} (source : Option S) → option_map_or (λ _. false) source false ≡
    false
never_failed None = refl
never_failed (Some source) = refl
