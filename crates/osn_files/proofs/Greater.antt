-- A journal that limits load, greater ones load as the same object.
use Rattle.std.proofs.Common.{◌≡◌, ℕ, ◌+◌, ◌==◌, cond, nat_lt, List, [], ◌∷◌, ◌++◌, length, take}
use Rattle.std.proofs.Common.{drop, Option, Some, None, Result, Ok, Err, refl, sym, ap, subst}
use Rattle.std.proofs.Common.{◌∙◌, append-nil, append_assoc}
use Rattle.std.proofs.lemmas.List.{take-append-drop}
use Rattle.osn_days.specs.Rules.{Rules, newest_rules}
use Rattle.osn_register.specs.declared.edit.Edit.{Edit}
use Rattle.osn_register.specs.declared.limits.Limits.{Limits}
use Rattle.osn_register.specs.declared.refusal.Refusal.{Refusal}
use Rattle.osn_register.specs.declared.refusal.Refusal.TheVariants.{NothingPending, JournalFull}
use Rattle.osn_register.specs.declared.refusal.Refusal.TheVariants.{EditionsFull}
use Rattle.osn_register.specs.Lawful.{AreLawful}
use Rattle.osn_register.specs.Plain.{EntryModel, refusal, after_edits}
use Rattle.osn_register.specs.Refusal.{or_else}
use Rattle.osn_core.specs.declared.command.Command.{Command}
use Rattle.osn_core.specs.declared.command.Command.TheVariants.{Stage, Publish}
use Rattle.osn_core.specs.Sequential.{ObjectState, empty_object, joined, edits_in}
use Rattle.osn_core.specs.Sequential.{stage_refusal, publish_refusal, with_pending, with_edition}
use Rattle.osn_core.proofs.Batches.{joined-push}
use Rattle.osn_core.proofs.Lawful.{AreLawful-push, AreLawful-front}
use Rattle.osn_request.specs.declared.wire_fault.WireFault.{WireFault}
use Rattle.osn_request.specs.declared.version.Version.{Version}
use Rattle.osn_request.specs.Request.{object_of}
use Rattle.osn_files.specs.declared.fault.LineFault.{LineFault}
use Rattle.osn_files.specs.Commands.{command_in}
use Rattle.osn_files.specs.GreaterLimits.{AreGreater, MakeSameTerritories, LoadsUnderGreater}
use Rattle.osn_files.specs.GreaterLimits.{with_limits}
use Rattle.osn_files.specs.Journal.{unless_refused, after_command, after_object, load}
use Rattle.osn_files.specs.Turns.{on_read, go_on, in_turn}
use Rattle.osn_files.specs.Version.{version_of}
use Rattle.osn_files.proofs.CommandFacts.{next_test, both_none}
use Rattle.osn_files.proofs.GreaterFacts.{room_passes, refusal_under, territories_under}

abbrev edits_of : ObjectState → List Edit
edits_of s = joined s.batches ++ s.pending

-- the edits of batches and then of others
joined-both : (bs cs : List (List Edit)) → joined (bs ++ cs) ≡ joined bs ++ joined cs
joined-both [] cs = refl
joined-both (b ∷ bs) cs =
    ap (λ es. b ++ es) (joined-both bs cs) ∙ sym (append_assoc b (joined bs) (joined cs))

-- the edits of an edition come first
edition_first : (s : ObjectState) (edition : ℕ)
    → edits_of s ≡ joined (take edition s.batches) ++ (joined (drop edition s.batches) ++ s.pending)
edition_first s edition =
    let front = take edition s.batches in
    let rest = drop edition s.batches in
    ap (λ bs. joined bs ++ s.pending) (sym (take-append-drop edition s.batches))
    ∙ (ap (λ es. es ++ s.pending) (joined-both front rest)
    ∙ append_assoc (joined front) (joined rest) s.pending)

module _ (p : Rules) {limits greater : Limits} (more : AreGreater limits greater) where
  -- an object under these limits, and under the greater ones
  abbrev smaller : ObjectState → ObjectState
  smaller s = with_limits s limits

  abbrev larger : ObjectState → ObjectState
  larger s = with_limits s greater

  -- its edits are lawful in turn
  abbrev IsLawful : ObjectState → Type 0
  IsLawful s = AreLawful p limits [] (edits_of s)

  -- the object that is made under limits, and under greater ones, is the same except its limits
  record IsSameUnderBoth {F : Type 0} (r q : Result ObjectState F) : Type 0 where
    now : ObjectState
    is : r ≡ Ok (smaller now)
    also : q ≡ Ok (larger now)
    lawful : IsLawful now

  -- what is not refused
  not_refused : (r q : Option Refusal) (new made : ObjectState) → (r ≡ None → q ≡ None)
      → (r ≡ None → IsLawful new) → unless_refused r (smaller new) ≡ Ok made
      → IsSameUnderBoth (unless_refused r (smaller new)) (unless_refused q (larger new))
  not_refused None q new made passes lawful h = record {
    now = new;
    is = refl;
    also = ap (λ x. unless_refused x (larger new)) (passes refl);
    lawful = lawful refl;
  }
  not_refused (Some f) q new made passes lawful h = absurd (cc)

  abbrev draft : Limits → ObjectState → List EntryModel
  draft l s = after_edits p l [] (edits_of s)

  stage_passes : (s : ObjectState) (e : Edit) → IsLawful s
      → stage_refusal p (smaller s) e ≡ None → stage_refusal p (larger s) e ≡ None
  stage_passes s e lawful h =
      let parts = both_none (refusal p limits (draft limits s) e) _ h in
      let none : refusal p greater (draft greater s) e ≡ None =
      subst (λ territories. refusal p greater territories e ≡ None)
      (territories_under p more [] (edits_of s) lawful)
      (refusal_under p more (draft limits s) e parts.0) in
      ap (λ r. or_else r (cond (nat_lt (edits_in s) greater.edits) None (Some JournalFull))) none
      ∙ room_passes limits.edits greater.edits (edits_in s) JournalFull more.edits parts.1

  staged_lawful : (s : ObjectState) (e : Edit) → IsLawful s
      → stage_refusal p (smaller s) e ≡ None → IsLawful (with_pending s e)
  staged_lawful s e lawful h =
      let parts = both_none (refusal p limits (draft limits s) e) _ h in
      subst (AreLawful p limits []) (append_assoc (joined s.batches) s.pending (e ∷ []))
      (AreLawful-push p limits [] (edits_of s) e lawful parts.0)

  publish_passes : (s : ObjectState) → publish_refusal (smaller s) ≡ None
      → publish_refusal (larger s) ≡ None
  publish_passes s h =
      let parts = next_test (length s.pending == 0) NothingPending _ h in
      ap (λ b. cond b (Some NothingPending)
      (cond (nat_lt (length s.batches) greater.editions) None (Some EditionsFull))) parts.0
      ∙ room_passes limits.editions greater.editions (length s.batches) EditionsFull more.editions
      parts.1

  published_lawful : (s : ObjectState) → IsLawful s → IsLawful (with_edition s)
  published_lawful s lawful =
      subst (AreLawful p limits []) (sym (append-nil _ ∙ joined-push s.batches s.pending)) lawful

  command_under : (s made : ObjectState) (c : Command) → IsLawful s
      → after_command p (smaller s) c ≡ Ok made
      → IsSameUnderBoth (after_command p (smaller s) c) (after_command p (larger s) c)
  command_under s made (Stage e) lawful h =
      not_refused (stage_refusal p (smaller s) e) (stage_refusal p (larger s) e)
      (with_pending s e) made (stage_passes s e lawful) (staged_lawful s e lawful) h
  command_under s made Publish lawful h =
      not_refused (publish_refusal (smaller s)) (publish_refusal (larger s))
      (with_edition s) made (publish_passes s) (λ none. published_lawful s lawful) h

  -- the object that is made of a reading's result
  read_under : {A : Type 0} (r : Result A WireFault) (make also : A → Result ObjectState LineFault)
      (made : ObjectState) → ((a : A) → make a ≡ Ok made → IsSameUnderBoth (make a) (also a))
      → on_read r make ≡ Ok made → IsSameUnderBoth (on_read r make) (on_read r also)
  read_under (Ok a) make also made each h = each a h
  read_under (Err f) make also made each h = absurd (cc)

  line_under : (version : Version) (s made : ObjectState) (line : List ℕ) → IsLawful s
      → on_read (object_of line) (after_object p version (smaller s)) ≡ Ok made
      → IsSameUnderBoth (on_read (object_of line) (after_object p version (smaller s)))
      (on_read (object_of line) (after_object p version (larger s)))
  line_under version s made line lawful h =
      read_under (object_of line) (after_object p version (smaller s))
      (after_object p version (larger s)) made
      (λ d. read_under (command_in version d) (after_command p (smaller s))
      (after_command p (larger s)) made (λ c. command_under s made c lawful)) h

  -- the object of a line, and of the lines after it, is the same under both limits
  then_same : (n : ℕ) (r q : Result ObjectState LineFault)
      (next : ObjectState → Result ObjectState (ℕ × LineFault)) (s : ObjectState)
      → r ≡ Ok (smaller s) → q ≡ Ok (larger s)
      → IsSameUnderBoth (next (smaller s)) (next (larger s))
      → IsSameUnderBoth (go_on n r next) (go_on n q next)
  then_same n r q next s is also rest = record {
    now = rest.now;
    is = ap (λ x. go_on n x next) is ∙ rest.is;
    also = ap (λ x. go_on n x next) also ∙ rest.also;
    lawful = rest.lawful;
  }

  -- a line, and then those after it
  then_under : (n : ℕ) (r q : Result ObjectState LineFault)
      (next : ObjectState → Result ObjectState (ℕ × LineFault)) (made : ObjectState)
      → ((now : ObjectState) → r ≡ Ok now → IsSameUnderBoth r q)
      → ((now : ObjectState) → IsLawful now → next (smaller now) ≡ Ok made
      → IsSameUnderBoth (next (smaller now)) (next (larger now)))
      → go_on n r next ≡ Ok made → IsSameUnderBoth (go_on n r next) (go_on n q next)
  then_under n (Ok t) q next made first rest h =
      let one = first t refl in
      then_same n (Ok t) q next one.now one.is one.also
      (rest one.now one.lawful (ap (λ x. go_on n x next) (sym one.is) ∙ h))
  then_under n (Err f) q next made first rest h = absurd (cc)

  lines_under : (version : Version) (n : ℕ) (s made : ObjectState) (ls : List (List ℕ))
      → IsLawful s → in_turn (after_object p) n (Some version) (smaller s) ls ≡ Ok made
      → IsSameUnderBoth (in_turn (after_object p) n (Some version) (smaller s) ls)
      (in_turn (after_object p) n (Some version) (larger s) ls)
  lines_under version n s made [] lawful h =
      record { now = s; is = refl; also = refl; lawful = lawful }
  lines_under version n s made (l ∷ ls) lawful h =
      then_under n (on_read (object_of l) (after_object p version (smaller s)))
      (on_read (object_of l) (after_object p version (larger s)))
      (λ t. in_turn (after_object p) (n + 1) (Some version) t ls) made
      (λ now. line_under version s now l lawful)
      (λ now good. lines_under version (n + 1) now made ls good) h

  -- the object that is loaded after a head
  after_head : (r : Result Version LineFault) (made : ObjectState) (rest : List (List ℕ))
      → go_on 1 r (λ v. in_turn (after_object p) 2 (Some v) (empty_object limits) rest) ≡ Ok made
      → IsSameUnderBoth (go_on 1 r (λ v. in_turn (after_object p) 2 (Some v)
      (empty_object limits) rest))
      (go_on 1 r (λ v. in_turn (after_object p) 2 (Some v) (empty_object greater) rest))
  after_head (Ok version) made rest h = lines_under version 2 (empty_object limits) made rest tt h
  after_head (Err f) made rest h = absurd (cc)

  load_under : (ls : List (List ℕ)) (made : ObjectState) → load p limits ls ≡ Ok made
      → IsSameUnderBoth (load p limits ls) (load p greater ls)
  load_under [] made h = absurd (cc)
  load_under (head ∷ rest) made h = after_head (on_read (version_of head) Ok) made rest h

-- each edition has the same territories under both limits
same_edition : (limits greater : Limits) → AreGreater limits greater → (s : ObjectState)
    → AreLawful newest_rules limits [] (edits_of s) → (edition : ℕ)
    → MakeSameTerritories limits greater (joined (take edition s.batches))
same_edition limits greater more s lawful edition =
    let front = joined (take edition s.batches) in
    let rest = joined (drop edition s.batches) ++ s.pending in
    let all : AreLawful newest_rules limits [] (front ++ rest) =
    subst (AreLawful newest_rules limits []) (edition_first s edition) lawful in
    territories_under newest_rules more [] front
    (AreLawful-front newest_rules limits [] front rest all)

-- what limits load, greater ones load
pub loads_same : (limits : Limits) (ls : List (List ℕ)) → LoadsUnderGreater limits ls
unfolding LoadsUnderGreater
loads_same limits ls = λ greater more object is.
    let loaded = load_under newest_rules more ls object is in
    let same : object ≡ with_limits loaded.now limits = cc in (
      loaded.also ∙ ap (λ t. Ok (with_limits t greater)) (sym same),
      λ edition. subst (λ t. MakeSameTerritories limits greater (joined (take edition t.batches)))
          (sym same) (same_edition limits greater more loaded.now loaded.lawful edition),
      subst (λ t. MakeSameTerritories limits greater (edits_of t)) (sym same)
          (territories_under newest_rules more [] (edits_of loaded.now) loaded.lawful),
    )
