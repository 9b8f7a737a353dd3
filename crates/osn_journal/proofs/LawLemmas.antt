-- A journal that grows keeps its editions, and so does what a crash leaves of it.
use Rattle.std.proofs.Common.{◌≡◌, ◌∙◌, ◌+◌, ℕ, List, [], ◌∷◌, ◌++◌, Some, None, Option, Result, Ok}
use Rattle.std.proofs.Common.{Err}
use Rattle.std.proofs.Common.{refl, sym, ap, subst, append-nil, append_assoc}
use Rattle.serde_json.specs.Data.{Data}
use Rattle.osn_days.specs.Rules.{newest_rules}
use Rattle.osn_core.specs.declared.command.Command.{Command}
use Rattle.osn_core.specs.declared.command.Command.TheVariants.{Stage, Publish}
use Rattle.osn_core.specs.Sequential.{ObjectState, empty_object, with_pending, with_edition}
use Rattle.osn_core.specs.Sequential.{stage_refusal, publish_refusal}
use Rattle.osn_register.specs.declared.limits.Limits.{Limits}
use Rattle.osn_register.specs.declared.refusal.Refusal.{Refusal}
use Rattle.osn_lines.specs.Lines.{lines}
use Rattle.osn_request.specs.declared.version.Version.{Version}
use Rattle.osn_request.specs.declared.wire_fault.WireFault.{WireFault}
use Rattle.osn_request.specs.Request.{object_of}
use Rattle.osn_files.specs.Commands.{command_in}
use Rattle.osn_files.specs.Journal.{after_command, after_object, unless_refused}
use Rattle.osn_files.specs.Turns.{on_read, go_on, in_turn}
use Rattle.osn_files.specs.Version.{version_of}
use Rattle.osn_files.specs.declared.fault.LineFault.{LineFault}
use Rattle.osn_folder.specs.FollowedFile.{IsOfWholeLines}
use Rattle.osn_journal.specs.FollowerLaw.{BeginsWith, DoEditionsNeverFall, DoSyncedEditionsStay}
use Rattle.osn_journal.specs.Outcomes as specs
use Rattle.osn_journal.proofs.FollowedJournalLemmas.{goes, goes_on_from, lines-whole, whole-append}

same : (s : ObjectState) → BeginsWith s s
same s = record { later = []; batches = sym (append-nil s.batches) }

then : (s t u : ObjectState) → BeginsWith s t → BeginsWith t u → BeginsWith s u
then s t u h k = record {
  later = h.later ++ k.later;
  batches =
      k.batches
      ∙ (ap (λ l. l ++ k.later) h.batches ∙ append_assoc s.batches h.later k.later);
}

-- a result that begins with an object, if it is one
abbrev AllBegin : ObjectState → Result ObjectState LineFault → Type 0
AllBegin s (Ok t) = BeginsWith s t
AllBegin s (Err f) = Unit {0}

by_refusal : (s t : ObjectState) (r : Option Refusal) → BeginsWith s t
    → AllBegin s (unless_refused r t)
by_refusal s t None h = h
by_refusal s t (Some f) h = tt

by_command : (s : ObjectState) (command : Command) → AllBegin s
    (after_command newest_rules s command)
by_command s (Stage e) =
    by_refusal s (with_pending s e) (stage_refusal newest_rules s e)
    (record { later = []; batches = sym (append-nil s.batches) })
by_command s Publish =
    by_refusal s (with_edition s) (publish_refusal s)
    (record { later = s.pending ∷ []; batches = refl })

by_read : (s : ObjectState) (r : Result Command WireFault)
    → AllBegin s (on_read r (after_command newest_rules s))
by_read s (Ok command) = by_command s command
by_read s (Err f) = tt

by_line : (version : Version) (s : ObjectState) (r : Result Data WireFault)
    → AllBegin s (on_read r (after_object newest_rules version s))
by_line version s (Ok d) = by_read s (command_in version d)
by_line version s (Err f) = tt

-- more lines keep the batches
by_lines : (n : ℕ) (version : Version) (s t : ObjectState) (ls : List (List ℕ))
    → in_turn (after_object newest_rules) n (Some version) s ls ≡ Ok t → BeginsWith s t
by_lines n version s t [] h =
    let is : s ≡ t = cc in
    subst (BeginsWith s) is (same s)
by_lines n version s t (l ∷ ls) h =
    line_first (on_read (object_of l) (after_object newest_rules version s))
    (by_line version s (object_of l)) (λ u k. by_lines (n + 1) version u t ls k) h
  where
    line_first : (r : Result ObjectState LineFault) → AllBegin s r
        → ((u : ObjectState)
        → in_turn (after_object newest_rules) (n + 1) (Some version) u ls ≡ Ok t → BeginsWith u t)
        → go_on n r (λ u. in_turn (after_object newest_rules) (n + 1) (Some version) u ls) ≡ Ok t
        → BeginsWith s t
    line_first (Ok u) first more h = then s u t first (more u h)
    line_first (Err f) first more h = absurd (cc)

-- lines after those that have a head keep the batches
by_file : (limits : Limits) (s t : ObjectState) (xs ys : List (List ℕ))
    → specs.object_of limits xs ≡ Ok s → specs.object_of limits (xs ++ ys) ≡ Ok t → BeginsWith s t
by_file limits s t [] ys h k =
    let is : empty_object limits ≡ s = cc in
    subst (λ (u : ObjectState). BeginsWith u t) is (record { later = t.batches; batches = refl })
by_file limits s t (head ∷ xs) ys h k = headed (version_of head) h k
  where
    headed : (r : Result Version WireFault)
        → go_on 1 (on_read r Ok) (λ version. in_turn (after_object newest_rules) 2 (Some version)
        (empty_object limits) xs)
        ≡ Ok s
        → go_on 1 (on_read r Ok)
        (λ version. in_turn (after_object newest_rules) 2 (Some version) (empty_object limits) (xs
        ++ ys))
        ≡ Ok t
        → BeginsWith s t
    headed (Ok version) h k =
        by_lines _ version s t ys
        (sym (goes_on_from (after_object newest_rules) 2 2 version
        (empty_object limits) s xs ys h) ∙ k)
    headed (Err f) h k = absurd (cc)

pub editions_never_fall : DoEditionsNeverFall
unfolding DoEditionsNeverFall
editions_never_fall limits file more s t whole h k =
    by_file limits s t (lines file) (lines more) h
    (sym (ap (specs.object_of limits) (lines-whole file more whole)) ∙ k)

-- the first of lines that are loaded are loaded
first_lines : (n : ℕ) (version : Version) (s t : ObjectState) (xs ys : List (List ℕ))
    → in_turn (after_object newest_rules) n (Some version) s (xs ++ ys) ≡ Ok t
    → (u : ObjectState) × (in_turn (after_object newest_rules) n (Some version) s xs ≡ Ok u)
first_lines n version s t [] ys h = (s, refl)
first_lines n version s t (x ∷ xs) ys h =
    let first =
    goes n (on_read (object_of x) (after_object newest_rules version s))
    (λ u. in_turn (after_object newest_rules) (n + 1) (Some version) u (xs ++ ys)) t h in
    let more = first_lines (n + 1) version first.now t xs ys first.rest in (
      more.0,
      ap (λ r. go_on n r (λ u. in_turn (after_object newest_rules) (n + 1) (Some version) u xs))
          first.is ∙ more.1,
    )

first_file : (limits : Limits) (t : ObjectState) (xs ys : List (List ℕ))
    → specs.object_of limits (xs ++ ys) ≡ Ok t
    → (u : ObjectState) × (specs.object_of limits xs ≡ Ok u)
first_file limits t [] ys h = (empty_object limits, refl)
first_file limits t (head ∷ xs) ys h = headed (version_of head) h
  where
    headed : (r : Result Version WireFault)
        → go_on 1 (on_read r Ok)
        (λ version. in_turn (after_object newest_rules) 2 (Some version) (empty_object limits) (xs
        ++ ys))
        ≡ Ok t
        → (u : ObjectState) × (go_on 1 (on_read r Ok) (λ version.
        in_turn (after_object newest_rules) 2 (Some version) (empty_object limits) xs)
        ≡ Ok u)
    headed (Ok version) h = first_lines 2 version (empty_object limits) t xs ys h
    headed (Err f) h = absurd (cc)

pub synced_editions_stay : DoSyncedEditionsStay
unfolding DoSyncedEditionsStay DoEditionsNeverFall
synced_editions_stay limits synced front rest s t whole front_whole h k =
    let left = synced ++ front in
    let all_whole : IsOfWholeLines left = whole-append synced front whole front_whole in
    let by_lines : specs.object_of limits (lines left ++ lines rest) ≡ Ok t =
    sym (ap (specs.object_of limits) (lines-whole left rest all_whole)) ∙ k in
    let found = first_file limits t (lines left) (lines rest) by_lines in
    record {
      object = found.0;
      shown = found.1;
      keeps = editions_never_fall limits synced front s found.0 whole h found.1;
      no_more = editions_never_fall limits left rest found.0 t all_whole found.1 k;
    }
