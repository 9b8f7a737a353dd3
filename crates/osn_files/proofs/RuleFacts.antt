-- A journal of the first version keeps its editions under the newest rules.
use Rattle.std.proofs.Common.{◌≡◌, ℕ, ◌+◌, nat_lt, cond, List, [], ◌∷◌, ◌++◌, take, drop}
use Rattle.std.proofs.Common.{Option, Some, None, Result, Ok, Err, refl, sym, ap, subst}
use Rattle.std.proofs.Common.{◌∙◌, arith, append-nil, append_assoc}
use Rattle.std.proofs.lemmas.List.{take-append-drop}
use Rattle.serde_json.specs.Data.{Data}
use Rattle.osn_days.specs.Rules.{Rules, first_rules, newest_rules}
use Rattle.osn_register.specs.declared.edit.Edit.{Edit}
use Rattle.osn_register.specs.declared.limits.Limits.{Limits}
use Rattle.osn_register.specs.declared.refusal.Refusal.{Refusal}
use Rattle.osn_register.specs.declared.refusal.Refusal.TheVariants.{JournalFull}
use Rattle.osn_register.specs.Lawful.{AreLawful}
use Rattle.osn_register.specs.Plain.{RegisterModel, refusal, after_edits}
use Rattle.osn_register.specs.Refusal.{or_else}
use Rattle.osn_core.specs.declared.command.Command.{Command}
use Rattle.osn_core.specs.declared.command.Command.TheVariants.{Stage, Publish}
use Rattle.osn_core.specs.Sequential.{ObjectState, empty_object, joined, draft_territories}
use Rattle.osn_core.specs.Sequential.{edits_in}
use Rattle.osn_core.specs.Sequential.{stage_refusal, publish_refusal, with_pending, with_edition}
use Rattle.osn_core.proofs.Batches.{joined-push}
use Rattle.osn_core.proofs.Lawful.{AreLawful-push}
use Rattle.osn_request.specs.declared.wire_fault.WireFault.{WireFault}
use Rattle.osn_request.specs.Request.{object_of}
use Rattle.osn_request.specs.declared.version.Version.{Version}
use Rattle.osn_request.specs.declared.version.Version.TheVariants.{First}
use Rattle.osn_files.specs.declared.fault.LineFault.{LineFault}
use Rattle.osn_files.specs.Commands.{command_in}
use Rattle.osn_files.specs.Journal.{unless_refused, after_command, after_object}
use Rattle.osn_files.specs.EarlierRules.{IsSameRegister, KeepsEditions}
use Rattle.osn_files.specs.Turns.{on_read, go_on, in_turn}
use Rattle.osn_files.proofs.CommandFacts.{both_none}
use Rattle.osn_files.proofs.LawFacts.{lawful_front}
use Rattle.osn_files.proofs.NewerFacts.{IsLonger, refusal_passes, applied_passes}
use Rattle.osn_files.proofs.OldFacts.{HasFixed, HaveFixed, CommandHasFixed, fixed_command}

newest_longer : IsLonger first_rules newest_rules
newest_longer = record { line = omega arith; years = omega arith }

HaveFixed-push : (es : List Edit) (e : Edit) → HaveFixed es → HasFixed e → HaveFixed (es ++ e ∷ [])
HaveFixed-push [] e h fixed = (fixed, tt)
HaveFixed-push (d ∷ es) e h fixed = (h.0, HaveFixed-push es e h.1 fixed)

HaveFixed-front : (es fs : List Edit) → HaveFixed (es ++ fs) → HaveFixed es
HaveFixed-front [] fs h = tt
HaveFixed-front (e ∷ es) fs h = (h.0, HaveFixed-front es fs h.1)

abbrev all_edits : ObjectState → List Edit
all_edits s = joined s.batches ++ s.pending

-- an object of the first version: its edits are lawful by the first rules, and none has a style
-- that goes from Easter to Easter
record IsOld (limits : Limits) (s : ObjectState) : Type 0 where
  limits_are : s.limits ≡ limits
  lawful : AreLawful first_rules limits [] (all_edits s)
  fixed : HaveFixed (all_edits s)

-- the register of the first of its edits is the same one under both rules
same_front : (limits : Limits) (s : ObjectState) (es fs : List Edit) → IsOld limits s
    → all_edits s ≡ es ++ fs → IsSameRegister limits es
same_front limits s es fs old are =
    let fixed = HaveFixed-front es fs (subst HaveFixed are old.fixed) in
    let lawful =
    lawful_front first_rules limits [] es fs
    (subst (AreLawful first_rules limits []) are old.lawful) in
    ap (λ territories. let r : RegisterModel =
    record { limits = limits; territories = territories } in r)
    (applied_passes first_rules newest_rules limits [] es newest_longer fixed lawful)

same_all : (limits : Limits) (s : ObjectState) → IsOld limits s
    → IsSameRegister limits (all_edits s)
same_all limits s old = same_front limits s (all_edits s) [] old (sym (append-nil (all_edits s)))

joined-append : (bs cs : List (List Edit)) → joined (bs ++ cs) ≡ joined bs ++ joined cs
joined-append [] cs = refl
joined-append (b ∷ bs) cs =
    ap (λ es. b ++ es) (joined-append bs cs) ∙ sym (append_assoc b (joined bs) (joined cs))

-- the register of each of its editions is the same one under both rules
same_edition : (limits : Limits) (s : ObjectState) → IsOld limits s → (edition : ℕ)
    → IsSameRegister limits (joined (take edition s.batches))
same_edition limits s old edition =
    let front = take edition s.batches in
    let rest = drop edition s.batches in
    same_front limits s (joined front) (joined rest ++ s.pending) old
    (ap (λ bs. joined bs ++ s.pending) (sym (take-append-drop edition s.batches))
    ∙ (ap (λ es. es ++ s.pending) (joined-append front rest)
    ∙ append_assoc (joined front) (joined rest) s.pending))

-- what passes is not refused, and is the new object
not_refused : (r : Option Refusal) (new made : ObjectState) → unless_refused r new ≡ Ok made
    → (r ≡ None) × (new ≡ made)
not_refused None new made e = (refl, cc)
not_refused (Some f) new made e = absurd (cc)

-- what the newest rules make of an object by a step, and that it is an old one
record Goes (limits : Limits) (r : Result ObjectState LineFault) (made : ObjectState) : Type 0 where
  goes : r ≡ Ok made
  old : IsOld limits made

IsOld-pending : (limits : Limits) (s : ObjectState) (e : Edit) → IsOld limits s → HasFixed e
    → refusal first_rules limits (draft_territories first_rules s) e ≡ None
    → IsOld limits (with_pending s e)
IsOld-pending limits s e old fixed none =
    let grown : all_edits s ++ e ∷ [] ≡ all_edits (with_pending s e) =
    append_assoc (joined s.batches) s.pending (e ∷ []) in
    let lawful =
    AreLawful-push first_rules limits [] (all_edits s) e old.lawful
    (subst (λ l. refusal first_rules limits (after_edits first_rules l [] (all_edits s)) e ≡ None)
    old.limits_are none) in
    record {
      limits_are = old.limits_are;
      lawful = subst (AreLawful first_rules limits []) grown lawful;
      fixed = subst HaveFixed grown (HaveFixed-push (all_edits s) e old.fixed fixed);
    }

IsOld-edition : (limits : Limits) (s : ObjectState) → IsOld limits s → IsOld limits (with_edition s)
IsOld-edition limits s old =
    let are : all_edits s ≡ all_edits (with_edition s) =
    sym (append-nil _ ∙ joined-push s.batches s.pending) in
    record {
      limits_are = old.limits_are;
      lawful = subst (AreLawful first_rules limits []) are old.lawful;
      fixed = subst HaveFixed are old.fixed;
    }

-- an edit that the first rules allow
stage_goes : (limits : Limits) (s made : ObjectState) (e : Edit) → IsOld limits s → HasFixed e
    → after_command first_rules s (Stage e) ≡ Ok made
    → Goes limits (after_command newest_rules s (Stage e)) made
stage_goes limits s made e old fixed is =
    let passed = not_refused (stage_refusal first_rules s e) (with_pending s e) made is in
    let room = cond (nat_lt (edits_in s) s.limits.edits) None (Some JournalFull) in
    let parts =
    both_none (refusal first_rules s.limits (draft_territories first_rules s) e) room passed.0 in
    let none : refusal first_rules limits (draft_territories first_rules s) e ≡ None =
    subst (λ l. refusal first_rules l (draft_territories first_rules s) e ≡ None) old.limits_are
    parts.0 in
    let drafts : draft_territories first_rules s ≡ draft_territories newest_rules s =
    subst (λ l. after_edits first_rules l [] (all_edits s)
    ≡ after_edits newest_rules l [] (all_edits s)) (sym old.limits_are)
    (applied_passes first_rules newest_rules limits [] (all_edits s) newest_longer old.fixed
    old.lawful) in
    let newest : refusal newest_rules s.limits (draft_territories newest_rules s) e ≡ None =
    subst (λ territories. refusal newest_rules s.limits territories e ≡ None) drafts
    (refusal_passes first_rules newest_rules s.limits (draft_territories first_rules s) e
    newest_longer fixed parts.0) in
    let passes : stage_refusal newest_rules s e ≡ None =
    ap (λ r. or_else r room) newest ∙ parts.1 in
    record {
      goes = ap (λ r. unless_refused r (with_pending s e)) passes ∙ ap (λ t. Ok t) passed.1;
      old = subst (IsOld limits) passed.1 (IsOld-pending limits s e old fixed none);
    }

command_goes : (limits : Limits) (s made : ObjectState) (c : Command) → IsOld limits s
    → CommandHasFixed c → after_command first_rules s c ≡ Ok made
    → Goes limits (after_command newest_rules s c) made
command_goes limits s made (Stage e) old fixed is = stage_goes limits s made e old fixed is
command_goes limits s made Publish old fixed is =
    let passed = not_refused (publish_refusal s) (with_edition s) made is in
    record { goes = is; old = subst (IsOld limits) passed.1 (IsOld-edition limits s old) }

read_goes : (limits : Limits) (s made : ObjectState) (r : Result Command WireFault)
    → IsOld limits s → ((c : Command) → r ≡ Ok c → CommandHasFixed c)
    → on_read r (after_command first_rules s) ≡ Ok made
    → Goes limits (on_read r (after_command newest_rules s)) made
read_goes limits s made (Ok c) old fixed is = command_goes limits s made c old (fixed c refl) is
read_goes limits s made (Err f) old fixed is = absurd (cc)

-- a line after a head of the first version
line_goes : (limits : Limits) (s made : ObjectState) (r : Result Data WireFault) → IsOld limits s
    → on_read r (after_object first_rules First s) ≡ Ok made
    → Goes limits (on_read r (after_object newest_rules First s)) made
line_goes limits s made (Ok d) old is =
    read_goes limits s made (command_in First d) old (fixed_command d) is
line_goes limits s made (Err f) old is = absurd (cc)

abbrev after_first_head : Rules → ℕ → ObjectState → List (List ℕ)
    → Result ObjectState (ℕ × LineFault)
after_first_head p n s ls = in_turn (after_object p) n (Some First) s ls

-- what the newest rules make of an object by lines, and that it is an old one
record Ends (limits : Limits) (r : Result ObjectState (ℕ × LineFault)) (made : ObjectState)
    : Type 0 where
  ends : r ≡ Ok made
  old : IsOld limits made

-- a line, and then those after it
ends_by : (limits : Limits) (n : ℕ) (made : ObjectState) (ls : List (List ℕ))
    (r newest : Result ObjectState LineFault)
    → ((t : ObjectState) → r ≡ Ok t → Goes limits newest t)
    → ((t : ObjectState) → IsOld limits t
    → after_first_head first_rules (n + 1) t ls ≡ Ok made
    → Ends limits (after_first_head newest_rules (n + 1) t ls) made)
    → go_on n r (λ t. after_first_head first_rules (n + 1) t ls) ≡ Ok made
    → Ends limits (go_on n newest (λ t. after_first_head newest_rules (n + 1) t ls)) made
ends_by limits n made ls (Ok t) newest first rest is =
    let one = first t refl in
    let end = rest t one.old is in
    record {
      ends = ap (λ q. go_on n q (λ u. after_first_head newest_rules (n + 1) u ls))
          one.goes ∙ end.ends;
      old = end.old;
    }
ends_by limits n made ls (Err f) newest first rest is = absurd (cc)

-- lines after it in turn
lines_end : (limits : Limits) (n : ℕ) (s made : ObjectState) (ls : List (List ℕ)) → IsOld limits s
    → after_first_head first_rules n s ls ≡ Ok made
    → Ends limits (after_first_head newest_rules n s ls) made
lines_end limits n s made [] old is =
    let same : s ≡ made = cc in record { ends = is; old = subst (IsOld limits) same old }
lines_end limits n s made (l ∷ ls) old is =
    ends_by limits n made ls (on_read (object_of l) (after_object first_rules First s))
    (on_read (object_of l) (after_object newest_rules First s))
    (λ t e. line_goes limits s t (object_of l) old e)
    (λ t old_t e. lines_end limits (n + 1) t made ls old_t e)
    is

-- the object that is loaded after a head
abbrev after_head : Rules → Limits → List (List ℕ) → Result Version WireFault
    → Result ObjectState (ℕ × LineFault)
after_head p limits rest r =
    go_on 1 (on_read r Ok) (λ v. in_turn (after_object p) 2 (Some v) (empty_object limits) rest)

-- a journal of the first version keeps its editions
pub keeps_editions : (limits : Limits) (ls : List (List ℕ)) → KeepsEditions limits ls
unfolding KeepsEditions
keeps_editions limits [] = λ first object is. absurd first
keeps_editions limits (head ∷ rest) = λ first object is.
    let loaded : after_first_head first_rules 2 (empty_object limits) rest ≡ Ok object =
    sym (ap (after_head first_rules limits rest) first) ∙ is in
    let none : IsOld limits (empty_object limits) =
    record { limits_are = refl; lawful = tt; fixed = tt } in
    let end = lines_end limits 2 (empty_object limits) object rest none loaded in (
      ap (after_head newest_rules limits rest) first ∙ end.ends,
      same_edition limits object end.old,
      same_all limits object end.old,
    )
