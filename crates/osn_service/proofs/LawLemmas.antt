-- An input may be cut between its lines.
use Rattle.std.proofs.Common.{◌≡◌, ℕ, Bool, true, false, List, [], ◌∷◌, ◌++◌}
use Rattle.std.proofs.Common.{Option, Some, None, Result, Ok, Err, refl, sym, ap, subst, ◌∙◌}
use Rattle.std.proofs.Common.{append_assoc, inl, inr}
use Rattle.std.specs.List.{All, concat, flat_map}
use Rattle.std.proofs.lemmas.List.Elements.{All-nil, All-cons, All-head, All-tail}
use Rattle.std.proofs.lemmas.List.Sums.{fold-append}
use Rattle.osn_days.specs.Rules.{newest_rules}
use Rattle.osn_register.specs.declared.refusal.Refusal.{Refusal}
use Rattle.osn_core.specs.Sequential.{ObjectState, state_unless, stage_refusal, with_pending}
use Rattle.osn_core.specs.Sequential.{publish_refusal, with_edition}
use Rattle.osn_lines.specs.Lines.{lines}
use Rattle.osn_lines.proofs.FeedLemmas as feed
use Rattle.osn_request.specs.declared.wire_fault.WireFault.{WireFault}
use Rattle.osn_request.specs.declared.request.Request.{Request}
use Rattle.osn_request.specs.declared.request.Request.TheVariants.{Stage, Publish, Ask}
use Rattle.osn_service.specs.declared.outcome.Outcome.{Outcome}
use Rattle.osn_service.specs.declared.outcome.Outcome.TheVariants.{Staged, Published, Refused}
use Rattle.osn_service.specs.declared.outcome.Outcome.TheVariants.{Fault, UnknownMember, Replied}
use Rattle.osn_service.specs.declared.outcome.Outcome.TheVariants.{Explained}
use Rattle.osn_service.specs.Outcome.{explained_if}
use Rattle.osn_service.specs.Served.{line_text, outputs, after_lines}
use Rattle.osn_service.specs.declared.rules.ServeRules.{ServeRules}
use Rattle.osn_service.specs.Session.{unless_refused, outcome_of, state_after, line_after}
use Rattle.osn_service.specs.Session.{line_request, refused_member, outcome_unless}
use Rattle.osn_service.specs.Session.{after_unless}
use Rattle.osn_service.specs.Law.{LeavesObject, EndsBetweenLines, IsQueryOrFault}
use Rattle.osn_service.specs.Law.{HasChangedNothing, input_outputs, IsAnsweredInParts}
use Rattle.osn_service.specs.Law.{MayEachInputBeCut}
use Rattle.osn_service.proofs.WaitLemmas.{replies-append}

-- the lines of two texts, the first of which ends between two lines
lines-append : (xs ys : List ℕ) → EndsBetweenLines xs → lines (xs ++ ys) ≡ lines xs ++ lines ys
lines-append xs ys (inl none) =
    subst (λ l. lines (l ++ ys) ≡ lines l ++ lines ys) (sym none) refl
lines-append xs ys (inr ended) = feed.lines-append xs ys ended

-- what is true of each item of two lists is true of each item of the first one, and of the second
-- one
All-first : {A : Type 0} (P : A → Type 0) (xs ys : List A) → All P (xs ++ ys) → All P xs
All-first P [] ys h = All-nil P
All-first P (x ∷ xs) ys h =
    All-cons P x xs (All-head P x (xs ++ ys) h) (All-first P xs ys (All-tail P x (xs ++ ys) h))

All-second : {A : Type 0} (P : A → Type 0) (xs ys : List A) → All P (xs ++ ys) → All P ys
All-second P [] ys h = h
All-second P (x ∷ xs) ys h = All-second P xs ys (All-tail P x (xs ++ ys) h)

-- lines that leave the object leave its state
left : (rules : ServeRules) (s : ObjectState) (xs : List (List ℕ)) →
    All (LeavesObject rules s) xs → after_lines rules s xs ≡ s
left rules s [] h = refl
left rules s (x ∷ xs) h =
    ap (λ v. after_lines rules v xs) (All-head (LeavesObject rules s) x xs h)
    ∙ left rules s xs (All-tail (LeavesObject rules s) x xs h)

-- later lines are answered as if they were alone
lines_cut : (rules : ServeRules) (s : ObjectState) (xs ys : List (List ℕ)) →
    All (LeavesObject rules s) xs →
    outputs rules s (xs ++ ys) ≡ outputs rules s xs ++ outputs rules s ys
lines_cut rules s xs ys h =
    replies-append (line_text rules) (line_after rules) s xs ys
    ∙ ap (λ v. outputs rules s xs ++ outputs rules v ys) (left rules s xs h)

-- later lines leave the object as if they were alone
object_cut : (rules : ServeRules) (s : ObjectState) (xs ys : List (List ℕ)) →
    All (LeavesObject rules s) xs →
    after_lines rules s (xs ++ ys) ≡ after_lines rules s ys
object_cut rules s xs ys h =
    fold-append (line_after rules) s xs ys
    ∙ ap (λ v. after_lines rules v ys) (left rules s xs h)

-- an input of parts is answered in parts, with one more part
parts_cut : (rules : ServeRules) (s : ObjectState) (parts : List (List ℕ)) (last : List ℕ) →
    All EndsBetweenLines parts → All (LeavesObject rules s) (lines (concat parts)) →
    IsAnsweredInParts rules s parts last
parts_cut rules s [] last ends h = record { written = refl; object = refl }
parts_cut rules s (part ∷ parts) last ends h =
    let ended = All-head EndsBetweenLines part parts ends in
    let leave : All (LeavesObject rules s) (lines part ++ lines (concat parts)) =
    subst (All (LeavesObject rules s)) (lines-append part (concat parts) ended) h in
    let first = All-first (LeavesObject rules s) (lines part) (lines (concat parts)) leave in
    let behind = concat parts ++ last in
    let rest = parts_cut rules s parts last (All-tail EndsBetweenLines part parts ends)
    (All-second (LeavesObject rules s) (lines part) (lines (concat parts)) leave) in
    let cut : lines (concat (part ∷ parts) ++ last) ≡ lines part ++ lines behind =
    ap lines (append_assoc part (concat parts) last) ∙ lines-append part behind ended in
    let said = input_outputs rules s part in
    record {
      written =
          ap (outputs rules s) cut
          ∙ (lines_cut rules s (lines part) (lines behind) first
          ∙ (ap (λ l. said ++ l) rest.written
          ∙ sym (append_assoc said (flat_map (input_outputs rules s) parts)
          (input_outputs rules s last))));
      object =
          ap (after_lines rules s) cut
          ∙ (object_cut rules s (lines part) (lines behind) first ∙ rest.object);
    }

-- a query leaves the object, and so does a line without a request
query_leaves : (s : ObjectState) (asked : Result Request WireFault) →
    IsQueryOrFault asked → state_after s asked ≡ s
query_leaves s (Ok (Stage edit)) h = absurd h
query_leaves s (Ok Publish) h = absurd h
query_leaves s (Ok (Ask reader query)) h = refl
query_leaves s (Err fault) h = refl

-- the outcome of a change that is refused or not
refused_leaves : (refusal : Option Refusal) (done : Outcome) (s t : ObjectState) →
    (HasChangedNothing done → ⊥) → HasChangedNothing (unless_refused refusal done) →
    state_unless refusal t s ≡ s
refused_leaves None done s t change h = absurd (change h)
refused_leaves (Some refusal) done s t change h = refl

-- a line whose reply names no change leaves the object
reply_leaves : (s : ObjectState) (asked : Result Request WireFault) →
    HasChangedNothing (outcome_of s asked) → state_after s asked ≡ s
reply_leaves s (Ok (Stage edit)) h =
    refused_leaves (stage_refusal newest_rules s edit) _ s (with_pending s edit) (λ k. k) h
reply_leaves s (Ok Publish) h =
    refused_leaves (publish_refusal s) _ s (with_edition s) (λ k. k) h
reply_leaves s (Ok (Ask reader query)) h = refl
reply_leaves s (Err fault) h = refl

-- an outcome that names no change with its message names none without it
said_leaves : (explains : Bool) (outcome : Outcome) →
    HasChangedNothing (explained_if explains outcome) → HasChangedNothing outcome
said_leaves false outcome h = h
said_leaves true (Staged pending) h = h
said_leaves true (Published edition) h = h
said_leaves true (Refused refusal) h = tt
said_leaves true (Fault fault) h = tt
said_leaves true (UnknownMember name) h = tt
said_leaves true (Explained rejection) h = tt
said_leaves true (Replied reader reply) h = tt

-- a line with a member that is refused leaves the object
member_leaves : (refused : Option (List ℕ)) (s t : ObjectState) → t ≡ s →
    after_unless refused s t ≡ s
member_leaves None s t h = h
member_leaves (Some name) s t h = refl

-- a line whose reply names no change leaves the object, also if a member of it is refused
unless_leaves : (refused : Option (List ℕ)) (s : ObjectState) (asked : Result Request WireFault) →
    HasChangedNothing (outcome_unless refused (outcome_of s asked)) →
    after_unless refused s (state_after s asked) ≡ s
unless_leaves None s asked h = reply_leaves s asked h
unless_leaves (Some name) s asked h = refl

-- every input may be cut
pub each_input_may_be_cut : MayEachInputBeCut
unfolding MayEachInputBeCut
each_input_may_be_cut rules s = record {
  lists = λ first rest leave. lines_cut rules s first rest leave;
  inputs = λ parts last ends leave. parts_cut rules s parts last ends leave;
  queries = λ line h. member_leaves (refused_member rules line) s
      (state_after s (line_request rules line)) (query_leaves s (line_request rules line) h);
  replies = λ line h. unless_leaves (refused_member rules line) s (line_request rules line)
      (said_leaves rules.explains
      (outcome_unless (refused_member rules line) (outcome_of s (line_request rules line))) h);
}
