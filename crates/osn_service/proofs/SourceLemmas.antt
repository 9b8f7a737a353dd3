-- Lines from which no source is taken leave an object without sources.
use Rattle.std.proofs.Common.{◌≡◌, ◌∙◌, ◌⊎◌, ℕ, Bool, true, false, cond, List, [], ◌∷◌, ◌++◌}
use Rattle.std.proofs.Common.{Option, Some, None, Result, Ok, Err, is_some, refl, sym, subst}
use Rattle.std.proofs.Common.{append_assoc, append-nil, ⊎_elim}
use Rattle.std.specs.List.{All}
use Rattle.std.proofs.lemmas.List.Elements.{All-append, All-cons, All-nil}
use Rattle.osn_days.specs.Rules.{newest_rules}
use Rattle.osn_register.specs.declared.edit.Edit.{Edit}
use Rattle.osn_register.specs.declared.refusal.Refusal.{Refusal}
use Rattle.osn_register.specs.Lawful.{source_given}
use Rattle.osn_core.specs.Sequential.{ObjectState, joined, state_unless, stage_refusal}
use Rattle.osn_core.specs.Sequential.{with_pending, publish_refusal, with_edition}
use Rattle.osn_core.proofs.Batches.{joined-push}
use Rattle.osn_request.specs.declared.wire_fault.WireFault.{WireFault}
use Rattle.osn_request.specs.declared.wire_fault.WireFault.TheVariants.{NeedsUpgrade}
use Rattle.osn_request.specs.Version.{newest_version}
use Rattle.osn_request.specs.declared.request.Request.{Request}
use Rattle.osn_request.specs.declared.request.Request.TheVariants.{Stage, Publish, Ask}
use Rattle.osn_request.specs.Request.{request}
use Rattle.osn_service.specs.declared.rules.ServeRules.{ServeRules}
use Rattle.osn_service.specs.Served.{after_lines}
use Rattle.osn_service.specs.Session.{after_unless, allowed_request, line_after, line_request}
use Rattle.osn_service.specs.Session.{refused_member, state_after}
use Rattle.osn_service.specs.Sources.{GivesNoSource, KeepsSourceless}

-- an edit without a source was staged or not
staged : (s : ObjectState) (e : Edit) (refused : Option Refusal) → source_given e ≡ None
    → GivesNoSource s → GivesNoSource (state_unless refused (with_pending s e) s)
staged s e None none h =
    let gives = λ (e : Edit). source_given e ≡ None in
    subst (All gives) (append_assoc (joined s.batches) s.pending (e ∷ []))
    (All-append gives (joined s.batches ++ s.pending) (e ∷ []) h
    (All-cons gives e [] none (All-nil gives)))
staged s e (Some f) none h = h

-- the pending edits were published or not
published : (s : ObjectState) (refused : Option Refusal) → GivesNoSource s
    → GivesNoSource (state_unless refused (with_edition s) s)
published s None h =
    subst (All (λ e. source_given e ≡ None))
    (sym (append-nil _ ∙ joined-push s.batches s.pending)) h
published s (Some f) h = h

-- an edit without a source is accepted
edit_leaves : (s : ObjectState) (e : Edit) (given : Option (List ℕ)) → source_given e ≡ given
    → GivesNoSource s
    → GivesNoSource
    (state_after s (cond (is_some given) (Err NeedsUpgrade) (Ok (Stage e))))
edit_leaves s e None none h = staged s e (stage_refusal newest_rules s e) none h
edit_leaves s e (Some source) given h = h

-- a request, if no source is taken
request_leaves : (read_only : Bool) (s : ObjectState) (asked : Result Request WireFault)
    → GivesNoSource s → GivesNoSource (state_after s (allowed_request read_only false asked))
request_leaves true s (Ok (Stage e)) h = h
request_leaves true s (Ok Publish) h = h
request_leaves true s (Ok (Ask reader query)) h = h
request_leaves true s (Err fault) h = h
request_leaves false s (Ok (Stage e)) h = edit_leaves s e (source_given e) refl h
request_leaves false s (Ok Publish) h = published s (publish_refusal s) h
request_leaves false s (Ok (Ask reader query)) h = h
request_leaves false s (Err fault) h = h

-- a line with a member that is refused, or another one
member_leaves : (refused : Option (List ℕ)) (s t : ObjectState) → GivesNoSource s
    → GivesNoSource t → GivesNoSource (after_unless refused s t)
member_leaves None s t h k = k
member_leaves (Some name) s t h k = h

-- a line leaves an object without sources
line_leaves : (rules : ServeRules) (s : ObjectState) (line : List ℕ)
    → KeepsSourceless rules s (line_after rules s line)
line_leaves rules s line none h =
    let asked = request newest_version rules.readers line in
    member_leaves (refused_member rules line) s (state_after s (line_request rules line)) h
    (subst (λ b. GivesNoSource (state_after s (allowed_request rules.read_only b asked))) (sym none)
    (request_leaves rules.read_only s asked h))

-- lines in order leave an object without sources
lines_leave : (rules : ServeRules) (s : ObjectState) (ls : List (List ℕ))
    → KeepsSourceless rules s (after_lines rules s ls)
lines_leave rules s [] none h = h
lines_leave rules s (l ∷ ls) none h =
    lines_leave rules (line_after rules s l) ls none (line_leaves rules s l none h)

-- a state after lines keeps the object without sources
pub Sourceless-after : (rules : ServeRules) (s t : ObjectState) (ls : List (List ℕ))
    → t ≡ after_lines rules s ls → KeepsSourceless rules s t
Sourceless-after rules s t ls reached none h =
    subst GivesNoSource (sym reached) (lines_leave rules s ls none h)

-- a state after either of two lists of lines keeps the object without sources
pub Sourceless-near : {P : Type 0} (rules : ServeRules) (s t : ObjectState) (xs ys : List (List ℕ))
    → (t ≡ after_lines rules s xs) ⊎ (P × (t ≡ after_lines rules s ys))
    → KeepsSourceless rules s t
Sourceless-near rules s t xs ys reached =
    ⊎_elim (λ e. Sourceless-after rules s t xs e) (λ e. Sourceless-after rules s t ys e.1) reached
