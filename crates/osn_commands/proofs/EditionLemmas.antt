-- The lines of an edition, in the file or not, and its edits, staged in turn.
use Rattle.std.proofs.Common.{◌≡◌, ◌⊎◌, ◌∙◌, ◌++◌, ◌∷◌, ℕ, List, [], length, take}
use Rattle.std.proofs.Common.{Option, Some, None}
use Rattle.std.proofs.Common.{ap, append_assoc, inl, inr, arith, length-take, subst, sym}
use Rattle.std.specs.List.{All}
use Rattle.std.proofs.lemmas.List.Elements.{All-cons}
use Rattle.osn_days.specs.Rules.{newest_rules}
use Rattle.osn_core.specs.Sequential.{HasLawfulSource, ObjectState, stage_refusal, with_pending}
use Rattle.osn_files.specs.CountedPrefix.{IsCountedPrefix, whole_bytes, whole_length}
use Rattle.osn_files.specs.declared.whole_lines.CountedPrefix.{CountedPrefix}
use Rattle.osn_register.specs.Refusal.{or_else}
use Rattle.osn_register.specs.declared.edit.Edit.{Edit}
use Rattle.osn_serve_commands.proofs.KeepLemmas.{whole_within}
use Rattle.osn_commands.specs.Edition.{appended_text, edition_refusal}
use Rattle.osn_commands.specs.PublishInside.{IsCutBack}

-- the lines that count have as many bytes as the part says
pub whole_size : (part : CountedPrefix) (content : List ℕ) → IsCountedPrefix part content
    → length (whole_bytes content) ≡ part.bytes
whole_size part content whole =
    omega (
      arith,
      length-take (whole_length content) content,
      whole.bytes,
      whole_within part
          content whole,
    )

-- a file that was cut back, by the edits of the lines
pub cut_back : (Stays : Type 0) (part : CountedPrefix) (content lines : List ℕ) (edits : List Edit)
    (old new : Option (List ℕ)) → lines ≡ appended_text content edits → IsCountedPrefix part content
    → old ≡ Some (whole_bytes content) → IsCutBack Stays part.bytes lines old new
    → (new ≡ Some (whole_bytes content))
    ⊎ (Stays × (n : ℕ) × (new ≡ Some (whole_bytes content ++ take n (appended_text content edits))))
cut_back Stays part content lines edits old new are whole known h =
    elim (h (whole_bytes content) known (whole_size part content whole)) [
      | inl is ↦ inl is
      | inr stays ↦ inr (
        stays.0,
        stays.1,
        stays.2 ∙ ap (λ l. Some (whole_bytes content ++ take stays.1 l)) are,
      )
    ]

-- one more edit of a plan was staged, and these are left
pub staged_more : (first s t : ObjectState) (edits left rest : List Edit) (e : Edit)
    → left ≡ e ∷ rest → t ≡ with_pending s e → stage_refusal newest_rules s e ≡ None
    → HasLawfulSource e → edition_refusal first edits ≡ edition_refusal s left
    → s.batches ≡ first.batches → s.limits ≡ first.limits
    → s.pending ++ left ≡ first.pending ++ edits
    → (All HasLawfulSource left → All HasLawfulSource edits)
    → (edition_refusal first edits ≡ edition_refusal t rest) × (t.batches ≡ first.batches)
    × (t.limits ≡ first.limits) × (t.pending ++ rest ≡ first.pending ++ edits)
    × (All HasLawfulSource rest → All HasLawfulSource edits)
staged_more first s t edits left rest e is made none lawful refused batches limits pending more = (
  refused ∙ ap (edition_refusal s) is
      ∙ ap (λ r. or_else r (edition_refusal (with_pending s e) rest)) none
      ∙ ap (λ (u : ObjectState). edition_refusal u rest) (sym made),
  ap (λ (u : ObjectState). u.batches) made ∙ batches,
  ap (λ (u : ObjectState). u.limits) made ∙ limits,
  ap (λ (u : ObjectState). u.pending ++ rest) made ∙ append_assoc s.pending (e ∷ []) rest
      ∙ ap (λ l. s.pending ++ l) (sym is) ∙ pending,
  (λ all. more (subst (All HasLawfulSource) (sym is)
      (All-cons HasLawfulSource e rest lawful all))),
)
