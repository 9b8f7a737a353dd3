-- Readers taken one by one from a list of which each has a property.
use Rattle.std.proofs.Common.{◌≡◌, List, [], ◌∷◌, ◌++◌, length, subst, arith, length-append}
use Rattle.std.specs.List.{All}
use Rattle.std.proofs.Math.Seq.{get_or-append_seam}
use Rattle.std.proofs.lemmas.List.{get_or_append_left}
use Rattle.osn_live.specs.Running.{EditorState, ReaderState, IsNew}

pub all_last : {X : Type 0} (P : X → Type 0) (xs : List X) (x : X) → All P (xs ++ x ∷ []) →
    All P xs × P x
all_last P xs x h = (
  (λ k d low. subst P (get_or_append_left xs (x ∷ []) d k low)
      (h k d (omega (arith, length-append xs (x ∷ []), low)))),
  subst P (get_or-append_seam xs x [] x)
      (h (length xs) x (omega (arith, length-append xs (x ∷ [])))),
)

pub all_new : (e : EditorState) (rs : List ReaderState) → All (IsNew e) rs →
    All (λ (r : ReaderState). r.origin ≡ e.origin) rs
all_new e rs h k d low = (h k d low).origin
