-- The lines that have ended, of bytes, are whole.
use Rattle.std.proofs.Common.{◌≡◌, ◌∙◌, ◌≤◌, ◌==◌, ℕ, zero, suc, Bool, true, false, List, [], ◌∷◌}
use Rattle.std.proofs.Common.{length, take, cond, refl, sym, ap, subst}
use Rattle.std.proofs.lemmas.List.{length-take-le}
use Rattle.osn_lines.specs.LastLineFeed.{with_byte, ended_length, ended_bytes}
use Rattle.osn_lines.proofs.EndedLemmas.{ended-le}
use Rattle.osn_folder.specs.FollowedFile.{IsOfWholeLines}

ended-whole : (bytes : List ℕ) → IsOfWholeLines (ended_bytes bytes)
ended-whole [] = refl
ended-whole (b ∷ bs) = by_rest (ended_length bs) refl (ended-whole bs)
  where
    by_byte : (t : Bool) → (b == 10) ≡ t → IsOfWholeLines (take (cond t 1 0) (b ∷ bs))
    by_byte true is = ap (λ t. cond t 1 0) is
    by_byte false is = refl

    by_rest : (n : ℕ) → ended_length bs ≡ n → IsOfWholeLines (ended_bytes bs)
        → IsOfWholeLines (take (with_byte b n) (b ∷ bs))
    by_rest zero e rest = by_byte (b == 10) refl
    by_rest (suc m) e rest =
        let x = take (suc m) bs in
        let size : length x ≡ suc m =
        length-take-le (suc m) bs (subst (λ (k : ℕ). k ≤ length bs) e (ended-le bs)) in
        let whole : ended_length x ≡ length x =
        subst (λ (k : ℕ). ended_length (take k bs) ≡ length (take k bs)) e rest in
        ap (with_byte b) (whole ∙ size) ∙ sym (ap suc size)

-- bytes that were cut after their last line feed
pub cut-whole : (bytes cut : List ℕ) (n : ℕ) → n ≡ ended_length bytes → cut ≡ take n bytes
    → IsOfWholeLines cut
cut-whole bytes cut n is made =
    subst IsOfWholeLines (sym (made ∙ ap (λ k. take k bytes) is)) (ended-whole bytes)
