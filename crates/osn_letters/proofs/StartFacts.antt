-- A byte order mark, byte by byte.
use Rattle.std.proofs.Common.{◌≡◌, ◌∙◌, ℕ, ◌==◌, Bool, true, false, if◌then◌else◌, List, [], ◌∷◌}
use Rattle.std.proofs.Common.{◌++◌}
use Rattle.std.proofs.Common.{Some, None, refl, ap}
use Rattle.std.proofs.lemmas.Bool.Decides.{Decides-eqb}
use Rattle.csv.specs.Reading.{strip_bom}
use Rattle.osn_letters.specs.declared.start.ByteOrderMark.{ByteOrderMark}
use Rattle.osn_letters.specs.declared.start.ByteOrderMark.TheVariants.{Nothing, OneByte, TwoBytes}
use Rattle.osn_letters.specs.declared.start.ByteOrderMark.TheVariants.{Past}
use Rattle.osn_letters.specs.ByteOrderMark.{held, unmarked, next_start}

passed : (t : Bool) (s u : ByteOrderMark) → (if t then Some s else None) ≡ Some u → (t ≡ true)
    × (s ≡ u)
passed true s u h = (refl, cc)
passed false s u h = absurd (cc)

failed : (t : Bool) (s : ByteOrderMark) → (if t then Some s else None) ≡ None → t ≡ false
failed true s h = absurd (cc)
failed false s h = refl

-- the byte goes on with the mark
pub marked : (start next : ByteOrderMark) (b : ℕ) → next_start start b ≡ Some next → (more : List ℕ)
    → unmarked start (b ∷ more) ≡ unmarked next more
unfolding strip_bom
marked Nothing next b h more =
    let parts = passed (b == 0xEF) OneByte next h in
    ap (λ x. strip_bom (x ∷ more)) ((Decides-eqb b 0xEF).0 parts.0)
    ∙ ap (λ s. unmarked s more) parts.1
marked OneByte next b h more =
    let parts = passed (b == 0xBB) TwoBytes next h in
    ap (λ x. strip_bom (0xEF ∷ x ∷ more)) ((Decides-eqb b 0xBB).0 parts.0)
    ∙ ap (λ s. unmarked s more) parts.1
marked TwoBytes next b h more =
    let parts = passed (b == 0xBF) Past next h in
    rw parts.0 (ap (λ s. unmarked s more) parts.1)
marked Past next b h more = absurd (cc)

-- the byte does not go on with the mark
pub unmarked_held : (start : ByteOrderMark) (b : ℕ) → next_start start b ≡ None → (more : List ℕ)
    → unmarked start (b ∷ more) ≡ held start ++ b ∷ more
unfolding strip_bom
unmarked_held Nothing b h [] = refl
unmarked_held Nothing b h (c ∷ []) = refl
unmarked_held Nothing b h (c ∷ d ∷ more) = rw (failed (b == 0xEF) OneByte h) refl
unmarked_held OneByte b h [] = refl
unmarked_held OneByte b h (c ∷ more) = rw (failed (b == 0xBB) TwoBytes h) refl
unmarked_held TwoBytes b h more = rw (failed (b == 0xBF) Past h) refl
unmarked_held Past b h more = refl

-- at the end of the text, the bytes that are held back are not a mark
pub unmarked_end : (start : ByteOrderMark) → unmarked start [] ≡ held start ++ []
unfolding strip_bom
unmarked_end Nothing = refl
unmarked_end OneByte = refl
unmarked_end TwoBytes = refl
unmarked_end Past = refl
