-- A text with no byte has no character.
use Rattle.std.proofs.Common.{◌≡◌, ℕ, List, [], ◌∷◌, length, arith, chars}
use Rattle.std.proofs.lemmas.Str.{chars-nil}

pub empty_escaped : (text : List ℕ) → length text ≡ 0 → chars text ≡ []
empty_escaped [] none = chars-nil
empty_escaped (b ∷ bs) none = absurd (omega (arith, none))
