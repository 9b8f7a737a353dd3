-- The value of a line's bytes, if they are a text and if they are not.
use Rattle.std.proofs.Common.{◌≡◌, ◌<◌, Bool, true, false, if◌then◌else◌, None, Some, List, [], ◌∷◌}
use Rattle.std.proofs.Common.{ℕ, length, ap, refl, arith}
use Rattle.std.specs.Str.{is_utf8, IsUtf8}
use Rattle.std.proofs.lemmas.Str.{IsUtf8-from_is_utf8, is_utf8-from_IsUtf8}
use Rattle.serde_json.specs.Data.{Data}
use Rattle.serde_json.specs.Read.{read}
use Rattle.serde_json.proofs.OnLiterals.{serde_json_on_literals}
use Rattle.osn_request.specs.Request.{value_of}

no_utf8 : (line : List ℕ) → ¬ (IsUtf8 line) → is_utf8 line ≡ false
no_utf8 line h = by (is_utf8 line) refl
  where
    by : (b : Bool) → is_utf8 line ≡ b → b ≡ false
    by true e = absurd (h (IsUtf8-from_is_utf8 line e))
    by false e = refl

pub no_text_value : (line : List ℕ) → ¬ (IsUtf8 line) → value_of line ≡ None
no_text_value line h = ap (λ b. if b then read line else None) (no_utf8 line h)

pub text_value : (line : List ℕ) → IsUtf8 line → value_of line ≡ read line
text_value line h = ap (λ b. if b then read line else None) (is_utf8-from_IsUtf8 line h)

-- no value is read from nothing
pub some_text : (text : List ℕ) (d : Data) → read text ≡ Some d → 0 < length text
unfolding serde_json_on_literals
some_text [] d h = let none : None ≡ Some d = h in cc
some_text (x ∷ xs) d h = omega arith
