-- A text that has the lines of some expressions, line by line and in parts.
use Rattle.std.proofs.Common.{◌≡◌, ℕ, Bool, true, false, List, [], ◌∷◌, ◌++◌, refl, sym, subst}
use Rattle.std.proofs.Common.{append_assoc, append-nil}
use Rattle.toml.specs.Tables.{Expression}
use Rattle.toml.specs.Text.{IsLineText, IsLinesText}

-- the text has the lines of these expressions, after others or not
abbrev pub IsWritten : Bool → List Expression → List ℕ → Type 0
IsWritten started es text = IsLinesText false started es text

-- one line
pub one : (started : Bool) (e : Expression) (text : List ℕ) → IsLineText false started e.0 e.1 text
    → IsWritten started (e ∷ []) text
one started e text line = (text, [], sym (append-nil text), line, refl)

-- some lines, and others after them
pub written-append : (es fs : List Expression) (a b : List ℕ) → IsWritten true es a
    → IsWritten true fs b
    → IsWritten true (es ++ fs) (a ++ b)
written-append [] fs a b first_part more = rw first_part more
written-append (e ∷ es) fs a b first_part more =
    let (this, rest, whole, line, others) = first_part in (
      this,
      rest ++ b,
      rw whole (append_assoc this rest b),
      line,
      written-append es fs rest b others
          more,
    )

-- some lines and others after them, at the start of a document or not
pub written-then : (started : Bool) (e : Expression) (es fs : List Expression) (a b : List ℕ)
    → IsWritten started (e ∷ es) a → IsWritten true fs b
    → IsWritten started (e ∷ (es ++ fs)) (a ++ b)
written-then started e es fs a b first_part more =
    let (this, rest, whole, line, others) = first_part in (
      this,
      rest ++ b,
      rw whole (append_assoc this rest b),
      line,
      written-append es fs rest b others
          more,
    )

-- a text of expressions is one of equal expressions
pub along : (es fs : List Expression) (text : List ℕ) → es ≡ fs → IsWritten true fs text
    → IsWritten true es text
along es fs text same written = subst (λ xs. IsWritten true xs text) (sym same) written
