-- What becomes of the beginning of a line by the bytes that are added to it.
use Rattle.std.proofs.Common.{◌≡◌, ◌<◌, ◌≤◌, ℕ, zero, suc, List, [], ◌∷◌, ◌++◌, length}
use Rattle.std.proofs.Common.{◌==◌, Result, Ok, Err, false}
use Rattle.std.proofs.Common.{IfOk, OnOk, refl, sym, ap, subst, arith, length-append, ⊎_elim}
use Rattle.std.proofs.lemmas.Bool.{cases_lt, eqb-false}
use Rattle.osn_lines.specs.LastLineFeed.{ended_bytes, ended_length, unended_bytes}
use Rattle.osn_lines.specs.Lines.{longest_line}
use Rattle.osn_journal.specs.declared.line_front.LineFront.{LineFront}
use Rattle.osn_journal.specs.FollowerInside.{HasFew, IsFrontOf, GivesSameLines}
use Rattle.osn_journal.specs.Outcomes.{with_feed}
use Rattle.osn_journal.proofs.LineLemmas.{rest-add, lines-add, unended-last, unended-le}
use Rattle.osn_journal.proofs.LineLemmas.{with_feed-some}

module _ {T E : Type 0} (old new : LineFront) (bytes : List ℕ) where
  -- lines that have ended by bytes that were added
  pub ended-added : (items : T → List ℕ) (r : Result T E)
      → IfOk r (λ ended. items ended ≡ ended_bytes (old.bytes.items ++ bytes))
      → IfOk r (λ ended. (pending_bytes : List ℕ) → IsFrontOf pending_bytes old
      → GivesSameLines (items ended) (ended_bytes (pending_bytes ++ bytes)))
  ended-added items (Ok ended) is = λ pending_bytes h.
      subst (λ (l : List ℕ). GivesSameLines l (ended_bytes (pending_bytes ++ bytes))) (sym is)
      (lines-add pending_bytes bytes old h)
  ended-added items (Err e) is = tt

  pub rest-added : (r : Result T E)
      → OnOk r (new.bytes.items ≡ unended_bytes (old.bytes.items ++ bytes))
      → OnOk r ((pending_bytes : List ℕ) → IsFrontOf pending_bytes old
      → IsFrontOf (unended_bytes (pending_bytes ++ bytes)) new)
  rest-added (Ok ended) is = λ pending_bytes h. rest-add pending_bytes bytes old new h is
  rest-added (Err e) is = tt

  -- no more waits than one line that is too long, and one read
  pub few-added : (r : Result T E)
      → OnOk r (new.bytes.items ≡ unended_bytes (old.bytes.items ++ bytes))
      → length bytes ≤ 65536 → (longest_line < length old.bytes.items → ended_length bytes ≡ 0 → ⊥)
      → OnOk r (HasFew new)
  few-added (Ok ended) is few or_ended = by_length (ended_length bytes) refl
    where
      by_length : (n : ℕ) → ended_length bytes ≡ n → HasFew new
      by_length zero e =
          let short : length old.bytes.items ≤ longest_line =
          ⊎_elim (λ long. absurd (or_ended long e)) (λ le. le)
          (cases_lt longest_line (length old.bytes.items)) in
          omega (
            arith,
            few,
            short,
            ap length is,
            unended-le (old.bytes.items ++ bytes),
            length-append old.bytes.items bytes,
          )
      by_length (suc k) e =
          let none : ended_length bytes ≡ 0 → ⊥ = λ h. omega (arith, h, e) in
          omega (
            arith,
            few,
            ap length is,
            unended-last old.bytes.items bytes none,
          )
  few-added (Err e) is few or_ended = tt

module _ {T E : Type 0} (old new : LineFront) (some : 0 < length old.bytes.items) where
  -- a line was ended
  pub ended-front : (items : T → List ℕ) (r : Result T E)
      → IfOk r (λ ended. items ended ≡ ended_bytes (old.bytes.items ++ 10 ∷ []))
      → IfOk r (λ ended. (pending_bytes : List ℕ) → IsFrontOf pending_bytes old
      → GivesSameLines (items ended) (ended_bytes (with_feed pending_bytes)))
  ended-front items (Ok ended) is = λ pending_bytes h.
      subst (λ (l : List ℕ). GivesSameLines (items ended) (ended_bytes l))
      (sym (with_feed-some pending_bytes old h some))
      (subst (λ (l : List ℕ). GivesSameLines l (ended_bytes (pending_bytes ++ 10 ∷ []))) (sym is)
      (lines-add pending_bytes (10 ∷ []) old h))
  ended-front items (Err e) is = tt

  pub rest-front : (r : Result T E)
      → OnOk r (new.bytes.items ≡ unended_bytes (old.bytes.items ++ 10 ∷ []))
      → OnOk r ((pending_bytes : List ℕ) → IsFrontOf pending_bytes old
      → IsFrontOf (unended_bytes (with_feed pending_bytes)) new)
  rest-front (Ok ended) is = λ pending_bytes h.
      subst (λ (l : List ℕ). IsFrontOf (unended_bytes l) new)
      (sym (with_feed-some pending_bytes old h some))
      (rest-add pending_bytes (10 ∷ []) old new h is)
  rest-front (Err e) is = tt

  pub few-front : (r : Result T E)
      → OnOk r (new.bytes.items ≡ unended_bytes (old.bytes.items ++ 10 ∷ []))
      → OnOk r (HasFew new)
  few-front (Ok ended) is =
      let some_ended : ended_length (10 ∷ []) ≡ 0 → ⊥ = λ h. omega (arith, h) in
      omega (arith, ap length is, unended-last old.bytes.items (10 ∷ []) some_ended)
  few-front (Err e) is = tt

-- what is not empty has a byte
pub not_empty : (front : LineFront) → (front.bytes.len == 0) ≡ false
    → 0 < length front.bytes.items
not_empty front is =
    let size : length front.bytes.items ≡ front.bytes.len = sym (front.bytes.ok.0) in
    ⊎_elim
    (λ lt. omega (arith, lt, size))
    (λ le. absurd (eqb-false front.bytes.len 0 is (omega (arith, le))))
    (cases_lt 0 front.bytes.len)

-- a length that is more than that of the longest line
pub long_of : (front : LineFront) (n : ℕ) → n ≡ front.bytes.len → longest_line < n
    → longest_line < length front.bytes.items
long_of front n is long = omega (arith, is, long, front.bytes.ok.0)

pub not_long : (front : LineFront) (n : ℕ) → n ≡ front.bytes.len → n ≤ longest_line
    → longest_line < length front.bytes.items → ⊥
not_long front n is short long = omega (arith, is, short, long, front.bytes.ok.0)
