-- The exchange that adds a batch keeps the rule of the history.
use Rattle.std.proofs.Common.{◌≡◌, ℕ, ◌+◌, ◌<◌, ◌==◌, Bool, true, false, List, [], ◌∷◌, ◌++◌}
use Rattle.std.proofs.Common.{length, refl, ap, sym, subst, arith, inl, length-append, None}
use Rattle.std.proofs.lemmas.List.{append-nil}
use Rattle.std.proofs.lemmas.Bool.Decides.{nat_tests}
use mathlib.Core.List.{IsPrefix}
use prog.Atomic.{either}
use Rattle.logbook.specs.Pages.{Cell, cell, keeps, no_nib, step, Moves, Goes}
use Rattle.osn_register.specs.declared.edit.Edit.{Edit}
use Rattle.osn_live.specs.InsideHistory.{HoldsLength, Adds}
use Rattle.osn_live.proofs.Prefixes.{prefix_whole}

abbrev pub no_batches : List (List Edit) → List (List Edit)
no_batches log = []

abbrev pub moved : List (List Edit) → List (List Edit) → ℕ → Type 0
moved xs ys n = Unit {0}

adds_goes : (log v : List (List Edit)) (e : List Edit) (old : ℕ) → length v ≡ old →
    IsPrefix v log → (b : Bool) → (length log == old) ≡ b →
    Goes HoldsLength no_batches moved 0 (v, (no_nib, None)) (λ n. either (n == old) (old + 1) n)
    (Adds (step 0 old (old + 1) e) (v, (no_nib, None))) ((length log, true) ∷ (0, true) ∷ []) log
adds_goes log v e old len pre true is =
    let here : length log ≡ old = grind (arith, nat_tests) in
    let same : v ≡ log = prefix_whole v log pre (omega arith) in
    let n : either (length log == old) (old + 1) (length log) ≡ length (log ++ e ∷ []) =
    rw is (omega (arith, length-append log (e ∷ []))) in (
      keeps,
      e ∷ [],
      None,
      tt,
      record { words = ap (λ (k : ℕ). (k, true) ∷ (0, true) ∷ []) n },
      inl (refl, refl),
      (λ found. ap (λ w. w ++ e ∷ []) (sym same)),
    )
adds_goes log v e old len pre false is =
    let all : log ++ [] ≡ log = append-nil log in
    let n : either (length log == old) (old + 1) (length log) ≡ length (log ++ []) =
    rw is (ap length (sym all)) in (
      keeps,
      [],
      None,
      tt,
      record { words = ap (λ (k : ℕ). (k, true) ∷ (0, true) ∷ []) n },
      inl (refl, refl),
      (λ found. absurd (grind (arith, nat_tests))),
    )

-- whatever the book is, the exchange adds the batch to all that was seen, if the number found is
-- the one expected
pub add_moves : (v : List (List Edit)) (e : List Edit) (old : ℕ) → length v ≡ old →
    Moves HoldsLength no_batches moved 0 (v, (no_nib, None)) (λ n. either (n == old) (old + 1) n)
    (Adds (step 0 old (old + 1) e) (v, (no_nib, None)))
add_moves v e old len cs log rule pre away =
    let P : List Cell → Type 0 = λ c. (0 < length c) × ((cell c 0).1 ≡ true)
    × Goes HoldsLength no_batches moved 0 (v, (no_nib, None)) (λ n. either (n == old) (old + 1) n)
    (Adds (step 0 old (old + 1) e) (v, (no_nib, None))) c log in
    subst P (sym rule.words)
    (omega arith, refl, adds_goes log v e old len pre (length log == old) refl)
