-- The last of some runs, by its place.
use Rattle.std.proofs.Common.{◌≡◌, ◌≤◌, ◌-◌, suc, List, [], ◌∷◌, Some, ap, ◌∙◌, arith, length}
use Rattle.std.proofs.Common.{get_or}
use Rattle.osn_territory.specs.declared.runs.Run.{Run}
use Rattle.osn_written.specs.Spans.{last_of}

pub last_at : (rs : List Run) (r : Run) → 1 ≤ length rs → r ≡ get_or rs (length rs - 1) r
    → Some r.last ≡ last_of rs
last_at [] r some at = absurd (omega (arith, some))
last_at (q ∷ []) r some at =
    let place : suc 0 - 1 ≡ 0 = omega arith in
    ap (λ (x : Run). Some x.last) (at ∙ ap (λ n. get_or (q ∷ []) n r) place)
last_at (q ∷ next ∷ rest) r some at =
    let place : suc (suc (length rest)) - 1 ≡ suc (length rest) = omega arith in
    let later : length rest ≡ suc (length rest) - 1 = omega arith in
    last_at (next ∷ rest) r (omega arith) (at
    ∙ ap (λ n. get_or (q ∷ next ∷ rest) n r) place
    ∙ ap (λ n. get_or (next ∷ rest) n r) later)
