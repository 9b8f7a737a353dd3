-- The edits of batches in order: what one more batch gives, and the edits without the last ones.
use Rattle.std.proofs.Common.{◌≡◌, ℕ, suc, ◌+◌, ◌-◌, ◌<◌, List, [], ◌∷◌, ◌++◌, length}
use Rattle.std.proofs.Common.{take, slice_get, unwrap_or, Some, refl, sym, ap}
use Rattle.std.proofs.Common.{◌∙◌, arith, append_assoc, append-nil, length-append}
use Rattle.std.proofs.lemmas.List.{take_all, take_at}
use Rattle.osn_register.specs.declared.edit.Edit.{Edit}
use Rattle.osn_core.specs.Sequential.{joined, last_batch, without_last, NoneEmpty}

pub joined-push : (bs : List (List Edit)) (b : List Edit) → joined (bs ++ b ∷ []) ≡ joined bs ++ b
joined-push [] b = append-nil b
joined-push (c ∷ bs) b = ap (λ es. c ++ es) (joined-push bs b) ∙ sym (append_assoc c (joined bs) b)

slice_get-push : (bs : List (List Edit)) (b : List Edit) →
    slice_get (bs ++ b ∷ []) (length bs) ≡ Some b
slice_get-push [] b = refl
slice_get-push (c ∷ bs) b = slice_get-push bs b

pub last_batch-push : (bs : List (List Edit)) (b : List Edit) → last_batch (bs ++ b ∷ []) ≡ b
last_batch-push bs b =
    let at : length (bs ++ b ∷ []) - 1 ≡ length bs = omega (arith, length-append bs (b ∷ [])) in
    ap (λ i. unwrap_or (slice_get (bs ++ b ∷ []) i) []) at ∙ ap (λ o. unwrap_or o [])
    (slice_get-push bs b)

pub NoneEmpty-push : (bs : List (List Edit)) (b : List Edit) → NoneEmpty bs → 0 < length b →
    NoneEmpty (bs ++ b ∷ [])
NoneEmpty-push [] b none some = (some, tt)
NoneEmpty-push (c ∷ bs) b none some = (none.0, NoneEmpty-push bs b none.1 some)

pub without_none : (es : List Edit) (lag : ℕ) → lag ≡ 0 → without_last lag es ≡ es
without_none es lag none = take_all (length es - lag) es (omega (arith, none))

pub without_part : (es fs : List Edit) → without_last (length fs) (es ++ fs) ≡ es
without_part es fs =
    let rest : length es ≡ length (es ++ fs) - length fs = omega (arith, length-append es fs) in
    take_at es fs (length (es ++ fs) - length fs) rest

-- all batches without the last, and the last
pub split_last : (c : List Edit) (bs : List (List Edit)) →
    joined (c ∷ bs) ≡ joined (take (length bs) (c ∷ bs)) ++ last_batch (c ∷ bs)
split_last c [] = append-nil c
split_last c (d ∷ bs) =
    let one : length (c ∷ d ∷ bs) - 1 ≡ suc (length bs) = omega arith in
    let zero-one : length (d ∷ bs) - 1 ≡ length bs = omega arith in
    let same : last_batch (d ∷ bs) ≡ last_batch (c ∷ d ∷ bs) =
    ap (λ i. unwrap_or (slice_get (d ∷ bs) i) []) zero-one
    ∙ sym (ap (λ i. unwrap_or (slice_get (c ∷ d ∷ bs) i) []) one) in
    ap (λ es. c ++ es) (split_last d bs)
    ∙ sym (append_assoc c (joined (take (length bs) (d ∷ bs))) (last_batch (d ∷ bs)))
    ∙ ap (λ es. (c ++ joined (take (length bs) (d ∷ bs))) ++ es) same

pub without_batch : (bs : List (List Edit)) (k : ℕ) → k + 1 ≡ length bs →
    without_last (length (last_batch bs)) (joined bs) ≡ joined (take k bs)
without_batch [] k is = absurd (omega (arith, is))
without_batch (c ∷ bs) k is =
    let at : length bs ≡ k = omega (arith, is) in
    ap (without_last (length (last_batch (c ∷ bs)))) (split_last c bs)
    ∙ without_part (joined (take (length bs) (c ∷ bs))) (last_batch (c ∷ bs))
    ∙ ap (λ n. joined (take n (c ∷ bs))) at
