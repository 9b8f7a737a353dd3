-- Lists of queries, with one query more.
use Rattle.std.proofs.Common.{◌≡◌, ℕ, zero, suc, ◌≤◌, List, [], ◌∷◌, ◌++◌, length, map, refl, ap}
use Rattle.std.proofs.Common.{◌∙◌, arith, Vec, Global, subst, sym, ◌<◌, ◌-◌, set, get_or}
use Rattle.std.proofs.lemmas.List.{map-append, length-map}
use Rattle.osn_register.specs.declared.query.Query.{Query}
use Rattle.osn_files.specs.QuestionsInside.{with_query_at, with_query}

-- an empty list after those that are there makes no difference to a query of a later reader
with_query_at-empty : (lists : List (List Query)) (n : ℕ) (q : Query) → length lists ≤ n
    → with_query_at (lists ++ [] ∷ []) n q ≡ with_query_at lists n q
with_query_at-empty [] zero q short = refl
with_query_at-empty [] (suc n) q short = refl
with_query_at-empty (qs ∷ lists) zero q short = absurd (omega arith)
with_query_at-empty (qs ∷ lists) (suc n) q short =
    ap (λ l. qs ∷ l) (with_query_at-empty lists n q (omega arith))

abbrev pub lists_of : List (Vec Query Global) → List (List Query)
lists_of vs = map (λ qs. qs.items) vs

pub with_query_at-grown : (vs new : List (Vec Query Global)) (v : Vec Query Global) (n : ℕ)
    (q : Query) → new ≡ vs ++ v ∷ [] → v.items ≡ [] → length vs ≤ n
    → with_query_at (lists_of new) n q ≡ with_query_at (lists_of vs) n q
with_query_at-grown vs new v n q grown empty short =
    ap (λ l. with_query_at (lists_of l) n q) grown
    ∙ (ap (λ l. with_query_at l n q) (map-append (λ qs. qs.items) vs (v ∷ []))
    ∙ (ap (λ e. with_query_at (lists_of vs ++ e ∷ []) n q) empty
    ∙ with_query_at-empty (lists_of vs) n q
    (subst (λ k. k ≤ n) (sym (length-map vs (λ qs. qs.items))) short)))

-- a query after those of a reader who has a list
pub with_query_at-put : (vs : List (Vec Query Global)) (v w : Vec Query Global) (n : ℕ) (q : Query)
    → n < length vs → w ≡ get_or vs n w → v.items ≡ w.items ++ q ∷ []
    → lists_of (set vs n v) ≡ with_query_at (lists_of vs) n q
with_query_at-put [] v w n q long at more = absurd (omega arith)
with_query_at-put (u ∷ vs) v w zero q long at more =
    ap (λ l. l ∷ lists_of vs) (more ∙ ap (λ (t : Vec Query Global). t.items ++ q ∷ []) at)
with_query_at-put (u ∷ vs) v w (suc n) q long at more =
    ap (λ l. u.items ∷ l) (with_query_at-put vs v w n q (omega arith) at more)

-- readers are counted from 1
pub with_query-from_one : (lists : List (List Query)) (reader : ℕ) (q : Query) → 0 < reader
    → with_query lists reader q ≡ with_query_at lists (reader - 1) q
with_query-from_one lists zero q counted = absurd (omega (arith, counted))
with_query-from_one lists (suc n) q counted =
    ap (λ k. with_query_at lists k q) (omega arith)
