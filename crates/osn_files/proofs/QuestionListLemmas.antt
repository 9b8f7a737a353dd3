-- The queries of each reader, with one query more, and those that are made of lines.
use Rattle.std.proofs.Common.{◌≡◌, ℕ, zero, suc, ◌+◌, ◌<◌, ◌≤◌, max, map, List, [], ◌∷◌, ◌++◌}
use Rattle.std.proofs.Common.{Some, None, Result, Ok, Err, refl, ap, sym, ◌∙◌}
use Rattle.std.proofs.Common.{arith, ◌⊎◌, inl, inr}
use Rattle.std.specs.Prelude.{if◌then◌else◌}
use Rattle.std.specs.List.{range_with_len, cons_option}
use Rattle.std.proofs.lemmas.Bool.{eq-eqb, ne_eqb}
use Rattle.std.proofs.lemmas.List.Elements.{filter_map-append}
use Rattle.std.proofs.lemmas.List.{append-nil}
use native.Mathlib.Nat.{max-zero, zero-max, suc-max-suc, le-max_left, le-max_right, max-le}
use Rattle.serde_json.specs.Data.{Data}
use Rattle.osn_register.specs.declared.query.Query.{Query}
use Rattle.osn_request.specs.Request.{object_of}
use Rattle.osn_request.specs.declared.version.Version.{Version}
use Rattle.osn_request.specs.Version.{newest_version}
use Rattle.osn_files.specs.Questions.{query_by, queries_of, greatest_reader, by_reader}
use Rattle.osn_files.specs.Questions.{question_in, with_question, all_by_reader, questions}
use Rattle.osn_files.specs.QuestionsInside.{with_query_at, with_query, with_object}
use Rattle.osn_files.specs.Turns.{on_read, go_on, in_turn}

-- lists by two rules that differ at no place
map-same : (f g : ℕ → List Query) (k m : ℕ)
    → ((r : ℕ) → k ≤ r → g r ≡ f r)
    → map f (range_with_len k m) ≡ map g (range_with_len k m)
map-same f g k zero same = refl
map-same f g k (suc m) same =
    ap (λ qs. qs ∷ map f (range_with_len (k + 1) m)) (sym (same k (omega arith)))
    ∙ ap (λ l. g k ∷ l) (map-same f g (k + 1) m (λ r late. same r (omega (arith, late))))

-- lists by a rule, with one query more
with_query_at-rule : (f g : ℕ → List Query) (k m n j : ℕ) (q : Query) → j ≡ k + n
    → ((r : ℕ) → k + m ≤ r → f r ≡ [])
    → ((r : ℕ) → (r < j) ⊎ (j < r) → g r ≡ f r)
    → g j ≡ f j ++ q ∷ []
    → with_query_at (map f (range_with_len k m)) n q
    ≡ map g (range_with_len k (max m (suc n)))
with_query_at-rule f g k zero zero j q at none same more =
    ap (λ qs. (qs ++ q ∷ []) ∷ []) (sym (none j (omega (arith, at))))
    ∙ ap (λ qs. qs ∷ []) (sym more)
    ∙ ap (λ r. g r ∷ []) (omega (arith, at))
with_query_at-rule f g k zero (suc n) j q at none same more =
    ap (λ l. [] ∷ l) (with_query_at-rule f g (k + 1) zero n j q (omega (arith, at))
    (λ r late. none r (omega (arith, late))) same more)
    ∙ ap (λ m. [] ∷ map g (range_with_len (k + 1) m)) (zero-max (suc n))
    ∙ ap (λ qs. qs ∷ map g (range_with_len (k + 1) (suc n)))
    (sym (same k (inl (omega (arith, at))) ∙ none k (omega arith)))
    ∙ ap (λ m. map g (range_with_len k m)) (sym (zero-max (suc (suc n))))
with_query_at-rule f g k (suc m) zero j q at none same more =
    ap (λ r. (f r ++ q ∷ []) ∷ map f (range_with_len (k + 1) m)) {x = k} {y = j}
    (omega (arith, at))
    ∙ ap (λ qs. qs ∷ map f (range_with_len (k + 1) m)) (sym more)
    ∙ ap (λ r. g r ∷ map f (range_with_len (k + 1) m)) {x = j} {y = k} (omega (arith, at))
    ∙ ap (λ l. g k ∷ l) (map-same f g (k + 1) m
    (λ r late. same r (inr (omega (arith, at, late)))))
    ∙ ap (λ n. map g (range_with_len k n))
    (sym (suc-max-suc m zero ∙ ap suc (max-zero m)))
with_query_at-rule f g k (suc m) (suc n) j q at none same more =
    ap (λ l. f k ∷ l) (with_query_at-rule f g (k + 1) m n j q (omega (arith, at))
    (λ r late. none r (omega (arith, late))) same more)
    ∙ ap (λ qs. qs ∷ map g (range_with_len (k + 1) (max m (suc n))))
    (sym (same k (inl (omega (arith, at)))))
    ∙ ap (λ n. map g (range_with_len k n)) (sym (suc-max-suc m (suc n)))

-- the query of another reader, and of the reader
query_by-other : (reader r : ℕ) (q : Query) → (r ≡ reader → ⊥)
    → query_by reader (r, q) ≡ None
query_by-other reader r q other =
    ap (λ b. if b then Some q else None) (ne_eqb r reader other)

query_by-own : (r : ℕ) (q : Query) → query_by r (r, q) ≡ Some q
query_by-own r q = ap (λ b. if b then Some q else None) (eq-eqb r r refl)

-- a reader after the greatest one asks nothing
queries_of-none : (asked : List (ℕ × Query)) (r : ℕ) → greatest_reader asked < r
    → queries_of asked r ≡ []
queries_of-none [] r late = refl
queries_of-none (a ∷ asked) r late =
    ap (λ o. cons_option o (queries_of asked r)) (query_by-other r a.0 a.1
    (λ same. omega (arith, late, same, le-max_left a.0 (greatest_reader asked))))
    ∙ queries_of-none asked r (omega (arith, late, le-max_right a.0 (greatest_reader asked)))

max-assoc : (a b c : ℕ) → max a (max b c) ≡ max (max a b) c
max-assoc a b c =
    let ab : max a b ≤ max (max a b) c = le-max_left (max a b) c in
    let bc : max b c ≤ max a (max b c) = le-max_right a (max b c) in
    omega (
      arith,
      max-le {a = a} {b = max b c} {k = max (max a b) c} (omega (arith, ab, le-max_left a b))
          (max-le {a = b} {b = c} {k = max (max a b) c} (omega (arith, ab, le-max_right a b))
          (le-max_right (max a b) c)),
      max-le {a = max a b} {b = c} {k = max a (max b c)}
          (max-le {a = a} {b = b} {k = max a (max b c)} (le-max_left a (max b c))
          (omega (arith, bc, le-max_left b c)))
          (omega (arith, bc, le-max_right b c)),
    )

-- the greatest reader with one question more
greatest-more : (asked : List (ℕ × Query)) (a : ℕ × Query)
    → greatest_reader (asked ++ a ∷ []) ≡ max (greatest_reader asked) a.0
greatest-more [] a = max-zero a.0 ∙ sym (zero-max a.0)
greatest-more (b ∷ asked) a =
    ap (max b.0) (greatest-more asked a) ∙ max-assoc b.0 (greatest_reader asked) a.0

-- what a reader asks with one question more
queries_of-other : (asked : List (ℕ × Query)) (j r : ℕ) (q : Query) → (j ≡ r → ⊥)
    → queries_of (asked ++ (j, q) ∷ []) r ≡ queries_of asked r
queries_of-other asked j r q other =
    filter_map-append (query_by r) asked ((j, q) ∷ [])
    ∙ ap (λ o. queries_of asked r ++ cons_option o []) (query_by-other r j q other)
    ∙ append-nil (queries_of asked r)

queries_of-own : (asked : List (ℕ × Query)) (j : ℕ) (q : Query)
    → queries_of (asked ++ (j, q) ∷ []) j ≡ queries_of asked j ++ q ∷ []
queries_of-own asked j q =
    filter_map-append (query_by j) asked ((j, q) ∷ [])
    ∙ ap (λ o. queries_of asked j ++ cons_option o []) (query_by-own j q)

apart : (j r : ℕ) → (r < j) ⊎ (j < r) → j ≡ r → ⊥
apart j r (inl before) same = omega (arith, before, same)
apart j r (inr behind) same = omega (arith, behind, same)

-- the lists of questions, with one more
by_reader-more : (asked : List (ℕ × Query)) (a : ℕ × Query)
    → with_query (by_reader asked) a.0 a.1 ≡ by_reader (asked ++ a ∷ [])
by_reader-more asked (zero, q) =
    map-same (queries_of asked) (queries_of (asked ++ (zero, q) ∷ [])) 1 (greatest_reader asked)
    (λ r late. queries_of-other asked zero r q (apart zero r (inr late)))
    ∙ ap (λ m. map (queries_of (asked ++ (zero, q) ∷ [])) (range_with_len 1 m))
    (sym (greatest-more asked (zero, q) ∙ max-zero (greatest_reader asked)))
by_reader-more asked (suc n, q) =
    with_query_at-rule (queries_of asked) (queries_of (asked ++ (suc n, q) ∷ [])) 1
    (greatest_reader asked) n (suc n) q (omega arith)
    (λ r late. queries_of-none asked r (omega (arith, late)))
    (λ r side. queries_of-other asked (suc n) r q (apart (suc n) r side))
    (queries_of-own asked (suc n) q)
    ∙ ap (λ m. map (queries_of (asked ++ (suc n, q) ∷ [])) (range_with_len 1 m))
    (sym (greatest-more asked (suc n, q)))

-- a value that is made of another
abbrev result_as : {S T F : Type 0} → (S → T) → Result S F → Result T F
result_as make (Ok s) = Ok (make s)
result_as make (Err e) = Err e

-- an object adds its query to the lists of the questions before it
object_question : (version : Version) (asked : List (ℕ × Query)) (d : Data)
    → with_object version (by_reader asked) d
    ≡ result_as by_reader (with_question version asked d)
object_question version asked d =
    elim (question_in d) as (λ r.
    on_read r (λ question. Ok (with_query (by_reader asked) question.0 question.1))
    ≡ result_as by_reader (on_read r (λ question. Ok (asked ++ question ∷ [])))) [
      | Ok question ↦ ap Ok (by_reader-more asked question)
      | Err f ↦ refl
    ]

-- the lists that lines make are those of their questions
in_turn-questions : (n : ℕ) (version : Version) (asked : List (ℕ × Query)) (ls : List (List ℕ))
    → in_turn with_object n (Some version) (by_reader asked) ls
    ≡ all_by_reader (in_turn with_question n (Some version) asked ls)
in_turn-questions n version asked [] = refl
in_turn-questions n version asked (l ∷ ls) =
    let lists = λ (made : List (List Query)). in_turn with_object (n + 1) (Some version) made ls in
    let all = λ (made : List (ℕ × Query)). in_turn with_question (n + 1) (Some version) made ls in
    elim (object_of l) as (λ r.
    go_on n (on_read r (with_object version (by_reader asked))) lists
    ≡ all_by_reader (go_on n (on_read r (with_question version asked)) all)) [
      | Ok d ↦ ap (λ r. go_on n r lists) (object_question version asked d)
          ∙ elim (with_question version asked d) as (λ r.
          go_on n (result_as by_reader r) lists ≡ all_by_reader (go_on n r all)) [
            | Ok more ↦ in_turn-questions (n + 1) version more ls
            | Err f ↦ refl
          ]
      | Err f ↦ refl
    ]

pub questions-made : (version : Version) (none : List (List Query)) (ls : List (List ℕ))
    → version ≡ newest_version → none ≡ []
    → in_turn with_object 1 (Some version) none ls ≡ questions ls
questions-made version none ls newest empty =
    ap (λ lists. in_turn with_object 1 (Some version) lists ls) empty
    ∙ (ap (λ v. in_turn with_object 1 (Some v) [] ls) newest
    ∙ in_turn-questions 1 newest_version [] ls)
