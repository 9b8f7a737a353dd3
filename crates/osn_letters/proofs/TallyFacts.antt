-- Row by row a tally is that of the rows so far.
use Rattle.std.proofs.Common.{◌≡◌, ◌∙◌, ◌+◌, ◌==◌, ℕ, zero, suc, Bool, true, false, cond, List}
use Rattle.std.proofs.Common.{[], ◌∷◌, ◌++◌, length, count_by, refl, sym, ap, subst, arith}
use Rattle.std.proofs.Common.{Bor, codes, map}
use Rattle.std.proofs.Common.{Option, Some, unwrap_or, if◌then◌else◌, ◌||◌, nat_cmp}
use Rattle.std.proofs.Common.{length-append, append_assoc, append-nil, Ordering, ◌<◌}
use Rattle.std.proofs.Common.{take, get_or, add-one}
use Rattle.std.proofs.Math.Seq.{take-suc}
use Rattle.std.proofs.Common.{eqb-true}
use Rattle.std.proofs.lemmas.Cmp.{nat_list_cmp_total}
use Rattle.std.proofs.lemmas.List.Sums.{sum_by-append}
use Rattle.std.proofs.lemmas.Map.Lookups.{exact_bytes}
use Rattle.std.proofs.lemmas.Map.Text.{is_eq-slice_cmp}
use Rattle.std.specs.BTreeMap.{insert_entry, is_at}
use Rattle.std.specs.Cmp.Lexicographic.{slice_cmp}
use Rattle.std.specs.List.{AllByRecursion}
use Rattle.std.specs.Map.{keys_of, lookup}
use Rattle.std.specs.declared.cmp.Ordering.TheVariants.{Less, Equal, Greater}
use Rattle.std.specs.Ordering.{is_eq, match_ordering}
use Rattle.std.specs.Ordering.{ordering_reverse}
use Rattle.std.specs.Str.{bytes_eq}
use Rattle.osn_letters.specs.declared.remark.Remark.{Remark}
use Rattle.osn_letters.specs.Remarks.{remark_words}
use Rattle.osn_letters.specs.Tally.{AreInOrder, up_to_most, has_words, if_any, is_remarked}
use Rattle.osn_letters.specs.Tally.{IsTally, TallyModel, count_line, remark_lines, tally_text}
use Rattle.osn_letters.specs.TallyInside.{count_before, no_rows, remarked_with, with_remarks}
use Rattle.osn_letters.specs.TallyInside.{with_row, with_rows, with_words}

-- texts in their order
abbrev compare : List ℕ → List ℕ → Ordering
compare = slice_cmp nat_cmp

abbrev Counts : Type 0
Counts = List (List ℕ × ℕ)

-- ---- what a count finds after it was put

cond_twice : {X : Type 0} (b : Bool) (x y z : X) → cond b x z ≡ cond b x (cond b y z)
cond_twice true x y z = refl
cond_twice false x y z = refl

cond_apart : {X : Type 0} (b c : Bool) (x y old new : X) → (b ≡ true → c ≡ true → ⊥)
    → new ≡ cond c y old → cond b x new ≡ cond c y (cond b x old)
cond_apart true true x y old new apart is = absurd (apart refl refl)
cond_apart true false x y old new apart is = refl
cond_apart false c x y old new apart is = is

same_words : (q k : List ℕ) → bytes_eq q k ≡ true → q ≡ k
same_words q k h = exact_bytes q k (sure (slice_cmp nat_cmp q k) (is_eq-slice_cmp q k ∙ h))
  where
    sure : (o : Ordering) → is_eq o ≡ true → o ≡ Equal
    sure Equal h = refl
    sure Less h = absurd (cc h)
    sure Greater h = absurd (cc h)

found_placed : (q k : List ℕ) (v : ℕ) (e : List ℕ × ℕ) (es rest : Counts) (o : Ordering)
    → o ≡ compare k e.0
    → lookup (bytes_eq q) rest ≡ cond (bytes_eq q k) (Some v) (lookup (bytes_eq q) es)
    → lookup (bytes_eq q) (match_ordering o ((k, v) ∷ e ∷ es) ((e.0, v) ∷ es) (e ∷ rest))
    ≡ cond (bytes_eq q k) (Some v) (lookup (bytes_eq q) (e ∷ es))
found_placed q k v e es rest Less is more = refl
found_placed q k v e es rest Equal is more =
    cond_twice (bytes_eq q e.0) (Some v) (Some e.1) (lookup (bytes_eq q) es)
    ∙ ap (λ w. cond (bytes_eq q w) (Some v) (lookup (bytes_eq q) (e ∷ es)))
    (sym (exact_bytes k e.0 (sym is)))
found_placed q k v e es rest Greater is more =
    cond_apart (bytes_eq q e.0) (bytes_eq q k) (Some e.1) (Some v) (lookup (bytes_eq q) es)
    (lookup (bytes_eq q) rest)
    (λ here there. absurd (cc (ap is_eq is ∙ is_eq-slice_cmp k e.0
    ∙ ap (λ w. bytes_eq w e.0) (sym (same_words q k there)) ∙ here)))
    more

found_inserted : (q k : List ℕ) (v : ℕ) (es : Counts)
    → lookup (bytes_eq q) (insert_entry compare es k v)
    ≡ cond (bytes_eq q k) (Some v) (lookup (bytes_eq q) es)
found_inserted q k v [] = refl
found_inserted q k v (e ∷ es) =
    found_placed q k v e es (insert_entry compare es k v) (compare k e.0) refl
    (found_inserted q k v es)

-- the test by which a map looks up
pub same_test : {X : Type 0} (q : List ℕ) (es : List (List ℕ × X))
    → lookup (is_at (compare q)) es ≡ lookup (bytes_eq q) es
same_test q [] = refl
same_test q (e ∷ es) =
    ap (λ b. cond b (Some e.1) (lookup (is_at (compare q)) es)) (is_eq-slice_cmp q e.0)
    ∙ ap (cond (bytes_eq q e.0) (Some e.1)) (same_test q es)

-- ---- the order

all_placed : (P : List ℕ → Type 0) (k : List ℕ) (v : ℕ) (e : List ℕ × ℕ) (es rest : Counts)
    (o : Ordering) → AllByRecursion P (keys_of (e ∷ es)) → P k → AllByRecursion P (keys_of rest)
    → AllByRecursion P
    (keys_of (match_ordering o ((k, v) ∷ e ∷ es) ((e.0, v) ∷ es) (e ∷ rest)))
all_placed P k v e es rest Less all here more = (here, all)
all_placed P k v e es rest Equal all here more = all
all_placed P k v e es rest Greater all here more = (all.0, more)

all_inserted : (P : List ℕ → Type 0) (k : List ℕ) (v : ℕ) (es : Counts)
    → AllByRecursion P (keys_of es) → P k
    → AllByRecursion P (keys_of (insert_entry compare es k v))
all_inserted P k v [] all here = (here, tt)
all_inserted P k v (e ∷ es) all here =
    all_placed P k v e es (insert_entry compare es k v) (compare k e.0) all here
    (all_inserted P k v es all.1 here)

all_above : (k x : List ℕ) (ks : List (List ℕ)) → compare k x ≡ Less
    → AllByRecursion (λ y. compare x y ≡ Less) ks → AllByRecursion (λ y. compare k y ≡ Less) ks
all_above k x [] low all = tt
all_above k x (y ∷ ks) low (first, all) =
    (nat_list_cmp_total.trans k x y low first, all_above k x ks low all)

sorted_placed : (k : List ℕ) (v : ℕ) (e : List ℕ × ℕ) (es rest : Counts) (o : Ordering)
    → o ≡ compare k e.0 → AreInOrder (keys_of (e ∷ es))
    → (compare e.0 k ≡ Less → AllByRecursion (λ y. compare e.0 y ≡ Less) (keys_of rest))
    → AreInOrder (keys_of rest)
    → AreInOrder
    (keys_of (match_ordering o ((k, v) ∷ e ∷ es) ((e.0, v) ∷ es) (e ∷ rest)))
sorted_placed k v e es rest Less is (first, sorted) above more =
    ((sym is, all_above k e.0 (keys_of es) (sym is) first), (first, sorted))
sorted_placed k v e es rest Equal is sorted above more = sorted
sorted_placed k v e es rest Greater is sorted above more =
    (above (nat_list_cmp_total.antisymm e.0 k ∙ ap ordering_reverse (sym is)), more)

sorted_inserted : (k : List ℕ) (v : ℕ) (es : Counts) → AreInOrder (keys_of es)
    → AreInOrder (keys_of (insert_entry compare es k v))
sorted_inserted k v [] sorted = (tt, tt)
sorted_inserted k v (e ∷ es) sorted =
    sorted_placed k v e es (insert_entry compare es k v) (compare k e.0) refl sorted
    (all_inserted (λ y. compare e.0 y ≡ Less) k v es sorted.0)
    (sorted_inserted k v es sorted.1)

sorted_remarks : (remarks : List Remark) (counts : Counts)
    → AreInOrder (keys_of counts)
    → AreInOrder (keys_of (with_remarks counts remarks))
sorted_remarks [] counts sorted = sorted
sorted_remarks (r ∷ rest) counts sorted =
    sorted_remarks rest (with_words counts (remark_words r))
    (sorted_inserted (remark_words r) _ counts sorted)

-- ---- the counts

most_more : (n : ℕ) → up_to_most (up_to_most n + 1) ≡ up_to_most (n + 1)
most_more n = grind (arith)

-- no two of these remarks have the same words
abbrev pub AreApart : List Remark → Type 0
AreApart [] = Unit {0}
AreApart (r ∷ rest) = (has_words (remark_words r) rest ≡ false) × AreApart rest

one_remark : (has here : Bool) (n : ℕ) (old new : Option ℕ) → (here ≡ true → has ≡ false)
    → (here ≡ true → n ≡ unwrap_or old 0) → new ≡ cond here (Some (up_to_most (n + 1))) old
    → (if has then Some (up_to_most (unwrap_or new 0 + 1)) else new)
    ≡ (if here || has then Some (up_to_most (unwrap_or old 0 + 1)) else old)
one_remark true true n old new apart count is = absurd (cc (apart refl))
one_remark false true n old new apart count is =
    is ∙ ap (λ m. Some (up_to_most (m + 1))) (count refl)
one_remark has false n old new apart count is =
    ap (λ o. if has then Some (up_to_most (unwrap_or o 0 + 1)) else o) is

found_remarks : (q : List ℕ) (remarks : List Remark) (counts : Counts) → AreApart remarks
    → lookup (bytes_eq q) (with_remarks counts remarks)
    ≡ (if has_words q remarks then Some (up_to_most (unwrap_or (lookup (bytes_eq q) counts) 0 + 1))
    else lookup (bytes_eq q) counts)
found_remarks q [] counts apart = refl
found_remarks q (r ∷ rest) counts (first, apart) =
    let w = remark_words r in
    found_remarks q rest (with_words counts w) apart
    ∙ one_remark (has_words q rest) (bytes_eq q w) (count_before counts w)
    (lookup (bytes_eq q) counts) (lookup (bytes_eq q) (with_words counts w))
    (λ here. ap (λ x. has_words x rest) (same_words q w here) ∙ first)
    (λ here. ap (λ o. unwrap_or o 0) (same_test w counts)
    ∙ ap (λ x. unwrap_or (lookup (bytes_eq x) counts) 0) (sym (same_words q w here)))
    (found_inserted q w _ counts)

more_of : (n : ℕ) → Some (up_to_most (unwrap_or (if_any n) 0 + 1)) ≡ if_any (n + 1)
more_of zero = refl
more_of (suc n) =
    ap Some (most_more (suc n))
    ∙ (ap (λ m. Some (up_to_most m)) (add-one (suc n)) ∙ sym (ap if_any (add-one (suc n))))

-- the rows that pass a test, with one row more
one_passes : {X : Type 0} (test : X → Bool) (rows : List X) (x : X)
    → count_by test (rows ++ x ∷ []) ≡ (if test x then count_by test rows + 1
    else count_by test rows)
one_passes test rows x = grind (arith, sum_by-append (λ y. cond (test y) 1 0) rows (x ∷ []))

count_with_row : (q : List ℕ) (rows : List (List Remark)) (remarks : List Remark) (has : Bool)
    (found : Option ℕ) → found ≡ if_any (count_by (has_words q) rows) → has_words q remarks ≡ has
    → (if has then Some (up_to_most (unwrap_or found 0 + 1)) else found)
    ≡ if_any (count_by (has_words q) (rows ++ remarks ∷ []))
count_with_row q rows remarks true found is has =
    ap (λ o. Some (up_to_most (unwrap_or o 0 + 1))) is
    ∙ (more_of (count_by (has_words q) rows)
    ∙ ap if_any (sym (one_passes (has_words q) rows remarks
    ∙ ap (λ b. if b then count_by (has_words q) rows + 1 else count_by (has_words q) rows) has)))
count_with_row q rows remarks false found is has =
    is ∙ ap if_any (sym (one_passes (has_words q) rows remarks
    ∙ ap (λ b. if b then count_by (has_words q) rows + 1 else count_by (has_words q) rows) has))

remarked_with_row : (rows : List (List Remark)) (remarks : List Remark) (n : ℕ)
    → n ≡ up_to_most (count_by is_remarked rows)
    → remarked_with n remarks
    ≡ up_to_most (count_by is_remarked (rows ++ remarks ∷ []))
remarked_with_row rows [] n is =
    is ∙ ap up_to_most (sym (one_passes is_remarked rows []))
remarked_with_row rows (r ∷ rest) n is =
    ap (λ m. up_to_most (m + 1)) is
    ∙ (most_more (count_by is_remarked rows)
    ∙ ap up_to_most (sym (one_passes is_remarked rows (r ∷ rest))))

-- ---- the tally

pub none_tallied : IsTally [] no_rows
none_tallied = record { rows = refl; remarked = refl; by_remark = λ words. refl; order = tt }

row_tallied : (rows : List (List Remark)) (tally : TallyModel) (remarks : List Remark)
    → AreApart remarks → IsTally rows tally
    → IsTally (rows ++ remarks ∷ []) (with_row tally remarks)
unfolding with_row
row_tallied rows tally remarks apart is = record {
  rows =
      ap (λ n. up_to_most (n + 1)) is.rows
      ∙ (most_more (length rows) ∙ ap up_to_most (sym (length-append rows (remarks ∷ []))));
  remarked = remarked_with_row rows remarks tally.remarked is.remarked;
  by_remark =
      λ words. found_remarks words remarks tally.by_remark apart
      ∙ count_with_row words rows remarks (has_words words remarks)
      (lookup (bytes_eq words) tally.by_remark) (is.by_remark words) refl;
  order = sorted_remarks remarks tally.by_remark is.order;
}

abbrev pub AreAllApart : List (List Remark) → Type 0
AreAllApart [] = Unit {0}
AreAllApart (remarks ∷ rest) = AreApart remarks × AreAllApart rest

pub rows_tallied : (rows more : List (List Remark)) (tally : TallyModel) → AreAllApart more
    → IsTally rows tally → IsTally (rows ++ more) (with_rows tally more)
rows_tallied rows [] tally apart is =
    subst (λ rs. IsTally rs tally) (sym (append-nil rows)) is
rows_tallied rows (remarks ∷ more) tally (first, apart) is =
    subst (λ rs. IsTally rs (with_rows (with_row tally remarks) more))
    (append_assoc rows (remarks ∷ []) more)
    (rows_tallied (rows ++ remarks ∷ []) more (with_row tally remarks) apart
    (row_tallied rows tally remarks first is))

-- ---- in the map of the code

-- an entry as its words and its count
abbrev pub plain_entry : Bor (List ℕ) × ℕ → List ℕ × ℕ
plain_entry e = (e.0.now, e.1)

mapped_placed : (k : Bor (List ℕ)) (v : ℕ) (e : Bor (List ℕ) × ℕ)
    (es rest : List (Bor (List ℕ) × ℕ)) (more : Counts) (o : Ordering) → map plain_entry rest ≡ more
    → map plain_entry (match_ordering o ((k, v) ∷ e ∷ es) ((e.0, v) ∷ es) (e ∷ rest))
    ≡ match_ordering o ((k.now, v) ∷ plain_entry e ∷ map plain_entry es)
    ((e.0.now, v) ∷ map plain_entry es) (plain_entry e ∷ more)
mapped_placed k v e es rest more Less is = refl
mapped_placed k v e es rest more Equal is = refl
mapped_placed k v e es rest more Greater is = ap (λ xs. plain_entry e ∷ xs) is

mapped_inserted : (k : Bor (List ℕ)) (v : ℕ) (es : List (Bor (List ℕ) × ℕ))
    → map plain_entry (insert_entry (λ x y. slice_cmp nat_cmp x.now y.now) es k v)
    ≡ insert_entry compare (map plain_entry es) k.now v
mapped_inserted k v [] = refl
mapped_inserted k v (e ∷ es) =
    mapped_placed k v e es (insert_entry (λ x y. slice_cmp nat_cmp x.now y.now) es k v) _
    (compare k.now e.0.now) (mapped_inserted k v es)

mapped_found : (q : List ℕ) (es : List (Bor (List ℕ) × ℕ))
    → lookup (λ k. is_eq (slice_cmp nat_cmp q k.now)) es
    ≡ lookup (is_at (compare q)) (map plain_entry es)
mapped_found q [] = refl
mapped_found q (e ∷ es) =
    ap (cond (is_eq (compare q e.0.now)) (Some e.1)) (mapped_found q es)

-- one more for the remark with these words
pub words_counted : (counts : Counts) (es new : List (Bor (List ℕ) × ℕ)) (words : Bor (List ℕ))
    (n : ℕ) → counts ≡ map plain_entry es
    → new ≡ insert_entry (λ x y. slice_cmp nat_cmp x.now y.now) es words n
    → n ≡ up_to_most (unwrap_or (lookup (λ k. is_eq (slice_cmp nat_cmp words.now k.now)) es) 0 + 1)
    → map plain_entry new ≡ with_words counts words.now
words_counted counts es new words n seen is count =
    ap (map plain_entry) is
    ∙ (mapped_inserted words n es
    ∙ (ap (insert_entry compare (map plain_entry es) words.now)
    (count ∙ ap (λ o. up_to_most (unwrap_or o 0 + 1)) (mapped_found words.now es))
    ∙ ap (λ cs. with_words cs words.now) (sym seen)))

-- one remark more
pub remark_counted : (counts : Counts) (remarks : List Remark) (r : Remark)
    → with_remarks counts (remarks ++ r ∷ [])
    ≡ with_words (with_remarks counts remarks) (remark_words r)
remark_counted counts [] r = refl
remark_counted counts (first ∷ rest) r =
    remark_counted (with_words counts (remark_words first)) rest r

-- one line more
pub line_pushed : (front : List ℕ) (es : Counts) (e : List ℕ × ℕ)
    → remark_lines front (es ++ e ∷ []) ≡ remark_lines front es ++ count_line front e.0 e.1
line_pushed front [] e = append-nil (count_line front e.0 e.1)
line_pushed front (first ∷ rest) e =
    ap (λ text. count_line front first.0 first.1 ++ text) (line_pushed front rest e)
    ∙ sym (append_assoc (count_line front first.0 first.1) (remark_lines front rest)
    (count_line front e.0 e.1))

-- one remark more of some
pub remark_taken : (old now new : Counts) (remarks : List Remark) (i : ℕ) (d : Remark)
    (words : List ℕ) → i < length remarks → now ≡ with_remarks old (take i remarks)
    → words ≡ remark_words (get_or remarks i d) → new ≡ with_words now words
    → new ≡ with_remarks old (take (i + 1) remarks)
remark_taken old now new remarks i d words low so_far words_are is =
    is ∙ (ap (λ cs. with_words cs words) so_far
    ∙ (ap (with_words (with_remarks old (take i remarks))) words_are
    ∙ (sym (remark_counted old (take i remarks) (get_or remarks i d))
    ∙ ap (with_remarks old) (sym (take-suc remarks i d low)
    ∙ ap (λ k. take k remarks) (sym (add-one i))))))

-- whether a row has a remark
pub some_remarked : (n : ℕ) (remarks : List Remark) → (length remarks == 0) ≡ false
    → up_to_most (n + 1) ≡ remarked_with n remarks
some_remarked n [] some = absurd (cc some)
some_remarked n (r ∷ rest) some = refl

pub none_remarked : (n : ℕ) (remarks : List Remark) → (length remarks == 0) ≡ true
    → n ≡ remarked_with n remarks
none_remarked n [] none = refl
none_remarked n (r ∷ rest) none = absurd (omega (arith, eqb-true (length (r ∷ rest)) 0 none))

-- one row more
pub row_counted : (old : TallyModel) (remarks : List Remark) (rows remarked : ℕ) (counts : Counts)
    → rows ≡ up_to_most (old.rows + 1) → remarked ≡ remarked_with old.remarked remarks
    → counts ≡ with_remarks old.by_remark remarks
    → record { rows = rows; remarked = remarked; by_remark = counts } ≡ with_row old remarks
unfolding with_row
row_counted old remarks rows remarked counts rows_are remarked_are counts_are =
    rw (rows_are, remarked_are, counts_are) refl

-- the lines before those of the remarks
pub first_lines : (front initial first second : List ℕ) (tally : TallyModel)
    (es : List (Bor (List ℕ) × ℕ)) → initial ≡ []
    → first ≡ initial ++ count_line front (codes "rows") tally.rows
    → second ≡ first ++ count_line front (codes "rows with a remark") tally.remarked
    → map plain_entry es ≡ tally.by_remark
    → second ++ remark_lines front (map plain_entry es) ≡ tally_text front tally
unfolding tally_text
first_lines front initial first second tally es empty first_is second_is counts =
    let line = count_line front (codes "rows") tally.rows in
    ap (λ t. t ++ remark_lines front (map plain_entry es))
    (second_is ∙ ap (λ t. t ++ count_line front (codes "rows with a remark") tally.remarked)
    (first_is ∙ ap (λ t. t ++ line) empty))
    ∙ (append_assoc line (count_line front (codes "rows with a remark") tally.remarked)
    (remark_lines front (map plain_entry es))
    ∙ ap (λ cs. line ++ (count_line front (codes "rows with a remark") tally.remarked
    ++ remark_lines front cs)) counts)

-- the lines of the entries that are left
pub next_line : (front text new whole line : List ℕ) (e : Bor (List ℕ) × ℕ)
    (left rest : List (Bor (List ℕ) × ℕ)) → left ≡ e ∷ rest
    → text ++ remark_lines front (map plain_entry left) ≡ whole
    → new ≡ text ++ count_line front e.0.now e.1
    → new ++ remark_lines front (map plain_entry rest) ≡ whole
next_line front text new whole line e left rest is so_far pushed =
    ap (λ t. t ++ remark_lines front (map plain_entry rest)) pushed
    ∙ (append_assoc text (count_line front e.0.now e.1) (remark_lines front (map plain_entry rest))
    ∙ (ap (λ es. text ++ remark_lines front (map plain_entry es)) (sym is) ∙ so_far))
