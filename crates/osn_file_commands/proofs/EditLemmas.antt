-- Edits and batches that are applied in turn, and a register that advances to a later edition.
use Rattle.std.proofs.Common.{◌≡◌, ℕ, ◌+◌, ◌-◌, ◌<◌, ◌≤◌, List, [], ◌∷◌, ◌++◌, length, get_or}
use Rattle.std.proofs.Common.{take, drop, refl, sym, ap, subst, ◌∙◌, arith, append_assoc, None}
use Rattle.std.specs.List.{slice_range}
use Rattle.std.proofs.lemmas.List.{drop_more, drop-take, take-take, take-append-drop}
use Rattle.osn_days.specs.Rules.{newest_rules}
use Rattle.osn_register.specs.declared.edit.Edit.{Edit}
use Rattle.osn_register.specs.declared.limits.Limits.{Limits}
use Rattle.osn_register.specs.Plain.{EntryModel, refusal, effect, after_edits}
use Rattle.osn_register.specs.Lawful.{AreLawful}
use Rattle.osn_core.specs.Sequential.{joined}
use Rattle.osn_core.proofs.Lawful.{after_edits-append, after_edit-lawful, AreLawful-front}
use Rattle.osn_core.proofs.Lawful.{AreLawful-after}

-- the rest of a list from an element on
pub left_from : {A : Type 0} (xs : List A) (i : ℕ) (x : A) → i < length xs → x ≡ get_or xs i x
    → drop i xs ≡ x ∷ drop (i + 1) xs
left_from xs i x within is = drop_more xs i x within ∙ ap (λ y. y ∷ drop (i + 1) xs) (sym is)

-- of lawful edits the next one is lawful, and those after it are so after its effect
pub next_lawful : (limits : Limits) (old : List EntryModel) (es : List Edit) (i : ℕ) (e : Edit)
    → i < length es → e ≡ get_or es i e → AreLawful newest_rules limits old (drop i es)
    → (refusal newest_rules limits old e ≡ None)
    × AreLawful newest_rules limits (effect old e) (drop (i + 1) es)
next_lawful limits old es i e within is lawful =
    subst (AreLawful newest_rules limits old) (left_from es i e within is) lawful

-- one lawful edit more is applied
pub edit_more : (limits : Limits) (old new all : List EntryModel) (es : List Edit) (i : ℕ)
    (e : Edit) → i < length es → e ≡ get_or es i e → new ≡ effect old e
    → AreLawful newest_rules limits old (drop i es)
    → after_edits newest_rules limits old (drop i es) ≡ all
    → after_edits newest_rules limits new (drop (i + 1) es) ≡ all
edit_more limits old new all es i e within is one lawful so_far =
    ap (λ ls. after_edits newest_rules limits ls (drop (i + 1) es))
    (one ∙ sym (after_edit-lawful newest_rules limits old e
    (next_lawful limits old es i e within is lawful).0))
    ∙ (sym (ap (after_edits newest_rules limits old) (left_from es i e within is)) ∙ so_far)

-- of lawful batches the next one is lawful, and those after it are so after its edits
pub next_batch_lawful : (limits : Limits) (old : List EntryModel) (bs : List (List Edit)) (i : ℕ)
    (b : List Edit) → i < length bs → b ≡ get_or bs i b
    → AreLawful newest_rules limits old (joined (drop i bs))
    → AreLawful newest_rules limits old b
    × AreLawful newest_rules limits (after_edits newest_rules limits old b)
    (joined (drop (i + 1) bs))
next_batch_lawful limits old bs i b within is lawful =
    let rest = joined (drop (i + 1) bs) in
    let all : AreLawful newest_rules limits old (b ++ rest) =
    subst (λ cs. AreLawful newest_rules limits old (joined cs)) (left_from bs i b within is) lawful
    in (
      AreLawful-front newest_rules limits old b rest all,
      AreLawful-after newest_rules limits old b rest all,
    )

-- one batch more is applied
pub batch_more : (limits now : Limits) (old new all : List EntryModel) (bs : List (List Edit))
    (i : ℕ) (b : List Edit) → i < length bs → b ≡ get_or bs i b → now ≡ limits
    → new ≡ after_edits newest_rules now old b
    → after_edits newest_rules limits old (joined (drop i bs)) ≡ all
    → after_edits newest_rules limits new (joined (drop (i + 1) bs)) ≡ all
batch_more limits now old new all bs i b within is same one so_far =
    ap (λ ls. after_edits newest_rules limits ls (joined (drop (i + 1) bs)))
    (one ∙ ap (λ m. after_edits newest_rules m old b) same)
    ∙ (sym (after_edits-append newest_rules limits old b (joined (drop (i + 1) bs)))
    ∙ (sym (ap (λ cs. after_edits newest_rules limits old (joined cs)) (left_from bs i b within is))
    ∙ so_far))

joined-append : (bs cs : List (List Edit)) → joined (bs ++ cs) ≡ joined bs ++ joined cs
joined-append [] cs = refl
joined-append (b ∷ bs) cs =
    ap (λ es. b ++ es) (joined-append bs cs) ∙ sym (append_assoc b (joined bs) (joined cs))

-- the first batches are fewer of them and those between
parts : (bs : List (List Edit)) (from to : ℕ) → from ≤ to
    → take from bs ++ slice_range bs from to ≡ take to bs
parts bs from to order =
    let whole : from + (to - from) ≡ to = omega (arith, order) in
    ap (λ cs. take from bs ++ cs) (sym (drop-take from (to - from) bs))
    ∙ (ap (λ cs. cs ++ drop from (take (from + (to - from)) bs))
    (sym (take-take from (from + (to - from)) bs (omega arith)))
    ∙ (take-append-drop from (take (from + (to - from)) bs) ∙ ap (λ n. take n bs) whole))

-- a register of the first batches, to which those between are applied, is that of more batches
pub territories_on : (limits : Limits) (bs : List (List Edit)) (from to : ℕ)
    (old new : List EntryModel) → from ≤ to
    → old ≡ after_edits newest_rules limits [] (joined (take from bs))
    → new ≡ after_edits newest_rules limits old (joined (slice_range bs from to))
    → new ≡ after_edits newest_rules limits [] (joined (take to bs))
territories_on limits bs from to old new order was one =
    one
    ∙ (ap (λ ls. after_edits newest_rules limits ls (joined (slice_range bs from to))) was
    ∙ (sym (after_edits-append newest_rules limits [] (joined (take from bs))
    (joined (slice_range bs from to)))
    ∙ ap (after_edits newest_rules limits [])
    (sym (joined-append (take from bs) (slice_range bs from to))
    ∙ ap joined (parts bs from to order))))

-- of lawful batches those between two are lawful after the first ones
pub lawful_between : (limits : Limits) (bs : List (List Edit)) (from to : ℕ)
    (old : List EntryModel) → from ≤ to
    → old ≡ after_edits newest_rules limits [] (joined (take from bs))
    → AreLawful newest_rules limits [] (joined bs)
    → AreLawful newest_rules limits old (joined (slice_range bs from to))
lawful_between limits bs from to old order was lawful =
    let first = joined (take from bs) in
    let between = joined (slice_range bs from to) in
    let last = joined (drop to bs) in
    let whole : joined bs ≡ (first ++ between) ++ last =
    ap joined (sym (take-append-drop to bs))
    ∙ joined-append (take to bs) (drop to bs)
    ∙ ap (λ es. es ++ last) (ap joined (sym (parts bs from to order))
    ∙ joined-append (take from bs) (slice_range bs from to)) in
    subst (λ ls. AreLawful newest_rules limits ls between) (sym was)
    (AreLawful-after newest_rules limits [] first between
    (AreLawful-front newest_rules limits [] (first ++ between) last
    (subst (AreLawful newest_rules limits []) whole lawful)))
