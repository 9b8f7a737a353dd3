-- Territories in the order of their codes are the same territories by code.
use Rattle.std.proofs.Common.{◌≡◌, ℕ, suc, Bool, true, false, cond, List, [], ◌∷◌, length, Option}
use Rattle.std.proofs.Common.{Some, None, refl, sym, ap, ◌∙◌, ◌+◌, arith, Ordering, Less, Equal}
use Rattle.std.proofs.Common.{Greater, nat_cmp, is_eq}
use Rattle.std.proofs.lemmas.Bool.{false≢true, false_from_ne_true}
use Rattle.std.proofs.lemmas.Map.Text.{is_eq-slice_cmp}
use Rattle.std.proofs.lemmas.Slice.Eq.{bytes_eq-Decides}
use Rattle.std.specs.Cmp.Lexicographic.{slice_cmp}
use Rattle.std.specs.Option.{option_or}
use Rattle.std.specs.Str.{bytes_eq}
use Rattle.osn_days.specs.Rules.{newest_rules}
use Rattle.osn_register.specs.declared.limits.Limits.{Limits}
use Rattle.osn_register.specs.Code.{is_code, is_name}
use Rattle.osn_register.specs.Plain.{EntryModel, entry_of, AreDistinct, IsSoundTerritory}
use Rattle.osn_register.specs.Sources.{HasSources}
use Rattle.osn_register.proofs.EntryFacts.{apart_first}

-- puts a territory before the first, in its place, or among those after it
abbrev pub insert_sorted_by : Ordering → EntryModel → EntryModel → List EntryModel → List EntryModel
    → List EntryModel
insert_sorted_by Less l m ms more = l ∷ m ∷ ms
insert_sorted_by Equal l m ms more = record l { code = m.code } ∷ ms
insert_sorted_by Greater l m ms more = m ∷ more

-- the territories with one more, before the first that has a later code
abbrev pub insert_sorted : EntryModel → List EntryModel → List EntryModel
insert_sorted l [] = l ∷ []
insert_sorted l (m ∷ ms) =
    insert_sorted_by (slice_cmp nat_cmp l.code m.code) l m ms (insert_sorted l ms)

-- the first territories, with the others among them in turn
abbrev pub sorted_territories : List EntryModel → List EntryModel → List EntryModel
sorted_territories done [] = done
sorted_territories done (l ∷ ls) = sorted_territories (insert_sorted l done) ls

-- none of the territories has the code of one of the others
abbrev pub AreNew : List EntryModel → List EntryModel → Type 0
AreNew [] done = Unit {0}
AreNew (l ∷ ls) done = (entry_of l.code done ≡ None) × AreNew ls done

-- ---- codes

other_way : (a b : List ℕ) → bytes_eq a b ≡ false → bytes_eq b a ≡ false
other_way a b apart =
    false_from_ne_true (bytes_eq b a) (λ same.
    let is : a ≡ b = sym ((bytes_eq-Decides b a).0 same) in
    false≢true (sym apart ∙ (bytes_eq-Decides a b).1 is))

not_both : (code a b : List ℕ) → bytes_eq a b ≡ false → bytes_eq code b ≡ true
    → bytes_eq code a ≡ true → ⊥
not_both code a b apart is_b is_a =
    false≢true (sym apart ∙ (bytes_eq-Decides a b).1
    (sym ((bytes_eq-Decides code a).0 is_a) ∙ (bytes_eq-Decides code b).0 is_b))

exchanged : {X : Type 0} (a b : Bool) (x y z : X) → (a ≡ true → b ≡ true → ⊥)
    → cond a x (cond b y z) ≡ cond b y (cond a x z)
exchanged true true x y z apart = absurd (apart refl refl)
exchanged true false x y z apart = refl
exchanged false true x y z apart = refl
exchanged false false x y z apart = refl

-- ---- one more

-- what a code finds
entry_of-insert_sorted : (code : List ℕ) (l : EntryModel) (done : List EntryModel)
    → entry_of l.code done ≡ None
    → entry_of code (insert_sorted l done)
    ≡ cond (bytes_eq code l.code) (Some l) (entry_of code done)
entry_of-insert_sorted code l [] none = refl
entry_of-insert_sorted code l (m ∷ ms) none =
    by (slice_cmp nat_cmp l.code m.code) (is_eq-slice_cmp l.code m.code
    ∙ (apart_first l.code m ms none).0)
    (entry_of-insert_sorted code l ms (apart_first l.code m ms none).1)
  where
    by : (o : Ordering) → is_eq o ≡ false
        → entry_of code (insert_sorted l ms)
        ≡ cond (bytes_eq code l.code) (Some l) (entry_of code ms)
        → entry_of code (insert_sorted_by o l m ms (insert_sorted l ms))
        ≡ cond (bytes_eq code l.code) (Some l) (entry_of code (m ∷ ms))
    by Less other more = refl
    by Equal other more = absurd (false≢true (sym other))
    by Greater other more =
        ap (cond (bytes_eq code m.code) (Some m)) more
        ∙ exchanged (bytes_eq code m.code) (bytes_eq code l.code) (Some m) (Some l)
        (entry_of code ms)
        (λ is_m is_l. not_both code l.code m.code (apart_first l.code m ms none).0 is_m is_l)

AreDistinct-insert_sorted : (l : EntryModel) (done : List EntryModel) → entry_of l.code done ≡ None
    → AreDistinct done → AreDistinct (insert_sorted l done)
AreDistinct-insert_sorted l [] none distinct = (refl, tt)
AreDistinct-insert_sorted l (m ∷ ms) none distinct =
    by (slice_cmp nat_cmp l.code m.code) (is_eq-slice_cmp l.code m.code
    ∙ (apart_first l.code m ms none).0)
    (AreDistinct-insert_sorted l ms (apart_first l.code m ms none).1 distinct.1)
  where
    by : (o : Ordering) → is_eq o ≡ false → AreDistinct (insert_sorted l ms)
        → AreDistinct (insert_sorted_by o l m ms (insert_sorted l ms))
    by Less other more = (none, distinct)
    by Equal other more = absurd (false≢true (sym other))
    by Greater other more =
        let (apart, free) = apart_first l.code m ms none in (
          entry_of-insert_sorted m.code l ms free
              ∙ ap (λ b. cond b (Some l) (entry_of m.code ms)) (other_way l.code m.code apart)
              ∙ distinct.0,
          more,
        )

length-insert_sorted : (l : EntryModel) (done : List EntryModel) → entry_of l.code done ≡ None
    → length (insert_sorted l done) ≡ suc (length done)
length-insert_sorted l [] none = refl
length-insert_sorted l (m ∷ ms) none =
    by (slice_cmp nat_cmp l.code m.code) (is_eq-slice_cmp l.code m.code
    ∙ (apart_first l.code m ms none).0)
    (length-insert_sorted l ms (apart_first l.code m ms none).1)
  where
    by : (o : Ordering) → is_eq o ≡ false → length (insert_sorted l ms) ≡ suc (length ms)
        → length (insert_sorted_by o l m ms (insert_sorted l ms))
        ≡ suc (suc (length ms))
    by Less other more = refl
    by Equal other more = absurd (false≢true (sym other))
    by Greater other more = ap suc more

-- what the edits of a territory need
pub record IsReadable (limits : Limits) (l : EntryModel) : Type 0 where
  pub code : is_code l.code ≡ true
  pub name : is_name l.name ≡ true
  pub sound : IsSoundTerritory newest_rules limits l.territory
  pub sources : HasSources l.sources

abbrev pub AreReadable : Limits → List EntryModel → Type 0
AreReadable limits [] = Unit {0}
AreReadable limits (l ∷ ls) = IsReadable limits l × AreReadable limits ls

AreReadable-insert_sorted : (limits : Limits) (l : EntryModel) (done : List EntryModel)
    → IsReadable limits l
    → AreReadable limits done → AreReadable limits (insert_sorted l done)
AreReadable-insert_sorted limits l [] can all = (can, tt)
AreReadable-insert_sorted limits l (m ∷ ms) can all =
    by (slice_cmp nat_cmp l.code m.code) (AreReadable-insert_sorted limits l ms can all.1)
  where
    by : (o : Ordering) → AreReadable limits (insert_sorted l ms) → AreReadable limits
        (insert_sorted_by o l m ms (insert_sorted l ms))
    by Less more = (can, all)
    by Equal more = (
      record {
        code = all.0.code;
        name = can.name;
        sound = can.sound;
        sources = can.sources;
      },
      all.1,
    )
    by Greater more = (all.0, more)

pub AreNew-insert_sorted : (l : EntryModel) (ls done : List EntryModel) → entry_of l.code done
    ≡ None → entry_of l.code ls ≡ None → AreNew ls done → AreNew ls (insert_sorted l done)
AreNew-insert_sorted l [] done none apart new = tt
AreNew-insert_sorted l (m ∷ ms) done none apart new =
    let (other, more) = apart_first l.code m ms apart in (
      entry_of-insert_sorted m.code l done none
          ∙ ap (λ b. cond b (Some l) (entry_of m.code done)) (other_way l.code m.code other)
          ∙ new.0,
      AreNew-insert_sorted l ms done none more new.1,
    )

-- ---- all of them

found_by : (b : Bool) (l : EntryModel) (rest before : Option EntryModel) → (b ≡ true → rest ≡ None)
    → option_or rest (cond b (Some l) before) ≡ option_or (cond b (Some l) rest) before
found_by true l rest before none = ap (λ o. option_or o (Some l)) (none refl)
found_by false l rest before none = refl

entry_of-among : (code : List ℕ) (done ls : List EntryModel) → AreNew ls done → AreDistinct ls
    → entry_of code (sorted_territories done ls) ≡ option_or (entry_of code ls) (entry_of code done)
entry_of-among code done [] new distinct = refl
entry_of-among code done (l ∷ ls) new distinct =
    entry_of-among code (insert_sorted l done) ls
    (AreNew-insert_sorted l ls done new.0 distinct.0 new.1) distinct.1
    ∙ ap (option_or (entry_of code ls)) (entry_of-insert_sorted code l done new.0)
    ∙ found_by (bytes_eq code l.code) l (entry_of code ls) (entry_of code done)
    (λ same. ap (λ c. entry_of c ls) ((bytes_eq-Decides code l.code).0 same) ∙ distinct.0)

AreDistinct-among : (done ls : List EntryModel) → AreNew ls done → AreDistinct ls → AreDistinct done
    → AreDistinct (sorted_territories done ls)
AreDistinct-among done [] new distinct before = before
AreDistinct-among done (l ∷ ls) new distinct before =
    AreDistinct-among (insert_sorted l done) ls
    (AreNew-insert_sorted l ls done new.0 distinct.0 new.1) distinct.1
    (AreDistinct-insert_sorted l done new.0 before)

length-among : (done ls : List EntryModel) → AreNew ls done → AreDistinct ls
    → length (sorted_territories done ls) ≡ length done + length ls
length-among done [] new distinct = omega arith
length-among done (l ∷ ls) new distinct =
    omega (
      arith,
      length-among (insert_sorted l done) ls
          (AreNew-insert_sorted l ls done new.0 distinct.0 new.1) distinct.1,
      length-insert_sorted l done new.0,
    )

AreReadable-among : (limits : Limits) (done ls : List EntryModel) → AreReadable limits ls
    → AreReadable limits done → AreReadable limits (sorted_territories done ls)
AreReadable-among limits done [] all before = before
AreReadable-among limits done (l ∷ ls) all before =
    AreReadable-among limits (insert_sorted l done) ls all.1
    (AreReadable-insert_sorted limits l done all.0 before)

-- ---- from none

pub AreNew-none : (ls : List EntryModel) → AreNew ls []
AreNew-none [] = tt
AreNew-none (l ∷ ls) = (refl, AreNew-none ls)

or_none : (o : Option EntryModel) → option_or o None ≡ o
or_none None = refl
or_none (Some l) = refl

pub entry_of-all : (code : List ℕ) (ls : List EntryModel) → AreDistinct ls
    → entry_of code (sorted_territories [] ls) ≡ entry_of code ls
entry_of-all code ls distinct =
    entry_of-among code [] ls (AreNew-none ls) distinct ∙ or_none (entry_of code ls)

pub AreDistinct-all : (ls : List EntryModel) → AreDistinct ls →
    AreDistinct (sorted_territories [] ls)
AreDistinct-all ls distinct = AreDistinct-among [] ls (AreNew-none ls) distinct tt

pub length-all : (ls : List EntryModel) → AreDistinct ls → length (sorted_territories [] ls)
    ≡ length ls
length-all ls distinct = omega (arith, length-among [] ls (AreNew-none ls) distinct)

pub AreReadable-all : (limits : Limits) (ls : List EntryModel) → AreReadable limits ls
    → AreReadable limits (sorted_territories [] ls)
AreReadable-all limits ls all = AreReadable-among limits [] ls all tt
