-- Numbers in a row: what a filter passes of them, what a search finds, and what a test finds among
-- those that a filter passes.
use Rattle.std.proofs.Common.{◌≡◌, ℕ, zero, suc, ◌+◌, ◌-◌, ◌<◌, ◌≤◌, ◌⊎◌, inl, inr, Bool, true}
use Rattle.std.proofs.Common.{false, ◌&&◌, ◌||◌, ◌==◌, if◌then◌else◌, List, [], ◌∷◌, ◌++◌, filter}
use Rattle.std.proofs.Common.{length, Option, Some, None, is_some}
use Rattle.std.proofs.Common.{refl, sym, ap, ◌∙◌, arith, eqb-true}
use Rattle.std.proofs.Math.Bool.{and-true, or-false}
use Rattle.std.proofs.lemmas.Bool.{and_right, cases_order, false_from_ne_true, false≢true}
use Rattle.std.proofs.lemmas.Bool.{or_cases, or_left, or_right}
use Rattle.std.proofs.lemmas.Bool.Decides.{Decides-eqb}
use Rattle.std.proofs.lemmas.List.{append-nil}
use Rattle.std.proofs.lemmas.List.Elements.{filter-append}
use Rattle.std.specs.List.{range_with_len, find, list_any}
use Rattle.osn_days.specs.Rules.{Rules}
use Rattle.osn_days.specs.Line.{line, IsDay}

-- a row of numbers is its two parts

pub range_split : (a m n : ℕ) → range_with_len a (m + n) ≡ range_with_len a m
    ++ range_with_len (a + m) n
range_split a zero n = let none : 0 + n ≡ n = omega arith in let here : a + 0 ≡ a = omega arith in
    ap (range_with_len a) none ∙ ap (λ k. range_with_len k n) (sym here)
range_split a (suc m) n =
    let on : suc m + n ≡ suc (m + n) = omega arith in
    let next : a + 1 + m ≡ a + suc m = omega arith in
    ap (range_with_len a) on ∙ ap (λ l. a ∷ l) (range_split (a + 1) m n
    ∙ ap (λ k. range_with_len (a + 1) m ++ range_with_len k n) next)

pub range_join : (a b e : ℕ) → a ≤ b → b ≤ e →
    range_with_len a (e - a) ≡ range_with_len a (b - a) ++ range_with_len b (e - b)
range_join a b e low high =
    let all : e - a ≡ (b - a) + (e - b) = omega arith in
    let next : a + (b - a) ≡ b = omega arith in
    ap (range_with_len a) all ∙ range_split a (b - a) (e - b)
    ∙ ap (λ k. range_with_len a (b - a) ++ range_with_len k (e - b)) next

-- a filter depends only on what its test says within the row

pub filter_same : (f g : ℕ → Bool) (a n : ℕ) → ((d : ℕ) → a ≤ d → d < a + n → f d ≡ g d) →
    filter f (range_with_len a n) ≡ filter g (range_with_len a n)
filter_same f g a zero same = refl
filter_same f g a (suc n) same =
    ap (λ b. if b then a ∷ filter f (range_with_len (a + 1) n)
    else filter f (range_with_len (a + 1) n)) (same a (omega arith) (omega arith))
    ∙ ap (λ l. if g a then a ∷ l else l)
    (filter_same f g (a + 1) n (λ d low high. same d (omega arith) (omega arith)))

pub filter_none : (f : ℕ → Bool) (a n : ℕ) → ((d : ℕ) → a ≤ d → d < a + n → f d ≡ false) →
    filter f (range_with_len a n) ≡ []
filter_none f a zero none = refl
filter_none f a (suc n) none =
    rw (none a (omega arith) (omega arith))
    (filter_none f (a + 1) n (λ d low high. none d (omega arith) (omega arith)))

pub filter_all : (f : ℕ → Bool) (a n : ℕ) → ((d : ℕ) → a ≤ d → d < a + n → f d ≡ true) →
    filter f (range_with_len a n) ≡ range_with_len a n
filter_all f a zero all = refl
filter_all f a (suc n) all =
    rw (all a (omega arith) (omega arith))
    (ap (λ l. a ∷ l) (filter_all f (a + 1) n (λ d low high. all d (omega arith) (omega arith))))

-- a filter of a row of numbers is that of its two parts
pub filter_two : (f : ℕ → Bool) (a e m : ℕ) (xs ys : List ℕ) → a ≤ m → m ≤ e →
    filter f (range_with_len a (m - a)) ≡ xs → filter f (range_with_len m (e - m)) ≡ ys →
    filter f (range_with_len a (e - a)) ≡ xs ++ ys
filter_two f a e m xs ys low high first second =
    ap (filter f) (range_join a m e low high)
    ∙ filter-append f (range_with_len a (m - a)) (range_with_len m (e - m))
    ∙ ap (λ l. l ++ filter f (range_with_len m (e - m))) first
    ∙ ap (λ l. xs ++ l) second

-- the numbers that pass lie between two bounds, and there another test says which
pub filter_part : (f g : ℕ → Bool) (a b c e : ℕ) → a ≤ b → b ≤ c → c ≤ e →
    ((d : ℕ) → a ≤ d → d < b → f d ≡ false) → ((d : ℕ) → b ≤ d → d < c → f d ≡ g d) →
    ((d : ℕ) → c ≤ d → d < e → f d ≡ false) →
    filter f (range_with_len a (e - a)) ≡ filter g (range_with_len b (c - b))
filter_part f g a b c e first next last before inside after =
    filter_two f a e b [] (filter g (range_with_len b (c - b)) ++ []) first (omega arith)
    (filter_none f a (b - a) (λ d low high. before d low (omega arith)))
    (filter_two f b e c (filter g (range_with_len b (c - b))) [] next last
    (filter_same f g b (c - b) (λ d low high. inside d low (omega arith)))
    (filter_none f c (e - c) (λ d low high. after d low (omega arith))))
    ∙ append-nil (filter g (range_with_len b (c - b)))

-- the numbers that pass are those from one bound to the one before another
pub filter_run : (f : ℕ → Bool) (a b c e : ℕ) → a ≤ b → b ≤ c → c ≤ e →
    ((d : ℕ) → a ≤ d → d < b → f d ≡ false) → ((d : ℕ) → b ≤ d → d < c → f d ≡ true) →
    ((d : ℕ) → c ≤ d → d < e → f d ≡ false) →
    filter f (range_with_len a (e - a)) ≡ range_with_len b (c - b)
filter_run f a b c e first next last before inside after =
    filter_part f (λ d. true) a b c e first next last before inside after
    ∙ filter_all (λ d. true) b (c - b) (λ d low high. refl)

-- one number passes, and no other
pub filter_one : (f : ℕ → Bool) (a n d : ℕ) → a ≤ d → d < a + n → f d ≡ true →
    ((e : ℕ) → a ≤ e → e < a + n → e < d ⊎ (d < e) → f e ≡ false) →
    filter f (range_with_len a n) ≡ d ∷ []
filter_one f a zero d low high is others = absurd (omega arith)
filter_one f a (suc n) d low high is others =
    elim (cases_order a d) [
      | inl same ↦ rw (ap f same ∙ is)
          (rw (filter_none f (a + 1) n
          (λ e l h. others e (omega arith) (omega arith) (inr (omega arith))))
          (ap (λ x. x ∷ []) same))
      | inr (inl lt) ↦ rw (others a (omega arith) (omega arith) (inl lt))
          (filter_one f (a + 1) n d (omega arith) (omega arith) is
          (λ e l h apart. others e (omega arith) (omega arith) apart))
      | inr (inr gt) ↦ absurd (omega arith)
    ]

-- a filter of what another one passes

both_step : (h : ℕ → Bool) (a : ℕ) (here : Bool) (ds es : List ℕ) → filter h ds ≡ es →
    filter h (if here then a ∷ ds else ds) ≡ (if here && h a then a ∷ es else es)
both_step h a true ds es rest = ap (λ l. if h a then a ∷ l else l) rest
both_step h a false ds es rest = rest

pub filter_both : (h f : ℕ → Bool) (xs : List ℕ) →
    filter h (filter f xs) ≡ filter (λ d. f d && h d) xs
filter_both h f [] = refl
filter_both h f (a ∷ xs) =
    both_step h a (f a) (filter f xs) (filter (λ d. f d && h d) xs) (filter_both h f xs)

-- of what a filter of all passes, what lies within two bounds is that of the numbers between them
pub filter_within : (h f : ℕ → Bool) (high first last : ℕ) → 1 ≤ first → first ≤ last + 1 →
    last ≤ high → ((d : ℕ) → first ≤ d → d ≤ last → h d ≡ true) →
    ((d : ℕ) → d < first → h d ≡ false) → ((d : ℕ) → last < d → h d ≡ false) →
    filter h (filter f (range_with_len 1 high)) ≡ filter f (range_with_len first (last + 1 - first))
filter_within h f high first last low some most inside before after =
    let whole : high ≡ high + 1 - 1 = omega arith in
    filter_both h f (range_with_len 1 high)
    ∙ ap (λ n. filter (λ d. f d && h d) (range_with_len 1 n)) whole
    ∙ filter_part (λ d. f d && h d) f 1 first (last + 1) (high + 1) low some (omega arith)
    (λ d from until. and_right (f d) (h d) (before d until))
    (λ d from until. ap (λ b. f d && b) (inside d from (omega arith)) ∙ and-true (f d))
    (λ d from until. and_right (f d) (h d) (after d (omega arith)))

-- the numbers up to one that pass, if another test says which and none passes after it
pub filter_until : (f g : ℕ → Bool) (low high : ℕ) → low ≤ high →
    ((d : ℕ) → 1 ≤ d → d ≤ low → f d ≡ g d) → ((d : ℕ) → low < d → f d ≡ false) →
    filter f (range_with_len 1 high) ≡ filter g (range_with_len 1 low)
filter_until f g low high less inside after =
    let whole : high ≡ high + 1 - 1 = omega arith in
    let here : low + 1 - 1 ≡ low = omega arith in
    ap (λ n. filter f (range_with_len 1 n)) whole
    ∙ filter_part f g 1 1 (low + 1) (high + 1) (omega arith) (omega arith) (omega arith)
    (λ d from until. absurd (omega (arith, from, until)))
    (λ d from until. inside d from (omega arith)) (λ d from until. after d (omega arith))
    ∙ ap (λ n. filter g (range_with_len 1 n)) here

-- two filters, of which each number that passes the first is before each that passes the second

or_step : (here there either : Bool) (a : ℕ) (fs gs hs : List ℕ) → either ≡ (here || there) →
    (here ≡ true → there ≡ true → ⊥) → (there ≡ true → fs ≡ []) → hs ≡ fs ++ gs →
    (if either then a ∷ hs else hs) ≡ (if here then a ∷ fs else fs)
    ++ (if there then a ∷ gs else gs)
or_step true true either a fs gs hs is apart none rest = absurd (apart refl refl)
or_step true false either a fs gs hs is apart none rest = rw is (ap (λ l. a ∷ l) rest)
or_step false true either a fs gs hs is apart none rest =
    rw is (ap (λ l. a ∷ l) (rest ∙ ap (λ l. l ++ gs) (none refl))
    ∙ sym (ap (λ l. l ++ a ∷ gs) (none refl)))
or_step false false either a fs gs hs is apart none rest = rw is rest

pub filter_or : (f g h : ℕ → Bool) (a n : ℕ) → ((d : ℕ) → a ≤ d → d < a + n → h d ≡ (f d || g d)) →
    ((d e : ℕ) → a ≤ d → d < a + n → a ≤ e → e < a + n → f d ≡ true → g e ≡ true → d < e) →
    filter h (range_with_len a n) ≡ filter f (range_with_len a n) ++ filter g (range_with_len a n)
filter_or f g h a zero either before = refl
filter_or f g h a (suc n) either before =
    or_step (f a) (g a) (h a) a (filter f (range_with_len (a + 1) n))
    (filter g (range_with_len (a + 1) n)) (filter h (range_with_len (a + 1) n))
    (either a (omega arith) (omega arith))
    (λ here there. let less : a < a = before a a (omega arith) (omega arith) (omega arith)
    (omega arith) here there in omega arith)
    (λ there. filter_none f (a + 1) n (λ d low high.
    false_from_ne_true (f d) (λ passes. let less : d < a =
    before d a (omega arith) (omega arith) (omega arith) (omega arith) passes there in
    omega arith)))
    (filter_or f g h (a + 1) n (λ d low high. either d (omega arith) (omega arith))
    (λ d e low_d high_d low_e high_e passes there.
    before d e (omega arith) (omega arith) (omega arith) (omega arith) passes there))

-- a filter that passes no two numbers

single_step : (here : Bool) (a : ℕ) (ds : List ℕ) → (here ≡ true → ds ≡ []) → length ds ≤ 1 →
    length (if here then a ∷ ds else ds) ≤ 1
single_step true a ds none rest = let empty : length ds ≡ 0 = ap length (none refl) in omega arith
single_step false a ds none rest = rest

pub filter_single : (f : ℕ → Bool) (a n : ℕ) → ((d e : ℕ) → a ≤ d → d < e → e < a + n → f d ≡ true →
    f e ≡ true → ⊥) → length (filter f (range_with_len a n)) ≤ 1
filter_single f a zero apart = omega arith
filter_single f a (suc n) apart =
    single_step (f a) a (filter f (range_with_len (a + 1) n))
    (λ here. filter_none f (a + 1) n (λ d low high.
    false_from_ne_true (f d) (λ there.
    apart a d (omega arith) (omega arith) (omega arith) here there)))
    (filter_single f (a + 1) n (λ d e low less high. apart d e (omega arith) less (omega arith)))

-- what a test finds among the numbers that a filter passes

pub record IsFound (test filtered : ℕ → Bool) (first count number : ℕ) : Type 0 where
  pub low : first ≤ number
  pub high : number < first + count
  pub passes : filtered number ≡ true
  pub tested : test number ≡ true

any_later : (q f : ℕ → Bool) (a n : ℕ) → (d : ℕ) × IsFound q f (a + 1) n d →
    (d : ℕ) × IsFound q f a (suc n) d
any_later q f a n found = (
  found.0,
  record {
    low = omega (arith, found.1.low);
    high = omega (arith, found.1.high);
    passes = found.1.passes;
    tested = found.1.tested;
  },
)

any_step : (q f : ℕ → Bool) (a n : ℕ) (here : Bool) → f a ≡ here →
    (list_any q (filter f (range_with_len (a + 1) n)) ≡ true → (d : ℕ) × IsFound q f (a + 1) n d) →
    list_any q (if here then a ∷ filter f (range_with_len (a + 1) n)
    else filter f (range_with_len (a + 1) n)) ≡ true → (d : ℕ) × IsFound q f a (suc n) d
any_step q f a n true is later found =
    elim (or_cases (q a) (list_any q (filter f (range_with_len (a + 1) n))) found) [
      | inl here ↦ (a, record { low = omega arith; high = omega arith; passes = is; tested = here })
      | inr more ↦ any_later q f a n (later more)
    ]
any_step q f a n false is later found = any_later q f a n (later found)

pub any_in : (q f : ℕ → Bool) (a n : ℕ) → list_any q (filter f (range_with_len a n)) ≡ true →
    (d : ℕ) × IsFound q f a n d
any_in q f a zero found = let none : false ≡ true = found in absurd cc
any_in q f a (suc n) found = any_step q f a n (f a) refl (any_in q f (a + 1) n) found

any_here : (q f : ℕ → Bool) (a : ℕ) (ds : List ℕ) → f a ≡ true → q a ≡ true →
    list_any q (if f a then a ∷ ds else ds) ≡ true
any_here q f a ds passes tested = ap (λ b. list_any q (if b then a ∷ ds else ds)) passes
    ∙ or_left (q a) (list_any q ds) tested

any_after : (q : ℕ → Bool) (a : ℕ) (ds : List ℕ) (here : Bool) → list_any q ds ≡ true →
    list_any q (if here then a ∷ ds else ds) ≡ true
any_after q a ds true found = or_right (q a) (list_any q ds) found
any_after q a ds false found = found

-- a number that passes both tests is found
pub any_from : (q f : ℕ → Bool) (a n d : ℕ) → a ≤ d → d < a + n → f d ≡ true → q d ≡ true →
    list_any q (filter f (range_with_len a n)) ≡ true
any_from q f a zero d low high passes tested = absurd (omega arith)
any_from q f a (suc n) d low high passes tested =
    elim (cases_order a d) [
      | inl same ↦ any_here q f a (filter f (range_with_len (a + 1) n)) (ap f same ∙ passes)
          (ap q same ∙ tested)
      | inr (inl lt) ↦ any_after q a (filter f (range_with_len (a + 1) n)) (f a)
          (any_from q f (a + 1) n d (omega arith) (omega arith) passes tested)
      | inr (inr gt) ↦ absurd (omega arith)
    ]

-- among all numbers of the row, a number that passes is found
pub some_in_row : (q : ℕ → Bool) (a n d : ℕ) → a ≤ d → d < a + n → q d ≡ true →
    list_any q (range_with_len a n) ≡ true
some_in_row q a n d low high tested =
    ap (list_any q) (sym (filter_all (λ e. true) a n (λ e from until. refl)))
    ∙ any_from q (λ e. true) a n d low high refl tested

pub none_in_row : (q : ℕ → Bool) (a n : ℕ) → ((d : ℕ) → a ≤ d → d < a + n → q d ≡ false) →
    list_any q (range_with_len a n) ≡ false
none_in_row q a n none =
    false_from_ne_true (list_any q (range_with_len a n)) (λ found.
    let e = any_in q (λ d. true) a n (ap (list_any q) (filter_all (λ d. true) a n (λ d from until.
    refl)) ∙ found) in
    false≢true (sym (none e.0 e.1.low e.1.high) ∙ e.1.tested))

-- what the one number is that a filter passes
pub filter_is : (f : ℕ → Bool) (a n d : ℕ) → filter f (range_with_len a n) ≡ d ∷ [] →
    (a ≤ d) × (d < a + n) × (f d ≡ true)
filter_is f a n d is =
    let same : (d == d) ≡ true = (Decides-eqb d d).1 refl in
    let e = any_in (λ m. m == d) f a n (ap (list_any (λ m. m == d)) is
    ∙ or_left (d == d) false same) in
    let here : e.0 ≡ d = eqb-true e.0 d e.1.tested in
    (omega (arith, here, e.1.low), omega (arith, here, e.1.high), ap f (sym here) ∙ e.1.passes)

-- no other number passes then, and none if the filter passes nothing
pub passes_one : (f : ℕ → Bool) (a n c d : ℕ) → c ∷ [] ≡ filter f (range_with_len a n) → a ≤ d →
    d < a + n → f d ≡ true → c ≡ d
passes_one f a n c d only low high passes =
    let found = any_from (λ e. e == d) f a n d low high passes ((Decides-eqb d d).1 refl) in
    eqb-true c d (sym (or-false (c == d)) ∙ ap (list_any (λ e. e == d)) only ∙ found)

pub passes_none : (f : ℕ → Bool) (a n d : ℕ) → [] ≡ filter f (range_with_len a n) → a ≤ d →
    d < a + n → f d ≡ true → ⊥
passes_none f a n d none low high passes =
    let found = any_from (λ e. true) f a n d low high passes refl in
    false≢true (ap (list_any (λ e. true)) none ∙ found)

-- what a search finds

in_step : (test : ℕ → Bool) (a n e : ℕ) (here : Bool) (rest : Option ℕ) → test a ≡ here →
    (rest ≡ Some e → (a + 1 ≤ e) × (e < a + 1 + n) × (test e ≡ true)) →
    (if here then Some a else rest) ≡ Some e → (a ≤ e) × (e < a + suc n) × (test e ≡ true)
in_step test a n e true rest is later found =
    let same : a ≡ e = cc in (omega arith, omega arith, ap test (sym same) ∙ is)
in_step test a n e false rest is later found =
    let more = later found in (omega (arith, more.0), omega (arith, more.1), more.2)

pub find_in : (test : ℕ → Bool) (a n e : ℕ) → find test (range_with_len a n) ≡ Some e →
    (a ≤ e) × (e < a + n) × (test e ≡ true)
find_in test a zero e found = absurd cc
find_in test a (suc n) e found =
    in_step test a n e (test a) (find test (range_with_len (a + 1) n)) refl
    (find_in test (a + 1) n e) found

-- the first that passes
pub find_first : (test : ℕ → Bool) (a n d : ℕ) → a ≤ d → d < a + n → test d ≡ true →
    ((e : ℕ) → a ≤ e → e < d → test e ≡ false) → find test (range_with_len a n) ≡ Some d
find_first test a zero d low high is before = absurd (omega arith)
find_first test a (suc n) d low high is before =
    elim (cases_order a d) [
      | inl same ↦ rw (ap test same ∙ is) (ap Some same)
      | inr (inl lt) ↦ rw (before a (omega arith) lt)
          (find_first test (a + 1) n d (omega arith) (omega arith) is
          (λ e l h. before e (omega arith) h))
      | inr (inr gt) ↦ absurd (omega arith)
    ]

-- a search through another row from the same number on finds it too, if that row reaches it

other_step : (here : Bool) (a d : ℕ) (long short : Option ℕ) → (long ≡ Some d → short ≡ Some d) →
    (if here then Some a else long) ≡ Some d → (if here then Some a else short) ≡ Some d
other_step true a d long short later found = found
other_step false a d long short later found = later found

find_other : (test : ℕ → Bool) (a n m d : ℕ) → find test (range_with_len a n) ≡ Some d → d < a + m →
    find test (range_with_len a m) ≡ Some d
find_other test a zero m d found within = absurd cc
find_other test a (suc n) zero d found within =
    absurd (omega (arith, (find_in test a (suc n) d found).0))
find_other test a (suc n) (suc m) d found within =
    other_step (test a) a d (find test (range_with_len (a + 1) n))
    (find test (range_with_len (a + 1) m))
    (λ later. find_other test (a + 1) n m d later (omega arith)) found

-- searches through the line of days: the first day that passes is found, also in a shorter line
-- that has it

pub find_on_line : (p : Rules) (test : ℕ → Bool) (d : ℕ) → IsDay p d → test d ≡ true →
    ((e : ℕ) → 1 ≤ e → e < d → test e ≡ false) → find test (line p) ≡ Some d
unfolding line
find_on_line p test d on is before = find_first test 1 p.high d on.0 (omega arith) is before

pub find_on_both : (p q : Rules) (test : ℕ → Bool) (d : ℕ) → find test (line p) ≡ Some d →
    d ≤ q.high → find test (line q) ≡ Some d
unfolding line
find_on_both p q test d found within = find_other test 1 p.high q.high d found (omega arith)

-- a search finds a number if some number passes

any_found : (here : Bool) (a : ℕ) (found : Option ℕ) (rest : Bool) → is_some found ≡ rest →
    is_some (if here then Some a else found) ≡ (here || rest)
any_found true a found rest is = refl
any_found false a found rest is = is

find_any : (test : ℕ → Bool) (xs : List ℕ) → is_some (find test xs) ≡ list_any test xs
find_any test [] = refl
find_any test (a ∷ xs) =
    any_found (test a) a (find test xs) (list_any test xs) (find_any test xs)

-- a day of the line that the search finds
pub record PassingDay (p : Rules) (test : ℕ → Bool) : Type 0 where
  pub day : ℕ
  pub on : IsDay p day
  pub passes : test day ≡ true
  pub is : find test (line p) ≡ Some day

passing_day_by : (p : Rules) (test : ℕ → Bool) (d : ℕ) (found : Option ℕ) → IsDay p d →
    test d ≡ true → find test (line p) ≡ found → PassingDay p test
unfolding line
passing_day_by p test d None on passes is =
    absurd (false≢true (ap is_some (sym is) ∙ find_any test (range_with_len 1 p.high)
    ∙ some_in_row test 1 p.high d on.0 (omega (arith, on.1)) passes))
passing_day_by p test d (Some e) on passes is =
    let at = find_in test 1 p.high e is in
    record { day = e; on = (at.0, omega (arith, at.1)); passes = at.2; is = is }

pub found_on_line : (p : Rules) (test : ℕ → Bool) (d : ℕ) → IsDay p d → test d ≡ true →
    PassingDay p test
found_on_line p test d on passes = passing_day_by p test d (find test (line p)) on passes refl
