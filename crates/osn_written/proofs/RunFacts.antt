-- Days as runs: what runs that may touch become, and that the runs of days in a row lie apart and
-- have these days.
use Rattle.std.proofs.Common.{◌≡◌, ◌≤◌, ◌<◌, ◌+◌, ◌-◌, ◌==◌, ℕ, zero, suc, Bool, true, false, refl}
use Rattle.std.proofs.Common.{if◌then◌else◌, List, [], ◌∷◌, ◌++◌, map, filter, sym, ap, ◌∙◌, arith}
use Rattle.std.proofs.Common.{append-nil, append_assoc, eqb-true, ◌&&◌, ℤ, subst}
use Rattle.std.proofs.Common.{take, drop, length, get_or, pos}
use Rattle.std.proofs.lemmas.List.{drop_more, take_all}
use Rattle.std.proofs.Math.Bool.{and-true}
use Rattle.std.proofs.lemmas.Bool.Decides.{Decides-eqb, nat_tests}
use Rattle.std.proofs.lemmas.List.Concat.{flat_map-cons}
use Rattle.std.specs.List.{range_with_len}
use Rattle.std.specs.Ordering.{int_eq}
use Rattle.osn_days.specs.Line.{line}
use Rattle.osn_days.specs.Rules.{Rules}
use Rattle.osn_days.proofs.RangeFacts.{range_join, filter_same, filter_two}
use Rattle.osn_written.specs.declared.any_date.PartialDate.{PartialDate}
use Rattle.osn_written.specs.declared.any_date.PartialDate.TheVariants.{Day, Month, Year}
use Rattle.osn_written.specs.declared.any_date.Year as written
use Rattle.osn_territory.specs.declared.runs.Run.{Run}
use Rattle.osn_territory.specs.Dating.{dated_on}
use Rattle.osn_territory.specs.Runs.{days_in, days_of_run, days_of_year, days_of_month}
use Rattle.osn_territory.specs.Runs.{AreRunsAfter}
use Rattle.osn_territory.specs.Territory.{TerritoryModel, reading}
use Rattle.osn_written.specs.Runs.{runs_from, runs_of, all_meant, all_labelled}
use Rattle.osn_written.specs.Runs.{LieApartAfter, LieApart, HaveDays, run_of_day, year_of}
use Rattle.osn_written.specs.Runs.{is_in_double_year, has_month_and_day, all_double}

same_number : (n : ℕ) → (n == n) ≡ true
same_number n = (Decides-eqb n n).1 refl

abbrev run : ℕ → ℕ → Run
run first last = record { first = first; last = last }

-- a run, a day and the days after it, whether or not the day is the next one after the run
abbrev next : ℕ → ℕ → ℕ → List ℕ → Bool → List Run
next f l d ds follows =
    if follows then runs_from (run f d) ds else run f l ∷ runs_from (run d d) ds

-- ---- runs that may touch

-- a run goes on through the days that follow it
run_on : (f l n : ℕ) (ds : List ℕ)
    → runs_from (run f l) (range_with_len (l + 1) n ++ ds) ≡ runs_from (run f (l + n)) ds
run_on f l zero ds = ap (λ k. runs_from (run f k) ds) (omega arith)
run_on f l (suc n) ds =
    ap (next f l (l + 1) (range_with_len (l + 1 + 1) n ++ ds)) (same_number (l + 1))
    ∙ run_on f (l + 1) n ds
    ∙ ap (λ k. runs_from (run f k) ds) (omega arith)

one_run : (r : Run) → r.first ≤ r.last
    → days_of_run r ≡ r.first ∷ range_with_len (r.first + 1) (r.last - r.first)
one_run r some =
    let count : r.last + 1 - r.first ≡ suc (r.last - r.first) = omega (arith, some) in
    ap (range_with_len r.first) count

-- the first run
pub first_runs : (r : Run) (ds : List ℕ) → r.first ≤ r.last
    → runs_of (days_of_run r ++ ds) ≡ runs_from r ds
first_runs r ds some =
    ap (λ days. runs_of (days ++ ds)) (one_run r some)
    ∙ run_on r.first r.first (r.last - r.first) ds
    ∙ ap (λ k. runs_from (run r.first k) ds) (omega (arith, some))

next_by : (f l k : ℕ) (r : Run) (ds : List ℕ) (follows : Bool) → r.first + k ≡ r.last
    → next f l r.first (range_with_len (r.first + 1) k ++ ds) follows
    ≡ (if follows then runs_from (run f r.last) ds else run f l ∷ runs_from r ds)
next_by f l k r ds true end =
    run_on f r.first k ds ∙ ap (λ n. runs_from (run f n) ds) end
next_by f l k r ds false end =
    ap (λ rs. run f l ∷ rs)
    (run_on r.first r.first k ds ∙ ap (λ n. runs_from (run r.first n) ds) end)

-- one run more, which is part of the run before it or begins after a gap
pub next_run : (current r : Run) (ds : List ℕ) → r.first ≤ r.last
    → runs_from current (days_of_run r ++ ds)
    ≡ (if r.first == current.last + 1 then runs_from (run current.first r.last) ds
    else current ∷ runs_from r ds)
next_run current r ds some =
    ap (λ days. runs_from current (days ++ ds)) (one_run r some)
    ∙ next_by current.first current.last (r.last - r.first) r ds (r.first == current.last + 1)
    (omega (arith, some))

-- a run that is read from those that are left
pub one_joined : (total done : List Run) (current r : Run) (rs : List Run) (i : ℕ) (follows : Bool)
    → i < length rs → r ≡ get_or rs i r → (r.first == current.last + 1) ≡ follows
    → (done ++ runs_from current (days_in (drop i rs)) ≡ total) × HaveDays (drop i rs)
    → (done ++ (if follows then runs_from (run current.first r.last) (days_in (drop (i + 1) rs))
    else current ∷ runs_from r (days_in (drop (i + 1) rs))) ≡ total) × HaveDays (drop (i + 1) rs)
one_joined total done current r rs i follows within at is so_far =
    let left : drop i rs ≡ r ∷ drop (i + 1) rs =
    drop_more rs i r within ∙ ap (λ (x : Run). x ∷ drop (i + 1) rs) (sym at) in
    let have = subst HaveDays left so_far.1 in
    let days = drop (i + 1) rs in (
      ap (λ b. done ++ (if b then runs_from (run current.first r.last) (days_in days)
          else current ∷ runs_from r (days_in days))) (sym is)
          ∙ ap (λ xs. done ++ xs) (sym (ap (λ l. runs_from current (days_in l)) left
          ∙ ap (runs_from current) (flat_map-cons days_of_run r days)
          ∙ next_run current r (days_in days) have.0))
          ∙ so_far.0,
      have.1,
    )

-- the first of some runs, and the others
pub first_of : (rs : List Run) (r : Run) → 1 ≤ length rs → r ≡ get_or rs 0 r → HaveDays rs
    → runs_from r (days_in (take (length rs - 1) (drop 1 rs))) ≡ runs_of (days_in rs)
first_of [] r some at have = absurd (omega (arith, some))
first_of (q ∷ qs) r some at have =
    let count : suc (length qs) - 1 ≡ length qs = omega arith in
    ap (λ n. runs_from r (days_in (take n qs))) count
    ∙ ap (λ l. runs_from r (days_in l)) (take_all (length qs) qs (omega arith))
    ∙ ap (λ (x : Run). runs_from x (days_in qs)) at
    ∙ sym (ap runs_of (flat_map-cons days_of_run q qs) ∙ first_runs q (days_in qs) have.0)

-- ---- their days

one_number : (d : ℕ) → range_with_len d (d + 1 - d) ≡ d ∷ []
one_number d = let one : d + 1 - d ≡ 1 = omega arith in ap (range_with_len d) one

days_next : (f l d : ℕ) (ds : List ℕ) (follows : Bool) → (d == l + 1) ≡ follows → f ≤ l
    → ((g m : ℕ) → g ≤ m
    → days_in (runs_from (run g m) ds) ≡ range_with_len g (m + 1 - g) ++ ds)
    → days_in (next f l d ds follows) ≡ range_with_len f (l + 1 - f) ++ d ∷ ds
days_next f l d ds true is some rest =
    let here : d ≡ l + 1 = eqb-true d (l + 1) is in
    let one : d + 1 - (l + 1) ≡ 1 = omega (arith, here) in
    rest f d (omega (arith, here, some))
    ∙ ap (λ xs. xs ++ ds) (range_join f (l + 1) (d + 1) (omega (arith, some))
    (omega (arith, here))
    ∙ ap (λ n. range_with_len f (l + 1 - f) ++ range_with_len (l + 1) n) one
    ∙ ap (λ n. range_with_len f (l + 1 - f) ++ n ∷ []) (sym here))
    ∙ append_assoc (range_with_len f (l + 1 - f)) (d ∷ []) ds
days_next f l d ds false is some rest =
    flat_map-cons days_of_run (run f l) (runs_from (run d d) ds)
    ∙ ap (λ xs. range_with_len f (l + 1 - f) ++ xs)
    (rest d d (omega arith) ∙ ap (λ xs. xs ++ ds) (one_number d))

days_from : (ds : List ℕ) (f l : ℕ) → f ≤ l
    → days_in (runs_from (run f l) ds) ≡ range_with_len f (l + 1 - f) ++ ds
days_from [] f l some = flat_map-cons days_of_run (run f l) []
days_from (d ∷ ds) f l some =
    days_next f l d ds (d == l + 1) refl some (λ g m less. days_from ds g m less)

pub days_of_runs : (ds : List ℕ) → days_in (runs_of ds) ≡ ds
days_of_runs [] = refl
days_of_runs (d ∷ ds) = days_from ds d d (omega arith) ∙ ap (λ xs. xs ++ ds) (one_number d)

-- ---- that they lie apart

apart_number : (a l : ℕ) → (a == l + 1) ≡ false → l < a → l + 1 < a
apart_number a l is before = grind (arith, nat_tests)

apart_next : (f l a b : ℕ) (ds : List ℕ) (follows : Bool) → (a == l + 1) ≡ follows → b < f
    → f ≤ l → l < a
    → ((g m c : ℕ) → c < g → g ≤ m → m < a + 1 → LieApartAfter c (runs_from (run g m) ds))
    → LieApartAfter b (next f l a ds follows)
apart_next f l a b ds true is after some before rest =
    rest f a b after (omega (arith, some, before)) (omega arith)
apart_next f l a b ds false is after some before rest = (
  after,
  some,
  rest a a (l + 1) (apart_number a l is before) (omega arith) (omega arith),
)

apart_step : (f l a b : ℕ) (ds : List ℕ) (here : Bool) → b < f → f ≤ l → l < a
    → ((g m c : ℕ) → c < g → g ≤ m → m < a + 1 → LieApartAfter c (runs_from (run g m) ds))
    → LieApartAfter b (runs_from (run f l) (if here then a ∷ ds else ds))
apart_step f l a b ds true after some before rest =
    apart_next f l a b ds (a == l + 1) refl after some before rest
apart_step f l a b ds false after some before rest = rest f l b after some (omega (arith, before))

apart_from : (test : ℕ → Bool) (n a f l b : ℕ) → b < f → f ≤ l → l < a
    → LieApartAfter b (runs_from (run f l) (filter test (range_with_len a n)))
apart_from test zero a f l b after some before = (after, some, tt)
apart_from test (suc n) a f l b after some before =
    apart_step f l a b (filter test (range_with_len (a + 1) n)) (test a) after some before
    (λ g m c low less high. apart_from test n (a + 1) g m c low less high)

first_apart : (a b : ℕ) (ds : List ℕ) (here : Bool) → b < a
    → LieApartAfter b (runs_from (run a a) ds) → LieApartAfter b (runs_of ds)
    → LieApartAfter b (runs_of (if here then a ∷ ds else ds))
first_apart a b ds true after first rest = first
first_apart a b ds false after first rest = rest

apart_of : (test : ℕ → Bool) (n a b : ℕ) → b < a
    → LieApartAfter b (runs_of (filter test (range_with_len a n)))
apart_of test zero a b after = tt
apart_of test (suc n) a b after =
    first_apart a b (filter test (range_with_len (a + 1) n)) (test a) after
    (apart_from test n (a + 1) a a b after (omega arith) (omega arith))
    (apart_of test n (a + 1) b (omega (arith, after)))

pub meant_apart : (p : Rules) (t : TerritoryModel) (date : PartialDate)
    → LieApart (runs_of (all_meant p t date))
unfolding all_meant line
meant_apart p t date = apart_of _ p.high 1 0 (omega arith)

-- ---- runs that are found

pub have_days : (d : ℕ) (rs : List Run) → AreRunsAfter d rs → HaveDays rs
have_days d [] are = tt
have_days d (r ∷ rs) are = (are.1, have_days r.last rs are.2)

pub singles_have_days : (ds : List ℕ) → HaveDays (map run_of_day ds)
singles_have_days [] = tt
singles_have_days (d ∷ ds) = (omega arith, singles_have_days ds)

pub days_of_singles : (ds : List ℕ) → days_in (map run_of_day ds) ≡ ds
days_of_singles [] = refl
days_of_singles (d ∷ ds) =
    flat_map-cons days_of_run (run_of_day d) (map run_of_day ds)
    ∙ ap (λ xs. xs ++ days_in (map run_of_day ds)) (one_number d)
    ∙ ap (λ xs. d ∷ xs) (days_of_singles ds)

-- the days of a label, of a month and of a year are those with the year, and what else is written
pub labelled_day : (p : Rules) (t : TerritoryModel) (year : written.Year) (y : ℤ) (m d : ℕ)
    → reading p t (record { year = y; month = m; day = d })
    ≡ all_labelled p t (Day year m d) y
unfolding reading all_labelled
labelled_day p t year y m d = refl

pub labelled_month : (p : Rules) (t : TerritoryModel) (year : written.Year) (y : ℤ) (m : ℕ)
    → days_of_month p t y m ≡ all_labelled p t (Month year m) y
unfolding days_of_month all_labelled
labelled_month p t year y m = refl

pub labelled_year : (p : Rules) (t : TerritoryModel) (year : written.Year) (y : ℤ)
    → days_of_year p t y ≡ all_labelled p t (Year year) y
unfolding days_of_year all_labelled line
labelled_year p t year y =
    filter_same (λ d. int_eq (dated_on p t d).label.year y)
    (λ d. int_eq (dated_on p t d).label.year y && true) 1 p.high
    (λ d low high. sym (and-true (int_eq (dated_on p t d).label.year y)))

-- the days that a date means, if its year is double and if it is single
pub meant_double : (p : Rules) (t : TerritoryModel) (date : PartialDate) (year : written.Year)
    → year ≡ year_of date → year.is_double ≡ true → all_double p t date ≡ all_meant p t date
unfolding all_double all_meant
meant_double p t date year same is =
    let double : true ≡ (year_of date).is_double =
    sym is ∙ ap (λ (y : written.Year). y.is_double) same in
    ap (λ b. filter (λ d. (if b then is_in_double_year (year_of date).first (dated_on p t d)
    else int_eq (dated_on p t d).label.year (pos (year_of date).first))
    && has_month_and_day date (dated_on p t d).label) (line p)) double

pub meant_single : (p : Rules) (t : TerritoryModel) (date : PartialDate) (year : written.Year)
    (first : ℤ) → year ≡ year_of date → first ≡ pos year.first → year.is_double ≡ false
    → all_labelled p t date first ≡ all_meant p t date
unfolding all_labelled all_meant
meant_single p t date year first same number is =
    let single : false ≡ (year_of date).is_double =
    sym is ∙ ap (λ (y : written.Year). y.is_double) same in
    let here : first ≡ pos (year_of date).first =
    number ∙ ap (λ (y : written.Year). pos y.first) same in
    ap (λ (n : ℤ). filter (λ d. int_eq (dated_on p t d).label.year n
    && has_month_and_day date (dated_on p t d).label) (line p)) here
    ∙ ap (λ b. filter (λ d. (if b then is_in_double_year (year_of date).first (dated_on p t d)
    else int_eq (dated_on p t d).label.year (pos (year_of date).first))
    && has_month_and_day date (dated_on p t d).label) (line p)) single

-- ---- a filter of numbers in a row, one number more

last_number : (q : ℕ → Bool) (a n : ℕ) (here : Bool) → a ≤ n → q n ≡ here
    → filter q (range_with_len a (n + 1 - a))
    ≡ filter q (range_with_len a (n - a)) ++ (if here then n ∷ [] else [])
last_number q a n here low is =
    filter_two q a (n + 1) n (filter q (range_with_len a (n - a))) (if here then n ∷ [] else [])
    low (omega arith) refl
    (ap (filter q) (one_number n) ∙ ap (λ b. if b then n ∷ [] else []) is)

pub number_taken : (q : ℕ → Bool) (before now new : List ℕ) (a n : ℕ) → a ≤ n
    → now ≡ before ++ filter q (range_with_len a (n - a)) → q n ≡ true → new ≡ now ++ n ∷ []
    → new ≡ before ++ filter q (range_with_len a (n + 1 - a))
number_taken q before now new a n low so_far is pushed =
    pushed
    ∙ ap (λ xs. xs ++ n ∷ []) so_far
    ∙ append_assoc before (filter q (range_with_len a (n - a))) (n ∷ [])
    ∙ ap (λ xs. before ++ xs) (sym (last_number q a n true low is))

pub number_left : (q : ℕ → Bool) (before now : List ℕ) (a n : ℕ) → a ≤ n
    → now ≡ before ++ filter q (range_with_len a (n - a)) → q n ≡ false
    → now ≡ before ++ filter q (range_with_len a (n + 1 - a))
number_left q before now a n low so_far is =
    so_far
    ∙ ap (λ xs. before ++ xs) (sym (last_number q a n false low is
    ∙ append-nil (filter q (range_with_len a (n - a)))))
