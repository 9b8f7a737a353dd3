-- What runs in any order have, as runs in order.
use Rattle.std.proofs.Common.{◌≡◌, ◌≤◌, ◌<◌, ◌+◌, ◌-◌, ℕ, Bool, true, false, ◌&&◌, ◌||◌, nat_le}
use Rattle.std.proofs.Common.{refl}
use Rattle.std.proofs.Common.{if◌then◌else◌, List, [], ◌∷◌, ◌++◌, filter, sym, ap, ◌∙◌, arith}
use Rattle.std.proofs.Common.{subst}
use Rattle.std.proofs.Common.{drop, length, get_or, suc, append_assoc, ⊎_elim, Result, Ok, Err}
use Rattle.std.proofs.Common.{IfOk, Vec, Global}
use Rattle.std.proofs.lemmas.Bool.{and_right, cases_lt, le-leb, leb-false, leb-true, lt-leb}
use Rattle.std.proofs.lemmas.Bool.{or_left}
use Rattle.std.proofs.lemmas.List.{drop_more}
use Rattle.std.proofs.lemmas.List.Concat.{flat_map-cons}
use Rattle.std.proofs.lemmas.List.Sorted.{list_any-IsPermutation}
use Rattle.std.specs.List.{range_with_len, list_any}
use Rattle.std.specs.List.Sorted.{IsNonDecreasingBy, IsPermutation}
use Rattle.osn_days.specs.Line.{line}
use Rattle.osn_days.specs.Rules.{Rules}
use Rattle.osn_days.proofs.RangeFacts.{filter_all, filter_none, filter_same, filter_two}
use Rattle.osn_territory.specs.declared.runs.Run.{Run}
use Rattle.osn_territory.specs.Runs.{days_in, days_of_run}
use Rattle.osn_written.specs.Runs.{HaveDays, runs_of}
use Rattle.osn_written.specs.Union.{EndOnLine, first_from, has_day, rest_from, union, with_rest}
use Rattle.osn_written.specs.declared.set.AbsentMember.{AbsentMember}

-- ---- runs by their first days

-- the first run begins at a day or after it, and each other one with the one before it or later
abbrev Ascend : ℕ → List Run → Type 0
Ascend b [] = Unit {0}
Ascend b (r ∷ rs) = (b ≤ r.first) × Ascend r.first rs

ascend_after : (r : Run) (rs : List Run) → IsNonDecreasingBy (λ run. run.first) (r ∷ rs)
    → Ascend r.first rs
ascend_after r [] order = tt
ascend_after r (s ∷ rs) order = (
  order 0 1 r (omega arith) (omega arith),
  ascend_after s rs (λ i j d low high. order (suc i) (suc j) d (omega (arith, low))
      (omega (arith, high))),
)

ascends : (rs : List Run) → IsNonDecreasingBy (λ run. run.first) rs → Ascend 0 rs
ascends [] order = tt
ascends (r ∷ rs) order = (omega arith, ascend_after r rs order)

-- ---- one run

begins_after : (d : ℕ) (r : Run) → d < r.first → has_day d r ≡ false
begins_after d r before = ap (λ b. b && nat_le d r.last) (lt-leb r.first d before)

ends_before : (d : ℕ) (r : Run) → r.last < d → has_day d r ≡ false
ends_before d r after =
    and_right (nat_le r.first d) (nat_le d r.last) (lt-leb d r.last after)

has_it : (d : ℕ) (r : Run) → r.first ≤ d → d ≤ r.last → has_day d r ≡ true
has_it d r low high = rw (le-leb r.first d low) (le-leb d r.last high)

-- no run has a day before the first of them
none_before : (b d : ℕ) (rs : List Run) → Ascend b rs → d < b → list_any (has_day d) rs ≡ false
none_before b d [] order before = refl
none_before b d (r ∷ rs) order before =
    rw (begins_after d r (omega (arith, order.0, before)))
    (none_before r.first d rs order.1 (omega (arith, order.0, before)))

-- ---- the days of what is left

-- a run of which no day is left
none_left : (high next : ℕ) (r : Run) (rs : List Run)
    → ((d : ℕ) → next ≤ d → has_day d r ≡ false)
    → filter (λ d. list_any (has_day d) rs) (range_with_len next (high + 1 - next))
    ≡ filter (λ d. list_any (has_day d) (r ∷ rs)) (range_with_len next (high + 1 - next))
none_left high next r rs none =
    filter_same (λ d. list_any (has_day d) rs) (λ d. list_any (has_day d) (r ∷ rs)) next
    (high + 1 - next)
    (λ d low most. ap (λ b. b || list_any (has_day d) rs) (sym (none d low)))

-- a run of which days are left
some_left : (high next first : ℕ) (r : Run) (rs : List Run) → Ascend r.first rs → next ≤ first
    → r.first ≤ first → ((d : ℕ) → next ≤ d → d < first → d < r.first) → first ≤ r.last
    → r.last ≤ high
    → filter (λ d. list_any (has_day d) (r ∷ rs)) (range_with_len next (high + 1 - next))
    ≡ range_with_len first (r.last + 1 - first)
    ++ filter (λ d. list_any (has_day d) rs)
    (range_with_len (r.last + 1) (high + 1 - (r.last + 1)))
some_left high next first r rs order low begun before some most =
    let f : ℕ → Bool = λ d. list_any (has_day d) (r ∷ rs) in
    let g : ℕ → Bool = λ d. list_any (has_day d) rs in
    let rest = filter g (range_with_len (r.last + 1) (high + 1 - (r.last + 1))) in
    filter_two f next (high + 1) first [] (range_with_len first (r.last + 1 - first) ++ rest) low
    (omega (arith, some, most))
    (filter_none f next (first - next) (λ d from until.
    let here : d < r.first = before d from (omega (arith, from, until)) in
    rw (begins_after d r here) (none_before r.first d rs order here)))
    (filter_two f first (high + 1) (r.last + 1) (range_with_len first (r.last + 1 - first)) rest
    (omega (arith, some)) (omega (arith, most))
    (filter_all f first (r.last + 1 - first) (λ d from until.
    or_left (has_day d r) (g d)
    (has_it d r (omega (arith, begun, from)) (omega (arith, some, from, until)))))
    (filter_same f g (r.last + 1) (high + 1 - (r.last + 1)) (λ d from until.
    ap (λ b. b || g d) (ends_before d r (omega (arith, from))))))

-- both, by the first day that is left and by whether there are any
left_by : (high next first : ℕ) (r : Run) (rs : List Run) (some : Bool)
    → nat_le first r.last ≡ some → Ascend r.first rs → next ≤ first → r.first ≤ first
    → ((d : ℕ) → next ≤ d → d < first → d < r.first) → r.last ≤ high
    → days_in (rest_from (r.last + 1) rs)
    ≡ filter (λ d. list_any (has_day d) rs) (range_with_len (r.last + 1) (high + 1 - (r.last + 1)))
    → days_in (rest_from next rs)
    ≡ filter (λ d. list_any (has_day d) rs) (range_with_len next (high + 1 - next))
    → days_in (if some then record { first = first; last = r.last } ∷ rest_from (r.last + 1) rs
    else rest_from next rs)
    ≡ filter (λ d. list_any (has_day d) (r ∷ rs)) (range_with_len next (high + 1 - next))
left_by high next first r rs true is order low begun before most after others =
    let some : first ≤ r.last = leb-true first r.last is in
    flat_map-cons days_of_run (record { first = first; last = r.last }) (rest_from (r.last + 1) rs)
    ∙ ap (λ ds. range_with_len first (r.last + 1 - first) ++ ds) after
    ∙ sym (some_left high next first r rs order low begun before some most)
left_by high next first r rs false is order low begun before most after others =
    let over : r.last < first = leb-false first r.last is in
    others
    ∙ none_left high next r rs (λ d from.
    ⊎_elim (λ later. ends_before d r later)
    (λ within. begins_after d r (before d from (omega (arith, over, within))))
    (cases_lt r.last d))

-- if the run begins at the first day that is left or after it, and if it begins before it
first_by : (high next : ℕ) (r : Run) (rs : List Run) (here : Bool) → nat_le next r.first ≡ here
    → Ascend r.first rs → r.last ≤ high
    → days_in (rest_from (r.last + 1) rs)
    ≡ filter (λ d. list_any (has_day d) rs) (range_with_len (r.last + 1) (high + 1 - (r.last + 1)))
    → days_in (rest_from next rs)
    ≡ filter (λ d. list_any (has_day d) rs) (range_with_len next (high + 1 - next))
    → days_in (with_rest (if here then r.first else next) r.last (rest_from (r.last + 1) rs)
    (rest_from next rs))
    ≡ filter (λ d. list_any (has_day d) (r ∷ rs)) (range_with_len next (high + 1 - next))
first_by high next r rs true is order most after others =
    left_by high next r.first r rs (nat_le r.first r.last) refl order (leb-true next r.first is)
    (omega arith) (λ d from until. until) most after others
first_by high next r rs false is order most after others =
    let begun : r.first < next = leb-false next r.first is in
    left_by high next next r rs (nat_le next r.last) refl order (omega arith)
    (omega (arith, begun)) (λ d from until. absurd (omega (arith, from, until))) most after others

days_left : (p : Rules) (next b : ℕ) (rs : List Run) → Ascend b rs → EndOnLine p rs
    → days_in (rest_from next rs)
    ≡ filter (λ d. list_any (has_day d) rs) (range_with_len next (p.high + 1 - next))
days_left p next b [] order on =
    sym (filter_none (λ d. false) next (p.high + 1 - next) (λ d low high. refl))
days_left p next b (r ∷ rs) order on =
    first_by p.high next r rs (nat_le next r.first) refl order.1 on.0
    (days_left p (r.last + 1) r.first rs order.1 on.1)
    (days_left p next r.first rs order.1 on.1)

-- ---- all days

-- the runs of these days are those of the days that any of the runs has
pub union_is : (p : Rules) (runs sorted rest : List Run) → IsPermutation runs sorted
    → IsNonDecreasingBy (λ run. run.first) sorted → EndOnLine p sorted → rest ≡ rest_from 1 sorted
    → runs_of (days_in rest) ≡ union p runs
unfolding union line
union_is p runs sorted rest moved order on is =
    let count : p.high + 1 - 1 ≡ p.high = omega arith in
    ap (λ rs. runs_of (days_in rs)) is
    ∙ ap runs_of (days_left p 1 0 sorted (ascends sorted order) on
    ∙ ap (λ n. filter (λ d. list_any (has_day d) sorted) (range_with_len 1 n)) count
    ∙ filter_same (λ d. list_any (has_day d) sorted) (λ d. list_any (has_day d) runs) 1 p.high
    (λ d low high. sym (list_any-IsPermutation (has_day d) runs sorted moved)))

have_by : (first last : ℕ) (after before : List Run) (some : Bool) → nat_le first last ≡ some
    → HaveDays after → HaveDays before
    → HaveDays (if some then record { first = first; last = last } ∷ after else before)
have_by first last after before true is some others = (leb-true first last is, some)
have_by first last after before false is some others = others

pub rest_has_days : (next : ℕ) (rs : List Run) → HaveDays (rest_from next rs)
rest_has_days next [] = tt
rest_has_days next (r ∷ rs) =
    have_by (first_from r next) r.last (rest_from (r.last + 1) rs) (rest_from next rs)
    (nat_le (first_from r next) r.last) refl (rest_has_days (r.last + 1) rs) (rest_has_days next rs)

-- ---- one run after another

-- what the loop keeps: the rest so far is that before what is left, and the runs so far are on the
-- line
pub record IsRestBefore (p : Rules) (runs rest : List Run) (next : ℕ) (left : List Run)
    : Type 0 where
  pub is : rest ++ rest_from next left ≡ rest_from 1 runs
  pub on : EndOnLine p left → EndOnLine p runs

left_at : (rs : List Run) (i : ℕ) (r : Run) → i < length rs → r ≡ get_or rs i r
    → drop i rs ≡ r ∷ drop (i + 1) rs
left_at rs i r within at =
    drop_more rs i r within ∙ ap (λ (x : Run). x ∷ drop (i + 1) rs) (sym at)

run_left : (p : Rules) (runs rest : List Run) (next i : ℕ) (r : Run) → i < length runs
    → r ≡ get_or runs i r → IsRestBefore p runs rest next (drop i runs)
    → IsRestBefore p runs rest next (r ∷ drop (i + 1) runs)
run_left p runs rest next i r within at so_far =
    subst (IsRestBefore p runs rest next) (left_at runs i r within at) so_far

-- a run of which days are left
pub one_rest : (p : Rules) (runs rest : List Run) (next i : ℕ) (r : Run) (first : ℕ)
    → i < length runs → r ≡ get_or runs i r → IsRestBefore p runs rest next (drop i runs)
    → r.last ≤ p.high → first ≡ first_from r next → first ≤ r.last
    → IsRestBefore p runs (rest ++ record { first = first; last = r.last } ∷ []) (r.last + 1)
    (drop (i + 1) runs)
one_rest p runs rest next i r first within at so_far high is some =
    let left = drop (i + 1) runs in
    let now = run_left p runs rest next i r within at so_far in
    record {
      is = append_assoc rest (record { first = first; last = r.last } ∷ [])
          (rest_from (r.last + 1) left)
          ∙ ap (λ rs. rest ++ rs)
          (sym (ap (λ f. with_rest f r.last (rest_from (r.last + 1) left) (rest_from next left))
          (sym is)
          ∙ ap (λ b. if b then record { first = first; last = r.last } ∷ rest_from (r.last + 1) left
          else rest_from next left) (le-leb first r.last some)))
          ∙ now.is;
      on = λ on. now.on (high, on);
    }

-- a run with no day left
pub no_rest : (p : Rules) (runs rest : List Run) (next i : ℕ) (r : Run) (first : ℕ)
    → i < length runs → r ≡ get_or runs i r → IsRestBefore p runs rest next (drop i runs)
    → r.last ≤ p.high → first ≡ first_from r next → r.last < first
    → IsRestBefore p runs rest next (drop (i + 1) runs)
no_rest p runs rest next i r first within at so_far high is none =
    let left = drop (i + 1) runs in
    let now = run_left p runs rest next i r within at so_far in
    record {
      is = ap (λ rs. rest ++ rs)
          (sym (ap (λ f. with_rest f r.last (rest_from (r.last + 1) left) (rest_from next left))
          (sym is)
          ∙ ap (λ b. if b then record { first = first; last = r.last } ∷ rest_from (r.last + 1) left
          else rest_from next left) (lt-leb first r.last none)))
          ∙ now.is;
      on = λ on. now.on (high, on);
    }

-- ---- one date after another

-- the runs so far, before those of the dates that are left
abbrev pub after_runs : List Run → Result (List Run) AbsentMember → Result (List Run) AbsentMember
after_runs front (Ok runs) = Ok (front ++ runs)
after_runs front (Err absent) = Err absent

-- what is joined of the rest is the union
pub joined_is : {E : Type 0} (p : Rules) (runs : List Run) (days : List ℕ)
    (r : Result (Vec Run Global) E) → runs_of days ≡ union p runs
    → IfOk r (λ joined. joined.items ≡ runs_of days)
    → IfOk r (λ joined. joined.items ≡ union p runs)
joined_is p runs days (Ok joined) is made = made ∙ is
joined_is p runs days (Err e) is made = tt
