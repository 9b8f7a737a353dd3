-- The first and the last day of runs of days.
use Rattle.std.proofs.Common.{◌≡◌, ◌<◌, ◌≤◌, ◌+◌, ◌-◌, ℕ, zero, suc, List, [], ◌∷◌, ◌++◌, length}
use Rattle.std.proofs.Common.{get_or, ap, ◌∙◌, refl, sym, arith, append-nil}
use Rattle.std.specs.List.{range_with_len}
use Rattle.std.proofs.lemmas.List.Concat.{flat_map-cons}
use Rattle.osn_days.specs.Rules.{Rules}
use Rattle.osn_territory.specs.declared.runs.Run.{Run}
use Rattle.osn_territory.specs.Dating.{dated_on}
use Rattle.osn_territory.specs.Runs.{days_in, days_of_run, AreRuns, AreRunsAfter}
use Rattle.osn_territory.specs.Territory.{TerritoryModel}
use Rattle.osn_pages.specs.Why as spec

last_of_range : (d a n : ℕ) → a ≡ d + 1 → spec.last_day d (range_with_len a n) ≡ d + n
last_of_range d a zero next = omega arith
last_of_range d a (suc n) next =
    last_of_range a (a + 1) n refl ∙ omega (arith, next)

last_of_both : (d : ℕ) (xs : List ℕ) (y : ℕ) (ys : List ℕ)
    → spec.last_day d (xs ++ y ∷ ys) ≡ spec.last_day y ys
last_of_both d [] y ys = refl
last_of_both d (x ∷ xs) y ys = last_of_both x xs y ys

-- the days of runs, of which the first begins on that day, and the last ends on the other
record BeginEnd (days : List ℕ) (first last : ℕ) : Type 0 where
  pub rest : List ℕ
  pub begins : days ≡ first ∷ rest
  pub ends : spec.last_day first rest ≡ last

-- the day on which the last run ends
abbrev last_end : Run → List Run → ℕ
last_end r [] = r.last
last_end r (next ∷ rest) = last_end next rest

one_run : (r : Run) → r.first ≤ r.last
    → days_of_run r ≡ r.first ∷ range_with_len (r.first + 1) (r.last - r.first)
one_run r some =
    let count : r.last + 1 - r.first ≡ suc (r.last - r.first) = omega (arith, some) in
    ap (range_with_len r.first) count

ends_of : (b : ℕ) (r : Run) (rs : List Run) → AreRunsAfter b (r ∷ rs)
    → BeginEnd (days_in (r ∷ rs)) r.first (last_end r rs)
ends_of b r [] are = record {
  rest = range_with_len (r.first + 1) (r.last - r.first) ++ [];
  begins = flat_map-cons days_of_run r [] ∙ ap (λ ds. ds ++ []) (one_run r are.1);
  ends = ap (spec.last_day r.first) (append-nil (range_with_len (r.first + 1) (r.last - r.first)))
      ∙ last_of_range r.first (r.first + 1) (r.last - r.first) refl ∙ omega (arith, are.1);
}
ends_of b r (next ∷ rs) are =
    let others = ends_of r.last next rs are.2 in
    let own = range_with_len (r.first + 1) (r.last - r.first) in record {
      rest = own ++ next.first ∷ others.rest;
      begins = flat_map-cons days_of_run r (next ∷ rs)
          ∙ ap (λ ds. ds ++ days_in (next ∷ rs)) (one_run r are.1)
          ∙ ap (λ ds. r.first ∷ (own ++ ds)) others.begins;
      ends = last_of_both r.first own next.first others.rest ∙ others.ends;
    }

last_at : (r : Run) (rs : List Run) (d : Run)
    → (get_or (r ∷ rs) (length rs) d).last ≡ last_end r rs
last_at r [] d = refl
last_at r (next ∷ rs) d = last_at next rs d

-- the line of a year by its runs
pub year_of_runs : (p : Rules) (t : TerritoryModel) (year : ℕ) (runs : List Run)
    (first last : Run) → AreRuns runs → 0 < length runs → first ≡ get_or runs 0 first
    → last ≡ get_or runs (length runs - 1) last
    → spec.year_ends_line year (dated_on p t first.first) (dated_on p t last.last)
    ≡ spec.year_line p t year (days_in runs)
year_of_runs p t year [] first last are some is_first is_last = absurd (omega (arith, some))
year_of_runs p t year (r ∷ rs) first last are some is_first is_last =
    let both = ends_of 0 r rs are in
    let count : suc (length rs) - 1 ≡ length rs = omega arith in
    let at_end : last.last ≡ last_end r rs =
    ap (λ (x : Run). x.last) (is_last ∙ ap (λ n. get_or (r ∷ rs) n last) count)
    ∙ last_at r rs last in
    ap (λ (x : Run). spec.year_ends_line year (dated_on p t x.first) (dated_on p t last.last))
    is_first
    ∙ ap (λ e. spec.year_ends_line year (dated_on p t r.first) (dated_on p t e))
    (at_end ∙ sym both.ends)
    ∙ ap (spec.year_line p t year) (sym both.begins)
