-- The differences of two territories take one to the other.
use Rattle.std.proofs.Common.{◌≡◌, ℕ, inl, inr, ◌+◌, ◌<◌, Bool, cond, true, false, List}
use Rattle.std.proofs.Common.{[], ◌∷◌, ◌++◌, Option, Some, None, is_some, refl, sym, ap, subst}
use Rattle.std.proofs.Common.{◌∙◌, ◌||◌, ◌&&◌, arith}
use Rattle.std.proofs.lemmas.Bool.{eq-eqb, ne_eqb, cases_eq, false≢true, and_from}
use Rattle.std.specs.List.{flat_map}
use Rattle.std.specs.Option.{option_or}
use Rattle.osn_territory.specs.declared.regime.Regime.{Regime}
use Rattle.osn_territory.specs.Territory.{TerritoryModel, of_one_regime, regime_at}
use Rattle.osn_territory.specs.Changes.{starts_on}
use Rattle.osn_register.specs.Answer.{period_source}
use Rattle.osn_register.specs.Sources.{SourcesModel, opening_sources}
use Rattle.osn_register_text.specs.Change.{Change}
use Rattle.osn_register_text.specs.Change.Change.{Alter}
use Rattle.osn_register_text.specs.Differences.{dropped_change, target_change, is_day}
use Rattle.osn_register_text.specs.Differences.{dropped_exception}
use Rattle.osn_register_text.specs.Differences.{target_exception, added_change, added_exception}
use Rattle.osn_register_text.specs.Differences.{differences}
use Rattle.osn_register_text.specs.Differences.{is_same, altered_change, later}
use Rattle.osn_register_text.specs.CitedSources.{BothSources, same_source, same_period, same_easter}
use Rattle.osn_register_text.proofs.Rows.{look, IsFrom}
use Rattle.osn_register_text.proofs.ChangeFacts.{starts_found}
use Rattle.osn_register_text.proofs.Regimes.{regime_itself}
use Rattle.osn_register_text.proofs.SourceRows.{source_here, source_itself}
use Rattle.osn_register_text.proofs.Passes.{kept, Drops, drops, Starts, starts}
use Rattle.osn_register_text.proofs.YearPasses.{kept_day, YearDrops, year_drops, Years, years}
use Rattle.osn_register_text.proofs.NeededChanges.{after, AreDue, after-append, AreDue-append}

-- both lists of the territory ascend
pub record Ascends (t : TerritoryModel) : Type 0 where
  pub starts : IsFrom 0 t.starts
  pub years : IsFrom 0 t.exceptions

-- the changes are each due, and the same is found after them as in the target territory
pub record Reaches (both : BothSources) (w t : TerritoryModel) (es : List Change) : Type 0 where
  pub due : AreDue both w t es
  pub starts : (k : ℕ) → look k (after es t).starts ≡ look k w.starts
  pub years : (k : ℕ) → look k (after es t).exceptions ≡ look k w.exceptions

kept_if_true : {V : Type 0} (o now : Option V) (b : Bool) → b ≡ true → kept o b now ≡ now
kept_if_true None now b on = refl
kept_if_true (Some v) now b on = ap (λ c. cond c now None) on

-- what is kept is in the target
among_kept : (o : Option Regime) (b : Bool) → is_some (kept o b o) ≡ true → b ≡ true
among_kept None b some = absurd (false≢true some)
among_kept (Some r) true some = refl
among_kept (Some r) false some = absurd (false≢true some)

among_kept_day : (same : Bool) (o target : Option ℕ) → is_some (kept_day same o target o) ≡ true →
    is_some target ≡ true
among_kept_day same None target some = absurd (false≢true some)
among_kept_day same (Some d) None some = absurd (false≢true some)
among_kept_day same (Some d) (Some e) some = refl

-- after the first two passes the target starts are found
start_at : (target current now : Option Regime) (b : Bool) → b ≡ is_some target →
    now ≡ kept current b current → option_or target now ≡ target
start_at (Some r) current now b is e = refl
start_at None None now b is e = e
start_at None (Some s) now b is e = e ∙ ap (λ c. cond c (Some s) None) is

-- after the last two the target days
day_at : (same : Bool) (target current now : Option ℕ) →
    now ≡ kept_day same current target current → option_or target now ≡ target
day_at same (Some d) current now e = refl
day_at same None None now e = e
day_at same None (Some s) now e = e

-- between them a target day is listed if it was listed with its source, and otherwise its year has
-- no day
day_between : (same : Bool) (d : ℕ) (current : Option ℕ) →
    kept_day same current (Some d) current ≡ cond (is_day d current && same) (Some d) None
day_between same d None = refl
day_between same d (Some s) = elim (cases_eq d s) [
  | inl e ↦ ap (λ b. cond (b && same) (Some s) None) (eq-eqb d s e)
      ∙ ap (λ (n : ℕ). cond same (Some n) None) (sym e)
      ∙ sym (ap (λ b. cond (b && same) (Some d) None) (eq-eqb s d (sym e)))
  | inr apart ↦ ap (λ b. cond (b && same) (Some s) None) (ne_eqb d s apart)
      ∙ sym (ap (λ b. cond (b && same) (Some d) None) (ne_eqb s d (λ h. apart (sym h))))
]

pub reaches : (both : BothSources) (w t : TerritoryModel) → Ascends w → Ascends t →
    Reaches both w t (differences both t w)
reaches both w t up from =
    let es0 = flat_map (λ (s : ℕ × Regime). dropped_change w s.0) t.starts in
    let es1 = flat_map (target_change both t) w.starts in
    let es2 = flat_map (dropped_exception both w) t.exceptions in
    let es3 = flat_map (target_exception both t) w.exceptions in
    let t1 = after es0 t in
    let t2 = after es1 t1 in
    let t3 = after es2 t2 in
    let first : Drops both w t t.starts es0 = drops both w t 0 t.starts from.starts from.starts
    (λ k high. refl) in
    let second : Starts both w t1 w.starts es1 =
    starts both w t t1 0 w.starts from.starts up.starts (λ k high. refl)
    (λ k high some. first.found k ∙ kept_if_true (look k t.starts) (look k t.starts) (starts_on w k)
    (starts_found k w.starts ∙ some))
    (record {
      from = first.from;
      other = up.starts;
      among = λ k some. sym (starts_found k w.starts)
          ∙ among_kept (look k t.starts) (starts_on w k)
          (ap is_some (sym (first.found k)) ∙ some);
    }) in
    let same_years : t2.exceptions ≡ t.exceptions = second.years ∙ first.years in
    let third : YearDrops both w t2 t.exceptions es2 =
    year_drops both w t2 0 t.exceptions (subst (IsFrom 0) (sym same_years) from.years) from.years
    (λ k high. ap (look k) same_years) in
    let listed : (k : ℕ) → look k t3.exceptions
    ≡ kept_day (same_easter both k) (look k t.exceptions) (look k w.exceptions)
    (look k t.exceptions) =
    λ k. third.found k
    ∙ ap (λ ys. kept_day (same_easter both k) (look k t.exceptions) (look k w.exceptions)
    (look k ys)) same_years in
    let fourth : Years both w t3 w.exceptions es3 =
    years both w t t3 0 w.exceptions up.years (λ k high. refl)
    (λ k d high found. listed k
    ∙ ap (λ o. kept_day (same_easter both k) (look k t.exceptions) o (look k t.exceptions)) found
    ∙ day_between (same_easter both k) d (look k t.exceptions))
    (record {
      from = third.from;
      other = up.years;
      among = λ k some. among_kept_day (same_easter both k) (look k t.exceptions)
          (look k w.exceptions) (ap is_some (sym (listed k)) ∙ some);
    }) in
    let joined : after (differences both t w) t ≡ after es3 t3 =
    after-append es0 (es1 ++ (es2 ++ es3)) t ∙ after-append es1 (es2 ++ es3) t1
    ∙ after-append es2 es3 t2 in
    record {
      due = AreDue-append both w t es0 (es1 ++ (es2 ++ es3)) first.due
          (AreDue-append both w t1 es1 (es2 ++ es3) second.due
          (AreDue-append both w t2 es2 es3 third.due fourth.due));
      starts = λ k. ap (λ u. look k u.starts) joined
          ∙ ap (look k) (fourth.starts ∙ third.starts)
          ∙ second.found k
          ∙ start_at (look k w.starts) (look k t.starts) (look k t1.starts) (starts_on w k)
          (starts_found k w.starts) (first.found k);
      years = λ k. ap (λ u. look k u.exceptions) joined
          ∙ fourth.found k
          ∙ day_at (same_easter both k) (look k w.exceptions) (look k t.exceptions)
          (look k t3.exceptions) (listed k);
    }

-- of a territory that has the opening regime alone, with its source, the differences are the later
-- starts and days

abbrev pub opened_with : Option SourcesModel → BothSources
opened_with cited =
    record { current = Some (opening_sources (period_source cited 1)); target = cited }

later_starts : (cited : Option SourcesModel) (r : Regime) (n : ℕ) (ss : List (ℕ × Regime)) → 1 < n →
    IsFrom n ss →
    flat_map (target_change (opened_with cited) (of_one_regime r)) ss
    ≡ flat_map (added_change cited) ss
later_starts cited r n [] low from = refl
later_starts cited r n (s ∷ ss) low from =
    ap (λ b. cond (b || false) (altered_change (opened_with cited) (regime_at
    (of_one_regime r) s.0) s)
    (added_change cited s)
    ++ flat_map (target_change (opened_with cited) (of_one_regime r)) ss)
    (ne_eqb 1 s.0 (λ e. omega (arith, from.0)))
    ∙ ap (λ es. added_change cited s ++ es)
    (later_starts cited r (s.0 + 1) ss (omega (arith, from.0)) from.1)

later_years : (cited : Option SourcesModel) (r : Regime) (ys : List (ℕ × ℕ)) →
    flat_map (target_exception (opened_with cited) (of_one_regime r)) ys
    ≡ flat_map (added_exception cited) ys
later_years cited r [] = refl
later_years cited r (y ∷ ys) = ap (λ es. added_exception cited y ++ es) (later_years cited r ys)

opening_agrees : (cited : Option SourcesModel) → same_period (opened_with cited) 1 ≡ true
opening_agrees cited =
    let source = period_source cited 1 in
    ap (λ o. same_source o source) (source_here 1 source []) ∙ source_itself source

later_of : (cited : Option SourcesModel) (r : Regime) (rest : List (ℕ × Regime))
    (ys : List (ℕ × ℕ)) → IsFrom 2 rest →
    differences (opened_with cited) (of_one_regime r) (record {
      starts = (1, r) ∷ rest;
      exceptions =
          ys;
    })
    ≡ later cited (record { starts = (1, r) ∷ rest; exceptions = ys })
later_of cited r rest ys from =
    let both = opened_with cited in
    ap (λ b. (cond b [] (Alter 1 r (period_source cited 1) ∷ [])
    ++ flat_map (target_change both (of_one_regime r)) rest)
    ++ flat_map (target_exception both (of_one_regime r)) ys)
    (and_from (is_same r r) (same_period both 1) (regime_itself r) (opening_agrees cited))
    ∙ ap (λ es. es ++ flat_map (target_exception both (of_one_regime r)) ys)
    (later_starts cited r 2 rest (omega arith) from)
    ∙ ap (λ es. flat_map (added_change cited) rest ++ es) (later_years cited r ys)

pub later_is : (cited : Option SourcesModel) (w : TerritoryModel) (r : Regime)
    (rest : List (ℕ × Regime)) → w.starts ≡ (1, r) ∷ rest → IsFrom 2 rest →
    differences (opened_with cited) (of_one_regime r) w ≡ later cited w
later_is cited w r rest is from =
    let same : (let v : TerritoryModel = record
    { starts = (1, r) ∷ rest; exceptions = w.exceptions } in v) ≡ w =
    ap (λ (ss : List (ℕ × Regime)). let v : TerritoryModel = record
    { starts = ss; exceptions = w.exceptions } in v) (sym is) in
    subst (λ (v : TerritoryModel). differences (opened_with cited) (of_one_regime r) v
    ≡ later cited v)
    same (later_of cited r rest w.exceptions from)
