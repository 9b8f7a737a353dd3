-- The edits of all target territories are in order.
use Rattle.std.proofs.Common.{◌≡◌, ◌<◌, ◌≤◌, ◌+◌, ℕ, true, false, List, [], ◌∷◌, ◌++◌, map}
use Rattle.std.proofs.Common.{drop, Option, Some, None, refl, sym, subst, ap, ◌∙◌, arith, inl, inr}
use Rattle.std.proofs.Common.{append-nil, if◌then◌else◌}
use Rattle.std.proofs.lemmas.List.{map-append}
use Rattle.std.specs.List.{flat_map}
use Rattle.osn_days.specs.Rules.{Rules}
use Rattle.osn_territory.specs.declared.regime.Regime.{Regime}
use Rattle.osn_territory.specs.Territory.{TerritoryModel, regime_at}
use Rattle.osn_territory.specs.Changes.{starts_on}
use Rattle.osn_register.specs.declared.edit.Edit.{Edit}
use Rattle.osn_register.specs.declared.edit.Edit.TheVariants.{AddLand}
use Rattle.osn_register.specs.Lawful.{code_of}
use Rattle.osn_register.specs.Plain.{EntryModel, entry_of, sources_of}
use Rattle.osn_register.specs.Sources.{SourcesModel}
use Rattle.osn_register.specs.Answer.{period_source}
use Rattle.osn_register_text.specs.Change.{Change, edit_of}
use Rattle.osn_register_text.specs.Change.Change.{Alter, Drop, DropDay}
use Rattle.osn_register_text.specs.CitedSources.{BothSources}
use Rattle.osn_register_text.specs.Differences as spec
use Rattle.osn_register_text.specs.PlanOrder.{turn_of, time_of, IsBeforeAll, AreInTurn}
use Rattle.osn_register_text.specs.PlanOrder.{AreInOrder}
use Rattle.osn_register_text.proofs.Rows.{IsFrom, weaken}
use Rattle.osn_register_text.proofs.TerritoryDifferences.{Ascends}
use Rattle.osn_register_text.proofs.TargetTerritories.{Fits, AreFit}

map_four : {X Y : Type 0} (f : X → Y) (a b c d : List X) →
    map f (a ++ (b ++ (c ++ d))) ≡ map f a ++ (map f b ++ (map f c ++ map f d))
map_four f a b c d =
    map-append f a (b ++ (c ++ d))
    ∙ ap (λ l. map f a ++ l) (map-append f b (c ++ d)
    ∙ ap (λ l. map f b ++ l) (map-append f c d))

-- edits of one turn, whose days or years ascend from this one on
abbrev Run : List ℕ → ℕ → ℕ → List Edit → Type 0
Run code turn n [] = Unit {0}
Run code turn n (e ∷ es) = (code_of e ≡ code) × (turn_of e ≡ turn) × (n ≤ time_of e)
    × Run code turn (time_of e + 1) es

-- edits of this turn or later ones
abbrev FromTurn : ℕ → List Edit → Type 0
FromTurn turn [] = Unit {0}
FromTurn turn (e ∷ es) = (turn ≤ turn_of e) × FromTurn turn es

-- edits in turn, from this one on
record Rest (code : List ℕ) (turn : ℕ) (es : List Edit) : Type 0 where
  ordered : AreInTurn code es
  from : FromTurn turn es

module _ (code : List ℕ) (turn : ℕ) where
  run_lower : (m n : ℕ) (es : List Edit) → m ≤ n → Run code turn n es → Run code turn m es
  run_lower m n [] low run = tt
  run_lower m n (e ∷ es) low run = (run.0, run.1, omega (arith, run.2), run.3)

  before_later : (e : Edit) (fs : List Edit) → turn_of e ≡ turn → FromTurn (turn + 1) fs →
      IsBeforeAll e fs
  before_later e [] at later = tt
  before_later e (f ∷ fs) at later =
      (inl (omega (arith, later.0)), before_later e fs at later.1)

  before_run : (e : Edit) (n : ℕ) (es fs : List Edit) → turn_of e ≡ turn → time_of e < n →
      Run code turn n es → FromTurn (turn + 1) fs → IsBeforeAll e (es ++ fs)
  before_run e n [] fs at low run later = before_later e fs at later
  before_run e n (f ∷ es) fs at low run later = (
    inr (at ∙ sym run.1, omega (arith, run.2)),
    before_run e (time_of f + 1) es fs at (omega (arith, run.2)) run.3 later,
  )

  from_lower : (fs : List Edit) → FromTurn (turn + 1) fs → FromTurn turn fs
  from_lower [] later = tt
  from_lower (f ∷ fs) later = (omega (arith, later.0), from_lower fs later.1)

  run_from : (n : ℕ) (es fs : List Edit) → Run code turn n es → FromTurn (turn + 1) fs →
      FromTurn turn (es ++ fs)
  run_from n [] fs run later = from_lower fs later
  run_from n (e ∷ es) fs run later =
      (omega (arith, run.1), run_from (time_of e + 1) es fs run.3 later)

  run_ordered : (n : ℕ) (es fs : List Edit) → Run code turn n es → Rest code (turn + 1) fs →
      AreInTurn code (es ++ fs)
  run_ordered n [] fs run rest = rest.ordered
  run_ordered n (e ∷ es) fs run rest = (
    run.0,
    before_run e (time_of e + 1) es fs run.1 (omega arith) run.3 rest.from,
    run_ordered (time_of e + 1) es fs run.3 rest,
  )

  -- a run, and then later turns
  run_then : (n : ℕ) (es fs : List Edit) → Run code turn n es → Rest code (turn + 1) fs →
      Rest code turn (es ++ fs)
  run_then n es fs run rest = record {
    ordered = run_ordered n es fs run rest;
    from = run_from n es fs run rest.from;
  }

  -- of ascending pairs, each of which makes at most one edit of its own day or year
  module _ {V : Type 0} (f : ℕ × V → List Change)
      (one : (x : ℕ × V) (es : List Edit) → Run code turn (x.0 + 1) es →
      Run code turn x.0 (map (edit_of code) (f x) ++ es))
    where
      run_of : (n : ℕ) (xs : List (ℕ × V)) → IsFrom n xs →
          Run code turn n (map (edit_of code) (flat_map f xs))
      run_of n [] from = tt
      run_of n (x ∷ xs) from =
          let later : Run code turn (x.0 + 1) (map (edit_of code) (flat_map f xs)) =
          run_of (x.0 + 1) xs from.1 in
          subst (Run code turn n) (sym (map-append (edit_of code) (f x) (flat_map f xs)))
          (run_lower n x.0 (map (edit_of code) (f x) ++ map (edit_of code) (flat_map f xs)) from.0
          (one x (map (edit_of code) (flat_map f xs)) later))

-- ---- what one start or one listed Easter makes

module _ (code : List ℕ) where
  one_dropped : (target : TerritoryModel) (x : ℕ × Regime) (es : List Edit) →
      Run code 2 (x.0 + 1) es →
      Run code 2 x.0 (map (edit_of code) (spec.dropped_change target x.0) ++ es)
  one_dropped target x es run =
      elim (starts_on target x.0) as (λ b.
      Run code 2 x.0 (map (edit_of code) (if b then [] else Drop x.0 ∷ []) ++ es)) [
        | true ↦ run_lower code 2 x.0 (x.0 + 1) es (omega arith) run
        | false ↦ (refl, refl, omega arith, run)
      ]

  one_added : (cited : Option SourcesModel) (x : ℕ × Regime) (es : List Edit) →
      Run code 3 (x.0 + 1) es →
      Run code 3 x.0 (map (edit_of code) (spec.added_change cited x) ++ es)
  one_added cited x es run = (refl, refl, omega arith, run)

  one_altered : (both : BothSources) (current : Regime) (x : ℕ × Regime) (es : List Edit) →
      Run code 3 (x.0 + 1) es →
      Run code 3 x.0 (map (edit_of code) (spec.altered_change both current x) ++ es)
  one_altered both current x es run =
      elim (spec.start_agrees both current x) as (λ b.
      Run code 3 x.0 (map (edit_of code)
      (if b then [] else Alter x.0 x.1 (period_source both.target x.0) ∷ []) ++ es)) [
        | true ↦ run_lower code 3 x.0 (x.0 + 1) es (omega arith) run
        | false ↦ (refl, refl, omega arith, run)
      ]

  one_target : (both : BothSources) (current : TerritoryModel) (x : ℕ × Regime)
      (es : List Edit) → Run code 3 (x.0 + 1) es →
      Run code 3 x.0 (map (edit_of code) (spec.target_change both current x) ++ es)
  one_target both current x es run =
      elim (starts_on current x.0) as (λ b. Run code 3 x.0 (map (edit_of code)
      (if b then spec.altered_change both (regime_at current x.0) x
      else spec.added_change both.target x) ++ es)) [
        | true ↦ one_altered both (regime_at current x.0) x es run
        | false ↦ one_added both.target x es run
      ]

  one_unlisted : (both : BothSources) (target : TerritoryModel) (x : ℕ × ℕ) (es : List Edit) →
      Run code 4 (x.0 + 1) es →
      Run code 4 x.0 (map (edit_of code) (spec.dropped_exception both target x) ++ es)
  one_unlisted both target x es run =
      elim (spec.day_agrees both target x) as (λ b.
      Run code 4 x.0 (map (edit_of code) (if b then [] else DropDay x.0 ∷ []) ++ es)) [
        | true ↦ run_lower code 4 x.0 (x.0 + 1) es (omega arith) run
        | false ↦ (refl, refl, omega arith, run)
      ]

  one_listed : (cited : Option SourcesModel) (x : ℕ × ℕ) (es : List Edit) →
      Run code 5 (x.0 + 1) es →
      Run code 5 x.0 (map (edit_of code) (spec.added_exception cited x) ++ es)
  one_listed cited x es run = (refl, refl, omega arith, run)

  one_wanting : (both : BothSources) (current : TerritoryModel) (x : ℕ × ℕ) (es : List Edit) →
      Run code 5 (x.0 + 1) es →
      Run code 5 x.0 (map (edit_of code) (spec.target_exception both current x) ++ es)
  one_wanting both current x es run =
      elim (spec.day_agrees both current x) as (λ b. Run code 5 x.0 (map (edit_of code)
      (if b then [] else spec.added_exception both.target x) ++ es)) [
        | true ↦ run_lower code 5 x.0 (x.0 + 1) es (omega arith) run
        | false ↦ one_listed both.target x es run
      ]

  -- ---- the edits of one territory

  -- the last turn
  last_run : (turn n : ℕ) (es : List Edit) → Run code turn n es → Rest code turn es
  last_run turn n es run =
      subst (Rest code turn) (append-nil es)
      (run_then code turn n es [] run (record { ordered = tt; from = tt }))

  differences_ordered : (both : BothSources) (current target : TerritoryModel) →
      Ascends current → Ascends target →
      AreInTurn code (map (edit_of code) (spec.differences both current target))
  differences_ordered both current target up other =
      let dropped = flat_map (λ (s : ℕ × Regime). spec.dropped_change target s.0) current.starts in
      let changed = flat_map (spec.target_change both current) target.starts in
      let unlisted = flat_map (spec.dropped_exception both target) current.exceptions in
      let listed = flat_map (spec.target_exception both current) target.exceptions in
      let fifth : Rest code 5 (map (edit_of code) listed) =
      last_run 5 0 (map (edit_of code) listed) (run_of code 5 (spec.target_exception both current)
      (one_wanting both current) 0 target.exceptions other.years) in
      let fourth : Rest code 4 (map (edit_of code) unlisted ++ map (edit_of code) listed) =
      run_then code 4 0 (map (edit_of code) unlisted) (map (edit_of code) listed)
      (run_of code 4 (spec.dropped_exception both target) (one_unlisted both target) 0
      current.exceptions up.years) fifth in
      let third : Rest code 3 (map (edit_of code) changed
      ++ (map (edit_of code) unlisted ++ map (edit_of code) listed)) =
      run_then code 3 0 (map (edit_of code) changed)
      (map (edit_of code) unlisted ++ map (edit_of code) listed)
      (run_of code 3 (spec.target_change both current) (one_target both current) 0
      target.starts other.starts) fourth in
      let second : Rest code 2 (map (edit_of code) dropped ++ (map (edit_of code) changed
      ++ (map (edit_of code) unlisted ++ map (edit_of code) listed))) =
      run_then code 2 0 (map (edit_of code) dropped) (map (edit_of code) changed
      ++ (map (edit_of code) unlisted ++ map (edit_of code) listed))
      (run_of code 2 (λ (s : ℕ × Regime). spec.dropped_change target s.0) (one_dropped target) 0
      current.starts up.starts) third in
      subst (AreInTurn code) (sym (map_four (edit_of code) dropped changed unlisted listed))
      second.ordered

  dropped_first : {V : Type 0} (n : ℕ) (xs : List (ℕ × V)) → IsFrom n xs → IsFrom n (drop 1 xs)
  dropped_first n [] from = tt
  dropped_first n (x ∷ xs) from = weaken n (x.0 + 1) xs (omega (arith, from.0)) from.1

  later_ordered : (cited : Option SourcesModel) (target : TerritoryModel) → Ascends target →
      Rest code 3 (map (edit_of code) (spec.later cited target))
  later_ordered cited target up =
      let changed = flat_map (spec.added_change cited) (drop 1 target.starts) in
      let listed = flat_map (spec.added_exception cited) target.exceptions in
      let last : Rest code 5 (map (edit_of code) listed) =
      last_run 5 0 (map (edit_of code) listed) (run_of code 5 (spec.added_exception cited)
      (one_listed cited) 0 target.exceptions up.years) in
      let fourth : Rest code 4 (map (edit_of code) listed) = record {
        ordered = last.ordered;
        from = from_lower code 4 (map (edit_of code) listed) last.from;
      } in
      subst (Rest code 3) (sym (map-append (edit_of code) changed listed))
      (run_then code 3 0 (map (edit_of code) changed) (map (edit_of code) listed)
      (run_of code 3 (spec.added_change cited) (one_added cited) 0 (drop 1 target.starts)
      (dropped_first 0 target.starts up.starts)) fourth)

-- the edits of one target territory
entry_ordered : (p : Rules) (cited : Option SourcesModel) (l : EntryModel)
    (o : Option EntryModel) → Ascends l.territory → Fits p l o →
    AreInTurn l.code (spec.edits_from cited l.code l.name l.territory o)
entry_ordered p cited l None up fits =
    let later = later_ordered l.code cited l.territory up in (
      refl,
      before_later l.code 1 (AddLand l.code l.name (spec.opening l.territory.starts)
          (period_source cited 1)) (map (edit_of l.code) (spec.later cited l.territory)) refl
          (from_lower l.code 2 (map (edit_of l.code) (spec.later cited l.territory)) later.from),
      later.ordered,
    )
entry_ordered p cited l (Some current) up fits =
    differences_ordered l.code (record { current = Some current.sources; target = cited })
    current.territory l.territory fits.1 up

-- the edits of all territories are in order
pub in_order : (p : Rules) (target territories left : List EntryModel) →
    AreFit p territories left → AreInOrder left (spec.edits_for target territories left)
in_order p target territories [] fit = refl
in_order p target territories (l ∷ left) fit = (
  spec.entry_edits target territories l.code l.name l.territory,
  spec.edits_for target territories left,
  refl,
  entry_ordered p (sources_of l.code target) l (entry_of l.code territories) fit.0.up
      fit.0.current,
  in_order p target territories left fit.1,
)
