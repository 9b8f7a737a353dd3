-- The sources of listed Easters after two passes, through those of each of two territories.
use Rattle.std.proofs.Common.{◌≡◌, ℕ, inl, inr, ◌+◌, ◌≤◌, Bool, cond, true, false, ◌&&◌, List}
use Rattle.std.proofs.Common.{[], ◌∷◌, ◌++◌, None, Some, is_some, refl, sym, ap, ◌∙◌, arith}
use Rattle.std.proofs.lemmas.Bool.{cases_eq, false≢true, and_parts}
use Rattle.std.specs.List.{flat_map}
use Rattle.osn_territory.specs.Territory.{TerritoryModel}
use Rattle.osn_territory.specs.Exceptions.{exception_of}
use Rattle.osn_register.specs.Sources.{SourcesModel, source_of, with_easter_source}
use Rattle.osn_register_text.specs.Change.{Change}
use Rattle.osn_register_text.specs.Change.Change.{DropDay}
use Rattle.osn_register_text.specs.CitedSources.{same_easter}
use Rattle.osn_register_text.specs.Differences.{is_day, lists, day_agrees, dropped_exception}
use Rattle.osn_register_text.specs.Differences.{added_exception, target_exception}
use Rattle.osn_register_text.proofs.Rows.{look, IsFrom, look_here, look_there, look_below, parts}
use Rattle.osn_register_text.proofs.Rows.{some_is}
use Rattle.osn_register_text.proofs.SourceRows.{source_here, source_apart, same_is}
use Rattle.osn_register_text.proofs.Fresh.{pair_of, cited_after, AreFresh}

-- the drops of listed days: what is not dropped keeps its source

pub record DayDropsCited (w : TerritoryModel) (old new s : SourcesModel) (ys : List (ℕ × ℕ))
    (es : List Change) : Type 0 where
  pub fresh : AreFresh old s es
  pub periods : (cited_after es s).periods ≡ s.periods
  pub kept : (k d : ℕ) → look k ys ≡ Some d → day_agrees (pair_of old new) w (k, d) ≡ true →
      source_of k (cited_after es s).easters ≡ source_of k s.easters
  pub others : (k : ℕ) → look k ys ≡ None →
      source_of k (cited_after es s).easters ≡ source_of k s.easters

-- what is left, from a year on
abbrev LaterDrops : TerritoryModel → SourcesModel → SourcesModel → ℕ → List (ℕ × ℕ) → Type 0
LaterDrops w old new n ys = (u : SourcesModel) →
    ((k : ℕ) → n ≤ k → source_of k u.easters ≡ source_of k old.easters) →
    DayDropsCited w old new u ys (flat_map (dropped_exception (pair_of old new) w) ys)

pub day_drops_cited : (w : TerritoryModel) (old new s : SourcesModel) (n : ℕ)
    (ys : List (ℕ × ℕ)) → IsFrom n ys →
    ((k : ℕ) → n ≤ k → source_of k s.easters ≡ source_of k old.easters) →
    DayDropsCited w old new s ys (flat_map (dropped_exception (pair_of old new) w) ys)
day_drops_cited w old new s n [] from same = record {
  fresh = tt;
  periods = refl;
  kept = λ k d found agrees. refl;
  others = λ k none. refl;
}
day_drops_cited w old new s n (y ∷ ys) from same =
    by (day_agrees (pair_of old new) w y) refl
    (λ u rest. day_drops_cited w old new u (y.0 + 1) ys from.1 rest)
  where
    -- the day that is found is the one that is dropped
    contrary : (k d : ℕ) → k ≡ y.0 → look k (y ∷ ys) ≡ Some d →
        day_agrees (pair_of old new) w (k, d) ≡ true →
        day_agrees (pair_of old new) w y ≡ false → ⊥
    contrary k d e found agrees off =
        let value : y.1 ≡ d = some_is (sym (look_here k y ys e) ∙ found) in
        false≢true (sym off
        ∙ ap (λ v. is_day v (exception_of w y.0) && same_easter (pair_of old new) y.0) value
        ∙ ap (λ m. is_day d (exception_of w m) && same_easter (pair_of old new) m) (sym e)
        ∙ agrees)

    by : (b : Bool) → day_agrees (pair_of old new) w y ≡ b →
        LaterDrops w old new (y.0 + 1) ys → DayDropsCited w old new s (y ∷ ys)
        (cond b [] (DropDay y.0 ∷ []) ++ flat_map (dropped_exception (pair_of old new) w) ys)
    by true on next =
        let rest = next s (λ k high. same k (omega (arith, from.0, high))) in
        record {
          fresh = rest.fresh;
          periods = rest.periods;
          kept = λ k d found agrees. elim (cases_eq k y.0) [
            | inl e ↦ rest.others k (look_below k (y.0 + 1) ys (omega arith) from.1)
            | inr apart ↦ rest.kept k d (sym (look_there k y ys apart) ∙ found) agrees
          ];
          others = λ k none. rest.others k (parts k y ys none).1;
        }
    by false off next =
        let rest = next (with_easter_source y.0 None s)
        (λ k high. source_apart k y.0 None s.easters (λ e. omega (arith, e, high))
        ∙ same k (omega (arith, from.0, high))) in
        record {
          fresh = (same y.0 from.0, rest.fresh);
          periods = rest.periods;
          kept = λ k d found agrees. elim (cases_eq k y.0) [
            | inl e ↦ absurd (contrary k d e found agrees off)
            | inr apart ↦ rest.kept k d (sym (look_there k y ys apart) ∙ found) agrees
                ∙ source_apart k y.0 None s.easters apart
          ];
          others = λ k none.
              let apart = parts k y ys none in
              rest.others k apart.1 ∙ source_apart k y.0 None s.easters apart.0;
        }

-- the target days: each has the target source

pub record DaysCited (old new s : SourcesModel) (ys : List (ℕ × ℕ)) (es : List Change) : Type 0
  where
    pub fresh : AreFresh old s es
    pub periods : (cited_after es s).periods ≡ s.periods
    pub easters : (k : ℕ) → is_some (look k ys) ≡ true →
        source_of k (cited_after es s).easters ≡ source_of k new.easters
    pub others : (k : ℕ) → look k ys ≡ None →
        source_of k (cited_after es s).easters ≡ source_of k s.easters

-- the sources with the target one of a year
abbrev cited_for : ℕ → SourcesModel → SourcesModel → SourcesModel
cited_for y new s = with_easter_source y (source_of y new.easters) s

-- the days that stay have the present sources, from a year on
abbrev KeepsSources : SourcesModel → SourcesModel → TerritoryModel → ℕ → List (ℕ × ℕ) → SourcesModel
    → Type 0
KeepsSources old new t n ys s = (k d : ℕ) → n ≤ k → look k ys ≡ Some d →
    day_agrees (pair_of old new) t (k, d) ≡ true →
    source_of k s.easters ≡ source_of k old.easters

abbrev LaterDays : SourcesModel → SourcesModel → TerritoryModel → ℕ → List (ℕ × ℕ) → Type 0
LaterDays old new t n ys = (u : SourcesModel) → KeepsSources old new t n ys u →
    DaysCited old new u ys (flat_map (target_exception (pair_of old new) t) ys)

pub days_cited : (old new s : SourcesModel) (t : TerritoryModel) (n : ℕ) (ys : List (ℕ × ℕ)) →
    IsFrom n ys → KeepsSources old new t n ys s →
    DaysCited old new s ys (flat_map (target_exception (pair_of old new) t) ys)
days_cited old new s t n [] from same = record {
  fresh = tt;
  periods = refl;
  easters = λ k some. absurd (false≢true some);
  others = λ k none. refl;
}
days_cited old new s t n (y ∷ ys) from same =
    by (day_agrees (pair_of old new) t y) refl
    (λ u rest. days_cited old new u t (y.0 + 1) ys from.1 rest)
  where
    later : (k : ℕ) → y.0 + 1 ≤ k → look k (y ∷ ys) ≡ look k ys
    later k high = look_there k y ys (λ e. omega (arith, e, high))

    still : KeepsSources old new t (y.0 + 1) ys s
    still = λ k d high found agrees.
        same k d (omega (arith, from.0, high)) (later k high ∙ found) agrees

    by : (b : Bool) → day_agrees (pair_of old new) t y ≡ b →
        LaterDays old new t (y.0 + 1) ys → DaysCited old new s (y ∷ ys)
        (cond b [] (added_exception (Some new) y)
        ++ flat_map (target_exception (pair_of old new) t) ys)
    by true on next =
        let rest = next s still in
        let one : source_of y.0 old.easters ≡ source_of y.0 new.easters =
        same_is (source_of y.0 old.easters) (source_of y.0 new.easters)
        (and_parts (lists t y) (same_easter (pair_of old new) y.0) on).1 in
        record {
          fresh = rest.fresh;
          periods = rest.periods;
          easters = λ k some. elim (cases_eq k y.0) [
            | inl e ↦ rest.others k (look_below k (y.0 + 1) ys (omega arith) from.1)
                ∙ ap (λ m. source_of m s.easters) e
                ∙ same y.0 y.1 from.0 (look_here y.0 y ys refl) on ∙ one
                ∙ ap (λ m. source_of m new.easters) (sym e)
            | inr apart ↦ rest.easters k (ap is_some (sym (look_there k y ys apart)) ∙ some)
          ];
          others = λ k none. rest.others k (parts k y ys none).1;
        }
    by false off next =
        let u = cited_for y.0 new s in
        let rest = next u
        (λ k d high found agrees. source_apart k y.0 (source_of y.0 new.easters) s.easters
        (λ e. omega (arith, e, high)) ∙ still k d high found agrees) in
        record {
          fresh = (tt, rest.fresh);
          periods = rest.periods;
          easters = λ k some. elim (cases_eq k y.0) [
            | inl e ↦ rest.others k (look_below k (y.0 + 1) ys (omega arith) from.1)
                ∙ ap (λ m. source_of m u.easters) e
                ∙ source_here y.0 (source_of y.0 new.easters) s.easters
                ∙ ap (λ m. source_of m new.easters) (sym e)
            | inr apart ↦ rest.easters k (ap is_some (sym (look_there k y ys apart)) ∙ some)
          ];
          others = λ k none.
              let apart = parts k y ys none in
              rest.others k apart.1
              ∙ source_apart k y.0 (source_of y.0 new.easters) s.easters apart.0;
        }
