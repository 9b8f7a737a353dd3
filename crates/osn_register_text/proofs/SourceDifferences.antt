-- The differences of two territories take the sources of one to those of the other.
use Rattle.std.proofs.Common.{◌≡◌, ℕ, true, List, ◌++◌, Option, Some, None, is_some}
use Rattle.std.proofs.Common.{refl, sym, ap, ◌∙◌}
use Rattle.std.proofs.lemmas.Bool.{eq-eqb, eqb-true, false≢true, and_parts, and_from}
use Rattle.std.specs.List.{flat_map}
use Rattle.osn_territory.specs.declared.regime.Regime.{Regime}
use Rattle.osn_territory.specs.Territory.{TerritoryModel}
use Rattle.osn_territory.specs.Changes.{starts_on}
use Rattle.osn_register.specs.Sources.{SourcesModel, source_of}
use Rattle.osn_register_text.specs.Change.{Change}
use Rattle.osn_register_text.specs.CitedSources.{same_easter}
use Rattle.osn_register_text.specs.Differences.{is_day, dropped_change, target_change}
use Rattle.osn_register_text.specs.Differences.{dropped_exception, target_exception, differences}
use Rattle.osn_register_text.proofs.Rows.{look}
use Rattle.osn_register_text.proofs.ChangeFacts.{starts_found}
use Rattle.osn_register_text.proofs.TerritoryDifferences.{Ascends}
use Rattle.osn_register_text.proofs.Fresh.{pair_of, cited_after, AreFresh, cited_after-append}
use Rattle.osn_register_text.proofs.Fresh.{AreFresh-append}
use Rattle.osn_register_text.proofs.StartSources.{DropsCited, drops_cited, StartsCited}
use Rattle.osn_register_text.proofs.StartSources.{starts_cited}
use Rattle.osn_register_text.proofs.DaySources.{DayDropsCited, day_drops_cited, DaysCited}
use Rattle.osn_register_text.proofs.DaySources.{days_cited}

-- after the changes each period and each listed Easter of the target territory has its source
pub record Cites (w : TerritoryModel) (old new : SourcesModel) (es : List Change) : Type 0 where
  pub fresh : AreFresh old old es
  pub periods : (k : ℕ) → starts_on w k ≡ true →
      source_of k (cited_after es old).periods ≡ source_of k new.periods
  pub easters : (k : ℕ) → is_some (look k w.exceptions) ≡ true →
      source_of k (cited_after es old).easters ≡ source_of k new.easters

is_day_is : (d : ℕ) (o : Option ℕ) → is_day d o ≡ true → o ≡ Some d
is_day_is d None on = absurd (false≢true on)
is_day_is d (Some other) on = ap (λ n. Some n) (eqb-true other d on)

pub cites : (w t : TerritoryModel) (old new : SourcesModel) → Ascends w → Ascends t →
    Cites w old new (differences (pair_of old new) t w)
cites w t old new up from =
    let both = pair_of old new in
    let es0 = flat_map (λ (s : ℕ × Regime). dropped_change w s.0) t.starts in
    let es1 = flat_map (target_change both t) w.starts in
    let es2 = flat_map (dropped_exception both w) t.exceptions in
    let es3 = flat_map (target_exception both t) w.exceptions in
    let s1 = cited_after es0 old in
    let s2 = cited_after es1 s1 in
    let s3 = cited_after es2 s2 in
    let first : DropsCited w old old es0 = drops_cited w old old t.starts in
    let second : StartsCited old new s1 w.starts es1 =
    starts_cited old new s1 t 0 w.starts up.starts
    (λ k high some. first.periods k (starts_found k w.starts ∙ some)) in
    let same_years : s2.easters ≡ old.easters = second.easters ∙ first.easters in
    let third : DayDropsCited w old new s2 t.exceptions es2 =
    day_drops_cited w old new s2 0 t.exceptions from.years
    (λ k high. ap (source_of k) same_years) in
    let fourth : DaysCited old new s3 w.exceptions es3 =
    days_cited old new s3 t 0 w.exceptions up.years
    (λ k d high found agrees.
    let both_agree = and_parts (is_day d (look k t.exceptions)) (same_easter both k) agrees in
    let current : look k t.exceptions ≡ Some d =
    is_day_is d (look k t.exceptions) both_agree.0 in
    third.kept k d current
    (and_from (is_day d (look k w.exceptions)) (same_easter both k)
    (ap (is_day d) found ∙ eq-eqb d d refl) both_agree.1)
    ∙ ap (source_of k) same_years) in
    let joined : cited_after (differences both t w) old ≡ cited_after es3 s3 =
    cited_after-append es0 (es1 ++ (es2 ++ es3)) old
    ∙ cited_after-append es1 (es2 ++ es3) s1
    ∙ cited_after-append es2 es3 s2 in
    record {
      fresh = AreFresh-append old old es0 (es1 ++ (es2 ++ es3)) first.fresh
          (AreFresh-append old s1 es1 (es2 ++ es3) second.fresh
          (AreFresh-append old s2 es2 es3 third.fresh fourth.fresh));
      periods = λ k on. ap (λ (s : SourcesModel). source_of k s.periods) joined
          ∙ ap (source_of k) (fourth.periods ∙ third.periods)
          ∙ second.periods k (sym (starts_found k w.starts) ∙ on);
      easters = λ k some. ap (λ (s : SourcesModel). source_of k s.easters) joined
          ∙ fourth.easters k some;
    }
