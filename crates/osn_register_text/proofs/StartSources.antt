-- The sources of periods after two passes, through the starts of each of two territories.
use Rattle.std.proofs.Common.{◌≡◌, ℕ, inl, inr, ◌+◌, ◌≤◌, Bool, cond, true, false, List}
use Rattle.std.proofs.Common.{[], ◌∷◌, ◌++◌, None, Some, is_some, refl, sym, ap, ◌∙◌, arith}
use Rattle.std.proofs.lemmas.Bool.{cases_eq, false≢true, and_parts}
use Rattle.std.specs.List.{flat_map}
use Rattle.osn_territory.specs.declared.regime.Regime.{Regime}
use Rattle.osn_territory.specs.Territory.{TerritoryModel, regime_at}
use Rattle.osn_territory.specs.Changes.{starts_on}
use Rattle.osn_register.specs.Sources.{SourcesModel, source_of, with_period_source}
use Rattle.osn_register_text.specs.Change.{Change}
use Rattle.osn_register_text.specs.Change.Change.{Alter, Drop}
use Rattle.osn_register_text.specs.CitedSources.{same_period}
use Rattle.osn_register_text.specs.Differences.{is_same, start_agrees, dropped_change, added_change}
use Rattle.osn_register_text.specs.Differences.{target_change}
use Rattle.osn_register_text.proofs.Rows.{look, IsFrom, look_here, look_there, look_below, parts}
use Rattle.osn_register_text.proofs.SourceRows.{source_here, source_apart, same_is}
use Rattle.osn_register_text.proofs.Fresh.{pair_of, cited_after, AreFresh}

-- the drops of changes: a target day keeps its source

pub record DropsCited (w : TerritoryModel) (old s : SourcesModel) (es : List Change) : Type 0
  where
    pub fresh : AreFresh old s es
    pub easters : (cited_after es s).easters ≡ s.easters
    pub periods : (k : ℕ) → starts_on w k ≡ true →
        source_of k (cited_after es s).periods ≡ source_of k s.periods

pub drops_cited : (w : TerritoryModel) (old s : SourcesModel) (ss : List (ℕ × Regime)) →
    DropsCited w old s (flat_map (λ x. dropped_change w x.0) ss)
drops_cited w old s [] = record { fresh = tt; easters = refl; periods = λ k on. refl }
drops_cited w old s (x ∷ ss) = by (starts_on w x.0) refl (λ u. drops_cited w old u ss)
  where
    by : (b : Bool) → starts_on w x.0 ≡ b →
        ((u : SourcesModel) → DropsCited w old u (flat_map (λ x. dropped_change w x.0) ss)) →
        DropsCited w old s (cond b [] (Drop x.0 ∷ []) ++ flat_map (λ x. dropped_change w x.0) ss)
    by true on next = next s
    by false off next =
        let rest = next (with_period_source x.0 None s) in
        record {
          fresh = (tt, rest.fresh);
          easters = rest.easters;
          periods = λ k on. rest.periods k on
              ∙ source_apart k x.0 None s.periods
              (λ e. false≢true (sym off ∙ ap (starts_on w) (sym e) ∙ on));
        }

-- the target starts: each has the target source

pub record StartsCited (old new s : SourcesModel) (ss : List (ℕ × Regime)) (es : List Change)
    : Type 0 where
  pub fresh : AreFresh old s es
  pub easters : (cited_after es s).easters ≡ s.easters
  pub periods : (k : ℕ) → is_some (look k ss) ≡ true →
      source_of k (cited_after es s).periods ≡ source_of k new.periods
  pub others : (k : ℕ) → look k ss ≡ None →
      source_of k (cited_after es s).periods ≡ source_of k s.periods

-- the sources with the target one of a day
abbrev cited_on : ℕ → SourcesModel → SourcesModel → SourcesModel
cited_on d new s = with_period_source d (source_of d new.periods) s

-- what is left, from a day on
abbrev Later : SourcesModel → SourcesModel → TerritoryModel → ℕ → List (ℕ × Regime) → Type 0
Later old new t n ss = (u : SourcesModel) →
    ((k : ℕ) → n ≤ k → is_some (look k ss) ≡ true →
    source_of k u.periods ≡ source_of k old.periods) →
    StartsCited old new u ss (flat_map (target_change (pair_of old new) t) ss)

pub starts_cited : (old new s : SourcesModel) (t : TerritoryModel) (n : ℕ)
    (ss : List (ℕ × Regime)) → IsFrom n ss →
    ((k : ℕ) → n ≤ k → is_some (look k ss) ≡ true →
    source_of k s.periods ≡ source_of k old.periods) →
    StartsCited old new s ss (flat_map (target_change (pair_of old new) t) ss)
starts_cited old new s t n [] from same = record {
  fresh = tt;
  easters = refl;
  periods = λ k some. absurd (false≢true some);
  others = λ k none. refl;
}
starts_cited old new s t n (x ∷ ss) from same =
    by (starts_on t x.0) (start_agrees (pair_of old new) (regime_at t x.0) x) refl
    (λ u rest. starts_cited old new u t (x.0 + 1) ss from.1 rest)
  where
    later : (k : ℕ) → x.0 + 1 ≤ k → look k (x ∷ ss) ≡ look k ss
    later k high = look_there k x ss (λ e. omega (arith, e, high))

    now : source_of x.0 s.periods ≡ source_of x.0 old.periods
    now = same x.0 from.0 (ap is_some (look_here x.0 x ss refl))

    -- those that follow have their source from before
    still : (k : ℕ) → x.0 + 1 ≤ k → is_some (look k ss) ≡ true →
        source_of k s.periods ≡ source_of k old.periods
    still k high some = same k (omega (arith, from.0, high)) (ap is_some (later k high) ∙ some)

    given : Later old new t (x.0 + 1) ss →
        StartsCited old new (cited_on x.0 new s) ss
        (flat_map (target_change (pair_of old new) t) ss)
    given next = next (cited_on x.0 new s)
        (λ k high some. source_apart k x.0 (source_of x.0 new.periods) s.periods
        (λ e. omega (arith, e, high)) ∙ still k high some)

    found : (es : List Change) → StartsCited old new (cited_on x.0 new s) ss es → (k : ℕ) →
        is_some (look k (x ∷ ss)) ≡ true →
        source_of k (cited_after es (cited_on x.0 new s)).periods ≡ source_of k new.periods
    found es rest k some = elim (cases_eq k x.0) [
      | inl e ↦ rest.others k (look_below k (x.0 + 1) ss (omega arith) from.1)
          ∙ ap (λ d. source_of d (cited_on x.0 new s).periods) e
          ∙ source_here x.0 (source_of x.0 new.periods) s.periods
          ∙ ap (λ d. source_of d new.periods) (sym e)
      | inr apart ↦ rest.periods k (ap is_some (sym (look_there k x ss apart)) ∙ some)
    ]

    elsewhere : (es : List Change) → StartsCited old new (cited_on x.0 new s) ss es → (k : ℕ) →
        look k (x ∷ ss) ≡ None →
        source_of k (cited_after es (cited_on x.0 new s)).periods ≡ source_of k s.periods
    elsewhere es rest k none =
        let apart = parts k x ss none in
        rest.others k apart.1
        ∙ source_apart k x.0 (source_of x.0 new.periods) s.periods apart.0

    by : (b c : Bool) → start_agrees (pair_of old new) (regime_at t x.0) x ≡ c →
        Later old new t (x.0 + 1) ss → StartsCited old new s (x ∷ ss)
        (cond b (cond c [] (Alter x.0 x.1 (source_of x.0 new.periods) ∷ []))
        (added_change (Some new) x) ++ flat_map (target_change (pair_of old new) t) ss)
    by true true agrees next =
        let rest = next s still in
        let one : source_of x.0 old.periods ≡ source_of x.0 new.periods =
        same_is (source_of x.0 old.periods) (source_of x.0 new.periods)
        (and_parts (is_same (regime_at t x.0) x.1) (same_period (pair_of old new) x.0) agrees).1
        in
        record {
          fresh = rest.fresh;
          easters = rest.easters;
          periods = λ k some. elim (cases_eq k x.0) [
            | inl e ↦ rest.others k (look_below k (x.0 + 1) ss (omega arith) from.1)
                ∙ ap (λ d. source_of d s.periods) e ∙ now ∙ one
                ∙ ap (λ d. source_of d new.periods) (sym e)
            | inr apart ↦ rest.periods k (ap is_some (sym (look_there k x ss apart)) ∙ some)
          ];
          others = λ k none. rest.others k (parts k x ss none).1;
        }
    by true false differs next =
        let rest = given next in
        record {
          fresh = (now, rest.fresh);
          easters = rest.easters;
          periods = found (flat_map (target_change (pair_of old new) t) ss) rest;
          others = elsewhere (flat_map (target_change (pair_of old new) t) ss) rest;
        }
    by false c agrees next =
        let rest = given next in
        record {
          fresh = (tt, rest.fresh);
          easters = rest.easters;
          periods = found (flat_map (target_change (pair_of old new) t) ss) rest;
          others = elsewhere (flat_map (target_change (pair_of old new) t) ss) rest;
        }
