-- The edits of lawful territories make exactly these territories.
use Rattle.std.proofs.Common.{◌≡◌, ℕ, suc, ◌+◌, ◌-◌, ◌<◌, ◌≤◌, true, false, nat_le, List, [], ◌∷◌}
use Rattle.std.proofs.Common.{◌++◌, length, Some, None, Ok, refl, sym, ap, ◌∙◌, Option, map, arith}
use Rattle.std.proofs.Common.{append_assoc, append-nil, length-append, subst}
use Rattle.std.proofs.lemmas.Bool.Decides.{nat_tests}
use Rattle.osn_days.specs.Rules.{newest_rules}
use Rattle.osn_territory.specs.declared.period.Period.{Period}
use Rattle.osn_territory.specs.declared.regime.Regime.{Regime}
use Rattle.osn_territory.specs.Territory.{of_one_regime, Covers, periods_from, periods_of}
use Rattle.osn_territory.proofs.CoverFacts.{no_more_than_days}
use Rattle.osn_register.specs.declared.edit.Edit.TheVariants.{AddLand}
use Rattle.osn_register.specs.declared.limits.Limits.{Limits}
use Rattle.osn_register.specs.Answer.{period_source}
use Rattle.osn_register.specs.Plain.{EntryModel, entry_of, refusal, AreDistinct, is_style_refused}
use Rattle.osn_register.specs.Plain.{AreStyled}
use Rattle.osn_register.specs.Code.{is_code, is_name}
use Rattle.osn_register.specs.Sources.{SourcesModel, opening_sources}
use Rattle.osn_register.proofs.EntryFacts.{AreDistinct-within}
use Rattle.osn_register.proofs.YearFacts.{ascend_from}
use Rattle.osn_register_text.specs.declared.key.Part.TheVariants as parts
use Rattle.osn_register_text.specs.TerritoryText.{Placed}
use Rattle.osn_register_text.specs.Text.{territories_after_all}
use Rattle.osn_register_text.proofs.MadeSources.{all_cited, remade}
use Rattle.osn_register_text.proofs.SortedTerritories.{IsReadable, AreReadable}
use Rattle.osn_register_text.proofs.ReadTables.{change_edits, easter_edits, entry_edits, Ascend}
use Rattle.osn_register_text.proofs.EditParts.{last, one, changes, easters, starts_of, with_starts}

-- ---- a territory

territory_free : (limits : Limits) (done : List EntryModel) (code name : List ℕ) (r : Regime)
    (source : Option (List ℕ)) → is_code code ≡ true → is_name name ≡ true
    → entry_of code done ≡ None → is_style_refused newest_rules r ≡ false
    → length done < limits.lands
    → refusal newest_rules limits done (AddLand code name r source) ≡ None
territory_free limits done code name r source is named none style room =
    let count : nat_le limits.lands (length done) ≡ false = grind (arith, nat_tests) in
    rw (is, named, none, style, count)

-- periods that cover the line from a day on begin there, and ascend
abbrev pub Begins : ℕ → List Period → Type 0
Begins first [] = ⊥
Begins first (p ∷ ps) = (p.first ≡ first) × Ascend p.first ps

begins : (high first : ℕ) (ss : List (ℕ × Regime)) → high ≡ newest_rules.high → 1 ≤ first
    → first ≤ high
    → Covers first high (periods_from high ss) → Begins first (periods_from high ss)
begins high first [] is low within covers = absurd (omega (arith, covers))
begins high first (s ∷ []) is low within covers = (covers.0, tt)
begins high first (s ∷ next ∷ rest) is low within covers =
    let more = no_more_than_days (periods_from high (next ∷ rest)) (next.0 - 1 + 1) high covers.2 in
    let at : next.0 - 1 + 1 ≡ next.0 = omega (arith, covers.0, covers.1) in
    let others = begins high next.0 (next ∷ rest) is (omega (arith, at)) (omega (arith, more, at))
    (rw at at covers.2) in (
      covers.0,
      (
        omega (arith, covers.0, covers.1, at),
        (
          omega (arith, at),
          omega (arith, more, at, is),
        ),
        others.1,
      ),
    )

-- the starts of the periods from some starts on are these
starts_of-periods : (high : ℕ) (ss : List (ℕ × Regime)) → starts_of (periods_from high ss) ≡ ss
starts_of-periods high [] = refl
starts_of-periods high (s ∷ ss) = ap (λ rest. (s.0, s.1) ∷ rest) (starts_of-periods high ss)

length-starts_of : (ps : List Period) → length (starts_of ps) ≡ length ps
length-starts_of [] = refl
length-starts_of (p ∷ ps) = ap suc (length-starts_of ps)

-- the edits of a territory make it
territory_made : (limits : Limits) (done : List EntryModel) (l : EntryModel) (p : Period)
    (ps : List Period)
    (es : List Placed) → IsReadable limits l → entry_of l.code done ≡ None
    → length done < limits.lands
    → p.first ≡ 1 → Ascend p.first ps → starts_of (p ∷ ps) ≡ l.territory.starts
    → territories_after_all limits done
    (entry_edits l.code l.name l.territory (Some l.sources) p ps ++ es)
    ≡ territories_after_all limits (done ++ remade l ∷ []) es
territory_made limits done l p ps es can none room first ascend starts =
    let t = l.territory in
    let cited = Some l.sources in
    let lawful : AreStyled newest_rules (starts_of (p ∷ ps)) =
    subst (AreStyled newest_rules) (sym starts) can.sound.styles in
    let count : length (starts_of (p ∷ ps)) ≤ limits.changes + 1 =
    omega (arith, ap length starts, can.sound.changes) in
    let size = length-starts_of ps in
    let begun = of_one_regime p.regime in
    let source = period_source cited p.first in
    let given = opening_sources (period_source cited 1) in
    let begin : Placed = (parts.Territory, AddLand l.code l.name p.regime source) in
    let changed = change_edits l.code 1 cited ps in
    let listed = easter_edits l.code 1 cited t.exceptions in
    let starts_cited : List (ℕ × Regime) → SourcesModel =
    λ ss. record { periods = all_cited (period_source cited) ss []; easters = [] } in
    let one_start : (1, p.regime) ∷ starts_of ps
    ≡ t.starts = ap (λ d. (d, p.regime) ∷ starts_of ps) (sym first) ∙ starts in
    one limits done begin ((changed ++ listed) ++ es)
    (territory_free limits done l.code l.name p.regime source can.code can.name none lawful.0 room)
    ∙ ap (λ d. territories_after_all limits
    (last done l.code l.name begun (opening_sources (period_source cited d)))
    ((changed ++ listed) ++ es)) first
    ∙ ap (territories_after_all limits (last done l.code l.name begun given))
    (append_assoc changed listed es)
    ∙ changes limits done l.code l.name can.code none begun given cited 1 1 ps (listed ++ es)
    (omega arith) (omega arith, tt) (rw first at ascend) lawful.1 (omega (arith, count, size))
    ∙ ap (λ ss. territories_after_all limits (last done l.code l.name (with_starts begun ss)
    (starts_cited ss)) (listed ++ es)) one_start
    ∙ easters limits done l.code l.name can.code none
    (with_starts begun t.starts) (starts_cited t.starts) cited 0 1 t.exceptions es tt
    (ascend_from t can.sound.years) can.sound.listed (omega (arith, can.sound.exceptions))

-- ---- all territories

-- the edits of some territories
abbrev pub edits_by : EntryModel → List Period → List Placed
edits_by l [] = []
edits_by l (p ∷ ps) = entry_edits l.code l.name l.territory (Some l.sources) p ps

abbrev pub edits_of : EntryModel → List Placed
edits_of l = edits_by l (periods_of newest_rules l.territory)

abbrev pub all_edits : List EntryModel → List Placed
all_edits [] = []
all_edits (l ∷ ls) = edits_of l ++ all_edits ls

-- what is known of the periods of a readable territory
pub period_facts : (limits : Limits) (l : EntryModel) → IsReadable limits l
    → Begins 1 (periods_of newest_rules l.territory)
period_facts limits l can =
    begins newest_rules.high 1 l.territory.starts refl (omega arith) (omega arith) can.sound.periods

made_by : (limits : Limits) (done : List EntryModel) (l : EntryModel) (ps : List Period)
    (es : List Placed)
    → IsReadable limits l → entry_of l.code done ≡ None → length done < limits.lands → Begins 1 ps
    → starts_of ps ≡ l.territory.starts
    → territories_after_all limits done (edits_by l ps ++ es)
    ≡ territories_after_all limits (done ++ remade l ∷ []) es
made_by limits done l [] es can none room begun starts = absurd begun
made_by limits done l (p ∷ ps) es can none room begun starts =
    territory_made limits done l p ps es can none room begun.0 begun.1 starts

-- the edits of territories make them, after others
pub all_made : (limits : Limits) (done ls : List EntryModel) → AreReadable limits ls
    → AreDistinct (done ++ map remade ls) → length (done ++ map remade ls) ≤ limits.lands
    → territories_after_all limits done (all_edits ls) ≡ Ok (done ++ map remade ls)
all_made limits done [] can distinct room = ap Ok (sym (append-nil done))
all_made limits done (l ∷ ls) can distinct room =
    let after = map remade ls in
    let moved = append_assoc done (remade l ∷ []) after in
    let size = length-append done (remade l ∷ after) in
    made_by limits done l (periods_of newest_rules l.territory) (all_edits ls) can.0
    (AreDistinct-within done (remade l) after distinct) (omega (arith, size, room))
    (period_facts limits l can.0)
    (starts_of-periods newest_rules.high l.territory.starts)
    ∙ all_made limits (done ++ remade l ∷ []) ls can.1 (rw moved distinct) (rw moved room)
    ∙ ap Ok moved
