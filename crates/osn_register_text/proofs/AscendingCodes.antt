-- The territories of registers ascend, so that edits reach the target ones.
use Rattle.std.proofs.Common.{◌≡◌, ℕ, ◌+◌, ◌≤◌, ◌==◌, Bool, true, false, cond, List, [], ◌∷◌}
use Rattle.std.proofs.Common.{Option}
use Rattle.std.proofs.Common.{Some, None, option_map, is_some, refl, sym, ap, subst, ◌∙◌, arith}
use Rattle.std.proofs.lemmas.Bool.{not-false}
use Rattle.std.proofs.lemmas.Slice.Eq.{bytes_eq-Decides}
use Rattle.std.specs.List.{list_any}
use Rattle.std.specs.Str.{bytes_eq}
use Rattle.osn_days.specs.Rules.{Rules}
use Rattle.osn_territory.specs.declared.regime.Regime.{Regime}
use Rattle.osn_territory.specs.Territory.{TerritoryModel, Covers, last_before, periods_from}
use Rattle.osn_territory.specs.Changes.{starts_on}
use Rattle.osn_territory.specs.Exceptions.{exception_of}
use Rattle.osn_register.specs.SameEntry.{IsSameEntry, AreSameEntry}
use Rattle.osn_register.specs.declared.limits.Limits.{Limits}
use Rattle.osn_register.specs.Plain.{EntryModel, entry_of, IsSoundTerritory, AreSound, AreNamed}
use Rattle.osn_register.proofs.YearFacts.{AscendFrom, ascend_from}
use Rattle.osn_register_text.specs.Fault.{has_other_name, first_renamed}
use Rattle.osn_register_text.specs.NeededEdits.{name_in}
use Rattle.osn_register_text.specs.Differences.{opening}
use Rattle.osn_register_text.proofs.Rows.{IsFrom, weaken, ext, not_none, some_is}
use Rattle.osn_register_text.proofs.TerritoryDifferences.{Ascends}
use Rattle.osn_register_text.proofs.Valid.{AreDays, Allowed}
use Rattle.osn_register_text.proofs.TargetTerritories.{Opens, IsTargetEntry, Fits, AreFit}

covers_from : (high first : ℕ) (ss : List (ℕ × Regime)) → Covers first high (periods_from high ss) →
    IsFrom first ss
covers_from high first [] covers = tt
covers_from high first (s ∷ rest) covers = (
  omega (arith, covers.0),
  weaken (s.0 + 1) (last_before high rest + 1) rest (omega (arith, covers.1))
      (covers_from high (last_before high rest + 1) rest covers.2),
)

opens_of : (high : ℕ) (ss : List (ℕ × Regime)) → 1 ≤ high → Covers 1 high (periods_from high ss) →
    (rest : List (ℕ × Regime)) × (ss ≡ (1, opening ss) ∷ rest) × IsFrom 2 rest
opens_of high [] low covers = absurd (omega (arith, low, covers))
opens_of high (s ∷ rest) low covers = (
  rest,
  ap (λ (d : ℕ). let p : ℕ × Regime = (d, s.1) in p ∷ rest) covers.0,
  weaken 2 (last_before high rest + 1) rest (omega (arith, covers.0, covers.1))
      (covers_from high (last_before high rest + 1) rest covers.2),
)

opens : (p : Rules) (limits : Limits) (t : TerritoryModel) → 1 ≤ p.high →
    IsSoundTerritory p limits t → Opens t
opens p limits t low sound =
    let found = opens_of p.high t.starts low sound.periods in
    record { rest = found.0; is = found.1; from = found.2 }

covers_end : (high first : ℕ) (ss : List (ℕ × Regime)) → Covers first high (periods_from high ss) →
    first ≤ high + 1
covers_end high first [] covers = omega (arith, covers)
covers_end high first (s ∷ rest) covers = omega (
  arith,
  covers.0,
  covers.1,
  covers_end high (last_before high rest + 1) rest covers.2,
)

covers_days : (p : Rules) (first : ℕ) (ss : List (ℕ × Regime)) → 1 ≤ first →
    Covers first p.high (periods_from p.high ss) → AreDays p ss
covers_days p first [] low covers = tt
covers_days p first (s ∷ rest) low covers = (
  (
    omega (arith, low, covers.0),
    omega (arith, covers.1, covers_end p.high (last_before p.high rest + 1) rest covers.2),
  ),
  covers_days p (last_before p.high rest + 1) rest (omega arith) covers.2,
)

allowed : (p : Rules) (limits : Limits) (t : TerritoryModel) → 1 ≤ p.high →
    IsSoundTerritory p limits t → Allowed p t
allowed p limits t low sound = record {
  opening = ap (list_any (λ (s : ℕ × Regime). s.0 == 1)) (opens p limits t low sound).is;
  days = covers_days p 1 t.starts (omega arith) sound.periods;
  styles = sound.styles;
  listed = sound.listed;
}

year_from : (n : ℕ) (es : List (ℕ × ℕ)) → AscendFrom n es → IsFrom n es
year_from n [] from = tt
year_from n (e ∷ es) from = (from.0, year_from (e.0 + 1) es from.1)

ascends : (p : Rules) (limits : Limits) (t : TerritoryModel) → IsSoundTerritory p limits t →
    Ascends t
ascends p limits t sound = record {
  starts = weaken 0 1 t.starts (omega arith) (covers_from p.high 1 t.starts sound.periods);
  years = year_from 0 t.exceptions (ascend_from t sound.years);
}

sound_found : (p : Rules) (limits : Limits) (ls : List EntryModel) (code : List ℕ)
    (l : EntryModel) → AreSound p limits ls → entry_of code ls ≡ Some l →
    IsSoundTerritory p limits l.territory
sound_found p limits [] code l sound found = not_none (sym found)
sound_found p limits (k ∷ ls) code l sound found =
    by (bytes_eq code k.code) found (sound_found p limits ls code l sound.1)
  where
    by : (b : Bool) → cond b (Some k) (entry_of code ls) ≡ Some l →
        (entry_of code ls ≡ Some l → IsSoundTerritory p limits l.territory) →
        IsSoundTerritory p limits l.territory
    by true found later =
        subst (λ (m : EntryModel). IsSoundTerritory p limits m.territory) (some_is found) sound.0
    by false found later = later found

fits : (p : Rules) (limits : Limits) (territories : List EntryModel) (l : EntryModel)
    (o : Option EntryModel) → AreSound p limits territories → entry_of l.code territories ≡ o →
    1 ≤ p.high → has_other_name l.name (option_map (λ (k : EntryModel). k.name) o) ≡ false →
    Fits p l o
fits p limits territories l None sound known low named = tt
fits p limits territories l (Some s) sound known low named =
    let current = sound_found p limits territories l.code s sound known in (
      (bytes_eq-Decides s.name l.name).0 (not-false (bytes_eq s.name l.name) named),
      ascends p limits s.territory current,
      allowed p limits s.territory low current,
    )

pub are_fit : (p : Rules) (room limits : Limits) (target territories : List EntryModel) → 1 ≤ p.high
    → AreNamed target → AreSound p room target → AreSound p limits territories →
    first_renamed target territories ≡ None → AreFit p territories target
are_fit p room limits [] territories low named sound current none = tt
are_fit p room limits (l ∷ target) territories low named sound current none =
    by (has_other_name l.name (name_in territories l.code)) refl none
    (are_fit p room limits target territories low named.2 sound.1 current)
  where
    by : (b : Bool) → has_other_name l.name (name_in territories l.code) ≡ b →
        cond b (Some l) (first_renamed target territories) ≡ None →
        (first_renamed target territories ≡ None → AreFit p territories target) →
        AreFit p territories (l ∷ target)
    by true e none later = not_none none
    by false e none later = (
      record {
        up = ascends p room l.territory sound.0;
        opens = opens p room l.territory low sound.0;
        code = named.0;
        name = named.1;
        allowed = allowed p room l.territory low sound.0;
        current = fits p limits territories l (entry_of l.code territories) current refl low e;
      },
      later none,
    )

-- what is present as in the target says the same as the target territory
pub target_entry_same : (p : Rules) (room limits : Limits) (target ls : List EntryModel)
    (code : List ℕ)
    (l : EntryModel) → AreSound p room target → AreSound p limits ls → entry_of code target ≡ Some l
    → IsTargetEntry l (entry_of code ls) → AreSameEntry (entry_of code ls) (Some l)
target_entry_same p room limits target ls code l sound other found target_entry =
    let up = ascends p room l.territory (sound_found p room target code l sound found) in
    let from = ascends p limits target_entry.entry.territory
    (sound_found p limits ls code target_entry.entry other target_entry.is) in
    let starts : target_entry.entry.territory.starts ≡ l.territory.starts =
    ext 0 target_entry.entry.territory.starts l.territory.starts from.starts up.starts
    target_entry.starts in
    let years : target_entry.entry.territory.exceptions ≡ l.territory.exceptions =
    ext 0 target_entry.entry.territory.exceptions l.territory.exceptions from.years up.years
    target_entry.years in
    let same : target_entry.entry.territory ≡ l.territory =
    ap (λ (ss : List (ℕ × Regime)). let t : TerritoryModel = record
    { starts = ss; exceptions = target_entry.entry.territory.exceptions } in t) starts
    ∙ ap (λ (ys : List (ℕ × ℕ)). let t : TerritoryModel = record
    { starts = l.territory.starts; exceptions = ys } in t) years in
    let one : IsSameEntry target_entry.entry l = record {
      name = target_entry.name;
      territory = same;
      periods = λ day on. target_entry.periods day
          (sym (ap (λ (t : TerritoryModel). starts_on t day) same) ∙ on);
      easters = λ year some. target_entry.easters year
          (sym (ap (λ (t : TerritoryModel). is_some (exception_of t year)) same) ∙ some);
    } in
    subst (λ (o : Option EntryModel). AreSameEntry o (Some l)) (sym target_entry.is) one
