-- One territory of the list changed in its place.
use Rattle.std.proofs.Common.{◌≡◌, ℕ, suc, ◌<◌, ◌≤◌, Bool, true, false, cond, not, nat_lt, nat_le}
use Rattle.std.proofs.Common.{◌==◌, if◌then◌else◌, List, [], ◌∷◌, length, map, filter, Option, Some}
use Rattle.std.proofs.Common.{None, option_map, is_some, is_none, refl, sym, ap, ◌∙◌, arith, pos}
use Rattle.std.proofs.lemmas.Bool.{false≢true}
use Rattle.std.proofs.lemmas.Bool.Decides.{nat_tests}
use Rattle.std.proofs.lemmas.Int.{ints}
use Rattle.std.proofs.lemmas.List.{length-map}
use Rattle.std.specs.Str.{bytes_eq}
use Rattle.std.specs.BTreeMap.{insert_entry}
use Rattle.std.specs.Map.{lookup, set_value, remove_entry}
use Rattle.std.specs.declared.cmp.Ordering.TheVariants.{Less, Equal, Greater}
use Rattle.std.specs.Ordering.{match_ordering, nat_cmp}
use Rattle.osn_days.specs.Rules.{Rules}
use Rattle.osn_days.specs.Line.{IsDay, IsYear}
use Rattle.osn_territory.specs.declared.regime.Regime.{Regime}
use Rattle.osn_territory.specs.Territory.{TerritoryModel}
use Rattle.osn_territory.specs.Changes.{with_start, starts_on}
use Rattle.osn_territory.specs.Exceptions.{exception_of}
use Rattle.osn_register.specs.declared.limits.Limits.{Limits}
use Rattle.osn_register.specs.declared.change.TerritoryEdit.{TerritoryEdit}
use Rattle.osn_register.specs.declared.change.TerritoryEdit.TheVariants.{Add, Alter, Drop}
use Rattle.osn_register.specs.declared.change.TerritoryEdit.TheVariants.{AddException}
use Rattle.osn_register.specs.declared.change.TerritoryEdit.TheVariants.{DropException}
use Rattle.osn_register.specs.declared.refusal.Refusal.{Refusal}
use Rattle.osn_register.specs.Code.{is_code}
use Rattle.osn_register.specs.Sources.{SourcesModel, HasSources}
use Rattle.osn_register.specs.Plain.{EntryModel, RegisterModel, entry_of, territory_of}
use Rattle.osn_register.specs.Plain.{code_refusal, is_off_line, is_off_years, refusal_in, inside}
use Rattle.osn_register.specs.Plain.{with_territory, AreDistinct, IsSoundTerritory, AreSound}
use Rattle.osn_register.specs.Plain.{IsWellFormed, is_style_refused, AreStyled, AreListed, AreNamed}
use Rattle.osn_register.specs.Plain.{HaveSources}
use Rattle.osn_register.specs.Refusal.{or_else}
use Rattle.osn_register.specs.InsideChange.{change_refusal, territory_after}
use Rattle.osn_register.proofs.CoverFacts.{covers-with_change, covers-with_altered}
use Rattle.osn_register.proofs.CoverFacts.{covers-without_change}
use Rattle.osn_register.specs.Inside.{entry_in}
use Rattle.osn_register.proofs.EntryFacts.{apart_first}
use Rattle.osn_register.proofs.YearFacts.{ascend_with, ascend_without}

some_is : {X : Type 0} {x y : X} → Some x ≡ Some y → x ≡ y
some_is h = cc

not_none : {X Y : Type 0} {x : X} → Some x ≡ None → Y
not_none h = absurd (false≢true (sym (ap is_some h)))

abbrev entry_with : List ℕ → List ℕ → TerritoryModel → SourcesModel → EntryModel
entry_with code name t s = record { code = code; name = name; territory = t; sources = s }

same_entry : (code name called : List ℕ) (t u : TerritoryModel) (s q : SourcesModel) →
    name ≡ called → t ≡ u → s ≡ q → entry_with code name t s ≡ entry_with code called u q
same_entry code name called t u s q named altered cited =
    ap (λ n. entry_with code n t s) named
    ∙ ap (λ v. entry_with code called v s) altered
    ∙ ap (entry_with code called u) cited

-- the entry that is written under a key, seen as the plain list
module _ {K V : Type 0} (text : K → List ℕ) (name : V → List ℕ) (territory : V → TerritoryModel)
    (sources : V → SourcesModel)
  where
    pub map-set_value : (code : List ℕ) (f : TerritoryModel → TerritoryModel)
        (g : SourcesModel → SourcesModel) (es : List (K × V)) (v w : V) →
        lookup (λ k. bytes_eq code (text k)) es ≡ Some v → name w ≡ name v →
        territory w ≡ f (territory v) → sources w ≡ g (sources v) →
        map (entry_in text name territory sources)
        (set_value (λ k. bytes_eq code (text k)) es w) ≡ with_territory code f g
        (map (entry_in text name territory sources) es)
    map-set_value code f g [] v w found called altered cited = not_none (sym found)
    map-set_value code f g (e ∷ es) v w found called altered cited =
        elim (bytes_eq code (text e.0)) as (λ b. cond b (Some e.1)
        (lookup (λ k. bytes_eq code (text k)) es) ≡ Some v →
        map (entry_in text name territory sources) (cond b ((e.0, w) ∷ es)
        (e ∷ set_value (λ k. bytes_eq code (text k)) es w)) ≡ cond b
        (record (entry_in text name territory sources e)
        { territory = f (territory e.1); sources = g (sources e.1) } ∷ map
        (entry_in text name territory sources) es)
        (entry_in text name territory sources e ∷ with_territory code f g
        (map (entry_in text name territory sources) es))) [
          | true ↦ λ h. ap (λ (l : EntryModel). l ∷ map (entry_in text name territory sources) es)
              (same_entry (text e.0) (name w) (name e.1) (territory w) (f (territory e.1))
              (sources w) (g (sources e.1)) (called ∙ ap name (sym (some_is h)))
              (altered ∙ ap (λ x. f (territory x)) (sym (some_is h)))
              (cited ∙ ap (λ x. g (sources x)) (sym (some_is h))))
          | false ↦ λ h. ap (λ ls. entry_in text name territory sources e ∷ ls)
              (map-set_value code f g es v w h called altered cited)
        ] found

entry_of-with : (code other : List ℕ) (f : TerritoryModel → TerritoryModel)
    (g : SourcesModel → SourcesModel) (ls : List EntryModel) →
    entry_of other ls ≡ None → entry_of other (with_territory code f g ls) ≡ None
entry_of-with code other f g [] none = refl
entry_of-with code other f g (l ∷ ls) none =
    let first = apart_first other l ls none in
    elim (bytes_eq code l.code) as (λ b. entry_of other (cond b
    (record l { territory = f l.territory; sources = g l.sources } ∷ ls)
    (l ∷ with_territory code f g ls)) ≡ None) [
      | true ↦ ap (λ b. cond b (Some (record l {
        territory = f l.territory;
        sources = g l.sources;
      })) (entry_of other ls))
          first.0 ∙ first.1
      | false ↦ ap (λ b. cond b (Some l) (entry_of other (with_territory code f g ls))) first.0 ∙
          entry_of-with code other f g ls first.1
    ]

AreDistinct-with : (code : List ℕ) (f : TerritoryModel → TerritoryModel)
    (g : SourcesModel → SourcesModel) (ls : List EntryModel) →
    AreDistinct ls → AreDistinct (with_territory code f g ls)
AreDistinct-with code f g [] distinct = tt
AreDistinct-with code f g (l ∷ ls) distinct =
    elim (bytes_eq code l.code) as (λ b. AreDistinct (cond b
    (record l { territory = f l.territory; sources = g l.sources } ∷ ls)
    (l ∷ with_territory code f g ls))) [
      | true ↦ distinct
      | false ↦ (
        entry_of-with code l.code f g ls distinct.0,
        AreDistinct-with code f g ls
            distinct.1,
      )
    ]

AreNamed-with : (code : List ℕ) (f : TerritoryModel → TerritoryModel)
    (g : SourcesModel → SourcesModel) (ls : List EntryModel) →
    AreNamed ls → AreNamed (with_territory code f g ls)
AreNamed-with code f g [] named = tt
AreNamed-with code f g (l ∷ ls) named =
    elim (bytes_eq code l.code) as (λ b. AreNamed (cond b
    (record l { territory = f l.territory; sources = g l.sources } ∷ ls)
    (l ∷ with_territory code f g ls))) [
      | true ↦ named
      | false ↦ (named.0, named.1, AreNamed-with code f g ls named.2)
    ]

length-with : (code : List ℕ) (f : TerritoryModel → TerritoryModel)
    (g : SourcesModel → SourcesModel) (ls : List EntryModel) →
    length (with_territory code f g ls) ≡ length ls
length-with code f g [] = refl
length-with code f g (l ∷ ls) =
    elim (bytes_eq code l.code) as (λ b. length (cond b
    (record l { territory = f l.territory; sources = g l.sources } ∷
    ls) (l ∷ with_territory code f g ls)) ≡ suc (length ls)) [
      | true ↦ refl
      | false ↦ ap suc (length-with code f g ls)
    ]

AreSound-with : (p : Rules) (limits : Limits) (code : List ℕ)
    (f : TerritoryModel → TerritoryModel) (g : SourcesModel → SourcesModel)
    (ls : List EntryModel) → AreSound p limits ls →
    ((t : TerritoryModel) → territory_of code ls ≡ Some t → IsSoundTerritory p limits t →
    IsSoundTerritory p limits (f t)) → AreSound p limits (with_territory code f g ls)
AreSound-with p limits code f g [] few still = tt
AreSound-with p limits code f g (l ∷ ls) few still =
    elim (bytes_eq code l.code) as (λ b. ((t : TerritoryModel) →
    option_map (λ (k : EntryModel). k.territory) (cond b (Some l) (entry_of code ls)) ≡ Some t →
    IsSoundTerritory p limits t → IsSoundTerritory p limits (f t)) →
    AreSound p limits (cond b (record l { territory = f l.territory; sources = g l.sources } ∷ ls)
    (l ∷ with_territory code f g ls))) [
      | true ↦ λ here. (here l.territory refl few.0, few.1)
      | false ↦ λ later. (few.0, AreSound-with p limits code f g ls few.1 later)
    ] still

HaveSources-with : (code : List ℕ) (f : TerritoryModel → TerritoryModel)
    (g : SourcesModel → SourcesModel) (ls : List EntryModel) → HaveSources ls →
    ((s : SourcesModel) → HasSources s → HasSources (g s)) →
    HaveSources (with_territory code f g ls)
HaveSources-with code f g [] given still = tt
HaveSources-with code f g (l ∷ ls) given still =
    elim (bytes_eq code l.code) as (λ b. HaveSources (cond b
    (record l { territory = f l.territory; sources = g l.sources } ∷ ls)
    (l ∷ with_territory code f g ls))) [
      | true ↦ (still l.sources given.0, given.1)
      | false ↦ (given.0, HaveSources-with code f g ls given.1 still)
    ]

-- a register stays well formed if one of its territories is changed within the limit
pub IsWellFormed-with : (p : Rules) (r : RegisterModel) (code : List ℕ)
    (f : TerritoryModel → TerritoryModel) (g : SourcesModel → SourcesModel) → IsWellFormed p r →
    ((t : TerritoryModel) → territory_of code r.territories ≡ Some t → IsSoundTerritory p r.limits t
    → IsSoundTerritory p r.limits (f t)) → ((s : SourcesModel) → HasSources s → HasSources (g s)) →
    IsWellFormed p (record r { territories = with_territory code f g r.territories })
IsWellFormed-with p r code f g w still given = record {
  distinct = AreDistinct-with code f g r.territories w.distinct;
  named = AreNamed-with code f g r.territories w.named;
  within = omega (arith, length-with code f g r.territories, w.within);
  territories = AreSound-with p r.limits code f g r.territories w.territories still;
  sources = HaveSources-with code f g r.territories w.sources given;
}

-- what is lawful in a territory of a known code
pub lawful_in : (territories : List EntryModel) (code : List ℕ)
    (refused : TerritoryModel → Option Refusal)
    → refusal_in territories code refused ≡ None → (t : TerritoryModel) →
    territory_of code territories ≡ Some t → refused t ≡ None
lawful_in territories code refused h t known =
    by (code_refusal territories code) (territory_of code territories) h known
  where
    by : (o : Option Refusal) (u : Option TerritoryModel) → or_else o (inside refused u) ≡ None →
        u ≡ Some t → refused t ≡ None
    by (Some f) u h known = not_none h
    by None u h known = rw known at h

-- a known code has a territory
pub no_territory : (territories : List EntryModel) (code : List ℕ)
    (refused : TerritoryModel → Option Refusal) → refusal_in territories code refused ≡ None →
    territory_of code territories ≡ None → ⊥
no_territory territories code refused h none =
    by (not (is_code code)) (entry_of code territories) h none
  where
    by : (b : Bool) (o : Option EntryModel) → or_else (if b then Some Refusal.BadCode else
        (if is_none o then Some Refusal.UnknownLand else None))
        (inside refused (option_map (λ l. l.territory) o)) ≡ None →
        option_map (λ (l : EntryModel). l.territory) o ≡ None → ⊥
    by true o h none = not_none h
    by false None h none = not_none h
    by false (Some l) h none = not_none none

-- if tests in order give no refusal, the first has not applied, nor the rest
first_passed : (a : Bool) (f : Refusal) (rest : Option Refusal) →
    (if a then Some f else rest) ≡ None → (a ≡ false) × (rest ≡ None)
first_passed true f rest none = not_none none
first_passed false f rest none = (refl, none)

in_line : (p : Rules) (d : ℕ) → is_off_line p (pos d) ≡ false → (1 ≤ d) × (d ≤ p.high)
in_line p d h = (grind (arith, ints, nat_tests), grind (arith, ints, nat_tests))

not_first : (d : ℕ) → (d == 1) ≡ false → 1 ≤ d → 1 < d
not_first d h low = grind (arith, nat_tests)

not_lt : (m n : ℕ) → nat_lt m n ≡ false → n ≤ m
not_lt m n h = grind (arith, nat_tests)

not_le : (m n : ℕ) → nat_le m n ≡ false → n < m
not_le m n h = grind (arith, nat_tests)

length-with_start : (d : ℕ) (r : Regime) (starts : List (ℕ × Regime)) →
    length (with_start d r starts) ≡ suc (length starts)
length-with_start d r [] = refl
length-with_start d r (s ∷ rest) =
    elim (nat_lt d s.0) as (λ b. length (cond b ((d, r) ∷ s ∷ rest) (s ∷ with_start d r rest)) ≡ suc
    (suc (length rest))) [
      | true ↦ refl
      | false ↦ ap suc (length-with_start d r rest)
    ]

length-filter : {X : Type 0} (p : X → Bool) (xs : List X) → length (filter p xs) ≤ length xs
length-filter p [] = omega arith
length-filter p (x ∷ xs) =
    elim (p x) as (λ b. length (cond b (x ∷ filter p xs) (filter p xs)) ≤ suc (length xs)) [
      | true ↦ omega (arith, length-filter p xs)
      | false ↦ omega (arith, length-filter p xs)
    ]

length-insert_entry : (es : List (ℕ × ℕ)) (y d : ℕ) → length (insert_entry nat_cmp es y d) ≤ suc
    (length es)
length-insert_entry [] y d = omega arith
length-insert_entry (e ∷ es) y d =
    elim (nat_cmp y e.0) as (λ o. length (match_ordering o ((y, d) ∷ e ∷ es) ((e.0, d) ∷ es)
    (e ∷ insert_entry nat_cmp es y d)) ≤ suc (suc (length es))) [
      | Less ↦ omega arith
      | Equal ↦ omega arith
      | Greater ↦ omega (arith, length-insert_entry es y d)
    ]

length-remove_entry : (test : ℕ → Bool) (es : List (ℕ × ℕ)) →
    length (remove_entry test es) ≤ length es
length-remove_entry test [] = omega arith
length-remove_entry test (e ∷ es) =
    elim (test e.0) as (λ b. length (cond b es (e ∷ remove_entry test es)) ≤ suc (length es)) [
      | true ↦ omega arith
      | false ↦ omega (arith, length-remove_entry test es)
    ]

in_years : (p : Rules) (y : ℕ) → is_off_years p (pos y) ≡ false → (1 ≤ y) × (y ≤ p.last_year)
in_years p y h = (grind (arith, ints, nat_tests), grind (arith, ints, nat_tests))

styled_with : (p : Rules) (d : ℕ) (r : Regime) (ss : List (ℕ × Regime)) →
    is_style_refused p r ≡ false → AreStyled p ss → AreStyled p (with_start d r ss)
styled_with p d r [] style styled = (style, tt)
styled_with p d r (s ∷ ss) style styled =
    elim (nat_lt d s.0) as (λ b. AreStyled p (cond b ((d, r) ∷ s ∷ ss) (s ∷ with_start d r ss))) [
      | true ↦ (style, styled)
      | false ↦ (styled.0, styled_with p d r ss style styled.1)
    ]

styled_altered : (p : Rules) (d : ℕ) (r : Regime) (ss : List (ℕ × Regime)) →
    is_style_refused p r ≡ false → AreStyled p ss →
    AreStyled p (map (λ s. if s.0 == d then (d, r) else s) ss)
styled_altered p d r [] style styled = tt
styled_altered p d r (s ∷ ss) style styled = (
  by (s.0 == d),
  styled_altered p d r ss style styled.1,
)
  where
    by : (b : Bool) →
        is_style_refused p (cond {A = ℕ × Regime} b (d, r) s).1 ≡ false
    by true = style
    by false = styled.0

styled_without : (p : Rules) (test : ℕ × Regime → Bool) (ss : List (ℕ × Regime)) →
    AreStyled p ss → AreStyled p (filter test ss)
styled_without p test [] styled = tt
styled_without p test (s ∷ ss) styled =
    elim (test s) as (λ b. AreStyled p (cond b (s ∷ filter test ss) (filter test ss))) [
      | true ↦ (styled.0, styled_without p test ss styled.1)
      | false ↦ styled_without p test ss styled.1
    ]

listed_with : (p : Rules) (y d : ℕ) (es : List (ℕ × ℕ)) → IsYear p y → IsDay p d →
    AreListed p es → AreListed p (insert_entry nat_cmp es y d)
listed_with p y d [] year day listed = (year, day, tt)
listed_with p y d (e ∷ es) year day listed =
    elim (nat_cmp y e.0) as (λ o. AreListed p (match_ordering o ((y, d) ∷ e ∷ es) ((e.0, d) ∷ es)
    (e ∷ insert_entry nat_cmp es y d))) [
      | Less ↦ (year, day, listed)
      | Equal ↦ (listed.0, day, listed.2)
      | Greater ↦ (listed.0, listed.1, listed_with p y d es year day listed.2)
    ]

listed_without : (p : Rules) (test : ℕ → Bool) (es : List (ℕ × ℕ)) → AreListed p es →
    AreListed p (remove_entry test es)
listed_without p test [] listed = tt
listed_without p test (e ∷ es) listed =
    elim (test e.0) as (λ b. AreListed p (cond b es (e ∷ remove_entry test es))) [
      | true ↦ listed.2
      | false ↦ (listed.0, listed.1, listed_without p test es listed.2)
    ]

-- a lawful change leaves the territory sound
pub still_sound : (p : Rules) (limits : Limits) (change : TerritoryEdit) (t : TerritoryModel) →
    change_refusal p limits change t ≡ None → IsSoundTerritory p limits t →
    IsSoundTerritory p limits (territory_after change t)
still_sound p limits (Add d regime) t lawful sound =
    let line = first_passed (is_off_line p (pos d)) Refusal.DayOffLine _ lawful in
    let later = first_passed (d == 1) Refusal.OpeningPeriod _ line.1 in
    let free = first_passed (starts_on t d) Refusal.ChangeExists _ later.1 in
    let style = first_passed (is_style_refused p regime) Refusal.StyleNeedsJulian _ free.1 in
    let room = first_passed (nat_lt limits.changes (length t.starts)) Refusal.TooManyChanges None
    style.1 in
    let within = in_line p d line.0 in
    let at_most : length t.starts ≤ limits.changes = not_lt limits.changes (length t.starts) room.0
    in
    record {
      changes = omega (arith, length-with_start d regime t.starts);
      exceptions = sound.exceptions;
      periods = covers-with_change p t d regime sound.periods (not_first d later.0 within.0)
          within.1 free.0;
      years = sound.years;
      styles = styled_with p d regime t.starts style.0 sound.styles;
      listed = sound.listed;
    }
still_sound p limits (Alter d regime) t lawful sound =
    let line = first_passed (is_off_line p (pos d)) Refusal.DayOffLine _ lawful in
    let there = first_passed (not (starts_on t d)) Refusal.NoSuchChange _ line.1 in
    let style = first_passed (is_style_refused p regime) Refusal.StyleNeedsJulian None there.1 in
    record {
      changes = omega (
        arith,
        sound.changes,
        length-map t.starts
            (λ s. if s.0 == d then (d, regime) else s),
      );
      exceptions = sound.exceptions;
      periods = covers-with_altered p t d regime sound.periods;
      years = sound.years;
      styles = styled_altered p d regime t.starts style.0 sound.styles;
      listed = sound.listed;
    }
still_sound p limits (Drop d) t lawful sound =
    let line = first_passed (is_off_line p (pos d)) Refusal.DayOffLine _ lawful in
    let later = first_passed (d == 1) Refusal.OpeningPeriod _ line.1 in
    let within = in_line p d line.0 in
    record {
      changes = omega (arith, sound.changes, length-filter (λ s. not (s.0 == d)) t.starts);
      exceptions = sound.exceptions;
      periods = covers-without_change p t d sound.periods (not_first d later.0 within.0);
      years = sound.years;
      styles = styled_without p (λ s. not (s.0 == d)) t.starts sound.styles;
      listed = sound.listed;
    }
still_sound p limits (AddException y d) t lawful sound =
    let line = first_passed (is_off_line p (pos d)) Refusal.DayOffLine _ lawful in
    let range = first_passed (is_off_years p (pos y)) Refusal.YearOffRange _ line.1 in
    let free = first_passed (is_some (exception_of t y)) Refusal.ExceptionExists _ range.1 in
    let room = first_passed (nat_le limits.exceptions (length t.exceptions))
    Refusal.TooManyExceptions None free.1 in
    let below : length t.exceptions < limits.exceptions = not_le limits.exceptions
    (length t.exceptions) room.0 in
    record {
      changes = sound.changes;
      exceptions = omega (arith, below, length-insert_entry t.exceptions y d);
      periods = sound.periods;
      years = ascend_with t y d sound.years;
      styles = sound.styles;
      listed = listed_with p y d t.exceptions (in_years p y range.0) (in_line p d line.0)
          sound.listed;
    }
still_sound p limits (DropException y) t lawful sound =
    let fewer : length (territory_after (DropException y) t).exceptions ≤ length t.exceptions =
    length-remove_entry (λ other. y == other) t.exceptions in
    record {
      changes = sound.changes;
      exceptions = omega (arith, sound.exceptions, fewer);
      periods = sound.periods;
      years = ascend_without t y sound.years;
      styles = sound.styles;
      listed = listed_without p (λ other. y == other) t.exceptions sound.listed;
    }

pub with_same : (code : List ℕ) (ls : List EntryModel) → with_territory code (λ t. t)
    (λ s. s) ls ≡ ls
with_same code [] = refl
with_same code (l ∷ ls) =
    elim (bytes_eq code l.code) as (λ b. cond b (l ∷ ls) (l ∷ with_territory code (λ t. t)
    (λ s. s) ls) ≡ l ∷
    ls) [
      | true ↦ refl
      | false ↦ ap (λ ks. l ∷ ks) (with_same code ls)
    ]

-- the register once a territory was written under its key
pub register-with : {K V : Type 0} (text : K → List ℕ) (name : V → List ℕ)
    (territory : V → TerritoryModel) (sources : V → SourcesModel) (limits : Limits)
    (es new : List (K × V)) (now : RegisterModel) (code : List ℕ)
    (f : TerritoryModel → TerritoryModel) (g : SourcesModel → SourcesModel) (v w : V) →
    record { limits = limits; territories = map (entry_in text name territory sources) es } ≡ now →
    new ≡ set_value (λ k. bytes_eq code (text k)) es w →
    lookup (λ k. bytes_eq code (text k)) es ≡ Some v → name w ≡ name v →
    territory w ≡ f (territory v) → sources w ≡ g (sources v) → record {
      limits = limits;
      territories = map (entry_in text name territory sources) new;
    } ≡ record now { territories = with_territory code f g now.territories }
register-with text name territory sources limits es new now code f g v w is written found called
    altered cited =
    ap (λ (ls : List EntryModel). let r : RegisterModel =
    record { limits = limits; territories = ls } in r)
    (ap (map (entry_in text name territory sources)) written
    ∙ map-set_value text name territory sources code f g es v w found called altered cited)
    ∙ ap (λ (r : RegisterModel). record r { territories = with_territory code f g r.territories })
    is
