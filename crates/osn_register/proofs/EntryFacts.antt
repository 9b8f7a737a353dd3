-- The territories that a register keeps by their codes, seen as the plain list.
use Rattle.std.proofs.Common.{◌≡◌, ℕ, ◌<◌, ◌≤◌, Bool, true, false, cond, List, [], ◌∷◌, ◌++◌}
use Rattle.std.proofs.Common.{length, map, Option, Some, None, option_map, is_some, Ok, Err, refl}
use Rattle.std.proofs.Common.{sym, ap}
use Rattle.std.proofs.Common.{subst, ◌∙◌, arith, length-append, append_assoc, append-nil}
use Rattle.std.proofs.lemmas.Bool.{false≢true}
use Rattle.std.proofs.lemmas.Slice.Eq.{bytes_eq-Decides}
use Rattle.std.specs.Str.{bytes_eq}
use Rattle.std.specs.declared.result.Result.{Result}
use Rattle.std.specs.Map.{lookup}
use Rattle.std.specs.Result.{OnErr}
use Rattle.osn_days.specs.Rules.{Rules}
use Rattle.osn_territory.specs.Territory.{TerritoryModel}
use Rattle.osn_register.specs.declared.limits.Limits.{Limits}
use Rattle.osn_register.specs.Sources.{SourcesModel, HasSources}
use Rattle.osn_register.specs.Plain.{EntryModel, RegisterModel, entry_of, territory_of, sources_of}
use Rattle.osn_register.specs.Plain.{AreDistinct, HaveSources}
use Rattle.osn_register.specs.Plain.{IsSoundTerritory, AreSound, AreNamed, IsWellFormed}
use Rattle.osn_register.specs.Code.{is_code, is_name}
use Rattle.osn_register.specs.Inside.{entry_in}

module _ {K V : Type 0} (text : K → List ℕ) (name : V → List ℕ) (territory : V → TerritoryModel)
    (sources : V → SourcesModel)
  where
    pub entry_of-map : (code : List ℕ) (es : List (K × V)) →
        is_some (entry_of code (map (entry_in text name territory sources) es)) ≡ is_some
        (lookup (λ k. bytes_eq code (text k)) es)
    entry_of-map code [] = refl
    entry_of-map code (e ∷ es) =
        elim (bytes_eq code (text e.0)) as (λ b. is_some (cond b
        (Some (entry_in text name territory sources e)) (entry_of code
        (map (entry_in text name territory sources) es))) ≡ is_some
        (cond b (Some e.1) (lookup (λ k. bytes_eq code (text k)) es))) [
          | true ↦ refl
          | false ↦ entry_of-map code es
        ]

    pub territory_of-map : (code : List ℕ) (es : List (K × V)) →
        territory_of code (map (entry_in text name territory sources) es) ≡ option_map territory
        (lookup (λ k. bytes_eq code (text k)) es)
    territory_of-map code [] = refl
    territory_of-map code (e ∷ es) =
        elim (bytes_eq code (text e.0)) as (λ b. option_map (λ (l : EntryModel). l.territory)
        (cond b (Some (entry_in text name territory sources e))
        (entry_of code (map (entry_in text name territory sources) es))) ≡ option_map territory
        (cond b (Some e.1) (lookup (λ k. bytes_eq code (text k)) es))) [
          | true ↦ refl
          | false ↦ territory_of-map code es
        ]

    pub sources_of-map : (code : List ℕ) (es : List (K × V)) →
        sources_of code (map (entry_in text name territory sources) es) ≡ option_map sources
        (lookup (λ k. bytes_eq code (text k)) es)
    sources_of-map code [] = refl
    sources_of-map code (e ∷ es) =
        elim (bytes_eq code (text e.0)) as (λ b. option_map (λ (l : EntryModel). l.sources)
        (cond b (Some (entry_in text name territory sources e))
        (entry_of code (map (entry_in text name territory sources) es))) ≡ option_map sources
        (cond b (Some e.1) (lookup (λ k. bytes_eq code (text k)) es))) [
          | true ↦ refl
          | false ↦ sources_of-map code es
        ]

    pub entry_of-none : (code : List ℕ) (es : List (K × V)) →
        entry_of code (map (entry_in text name territory sources) es) ≡ None →
        lookup (λ k. bytes_eq code (text k)) es ≡ None
    entry_of-none code es none = by (lookup (λ k. bytes_eq code (text k)) es)
        (sym (entry_of-map code es) ∙ ap is_some none)
      where
        by : (o : Option V) → is_some o ≡ false → o ≡ None
        by None h = refl
        by (Some v) h = absurd (false≢true (sym h))

    pub map-push : (es : List (K × V)) (e : K × V) →
        map (entry_in text name territory sources) (es ++ e ∷ [])
        ≡ map (entry_in text name territory sources) es ++ entry_in text name territory sources e
        ∷ []
    map-push [] e = refl
    map-push (d ∷ es) e = ap (λ ls. entry_in text name territory sources d ∷ ls) (map-push es e)

other_way : (x y : List ℕ) → bytes_eq x y ≡ false → bytes_eq y x ≡ false
other_way x y h = by (bytes_eq y x) refl
  where
    by : (b : Bool) → bytes_eq y x ≡ b → b ≡ false
    by true e = absurd (false≢true (sym h ∙ (bytes_eq-Decides x y).1
        (sym ((bytes_eq-Decides y x).0 e))))
    by false e = refl

pub apart_first : (code : List ℕ) (l : EntryModel) (ls : List EntryModel) →
    entry_of code (l ∷ ls) ≡ None → (bytes_eq code l.code ≡ false) × (entry_of code ls ≡ None)
apart_first code l ls none = by (bytes_eq code l.code) refl none
  where
    by : (b : Bool) → bytes_eq code l.code ≡ b → cond b (Some l) (entry_of code ls) ≡ None →
        (bytes_eq code l.code ≡ false) × (entry_of code ls ≡ None)
    by true e h = absurd (false≢true (sym (ap is_some h)))
    by false e h = (e, h)

entry_of-push : (code : List ℕ) (ls : List EntryModel) (l : EntryModel) → entry_of code ls ≡ None →
    bytes_eq code l.code ≡ false → entry_of code (ls ++ l ∷ []) ≡ None
entry_of-push code [] l none apart = ap (λ b. cond b (Some l) None) apart
entry_of-push code (k ∷ ls) l none apart =
    let first = apart_first code k ls none in
    ap (λ b. cond b (Some k) (entry_of code (ls ++ l ∷ []))) first.0
    ∙ entry_of-push code ls l first.1 apart

AreDistinct-push : (ls : List EntryModel) (l : EntryModel) → AreDistinct ls →
    entry_of l.code ls ≡ None → AreDistinct (ls ++ l ∷ [])
AreDistinct-push [] l distinct none = (refl, tt)
AreDistinct-push (k ∷ ls) l distinct none =
    let first = apart_first l.code k ls none in (
      entry_of-push k.code ls l distinct.0 (other_way l.code k.code first.0),
      AreDistinct-push ls l
          distinct.1 first.1,
    )

AreSound-push : (p : Rules) (limits : Limits) (ls : List EntryModel) (l : EntryModel) →
    AreSound p limits ls → IsSoundTerritory p limits l.territory → AreSound p limits (ls ++ l ∷ [])
AreSound-push p limits [] l few here = (here, tt)
AreSound-push p limits (k ∷ ls) l few here = (few.0, AreSound-push p limits ls l few.1 here)

AreNamed-push : (ls : List EntryModel) (l : EntryModel) → AreNamed ls → is_code l.code ≡ true →
    is_name l.name ≡ true → AreNamed (ls ++ l ∷ [])
AreNamed-push [] l named code name = (code, name, tt)
AreNamed-push (k ∷ ls) l named code name =
    (named.0, named.1, AreNamed-push ls l named.2 code name)

HaveSources-push : (ls : List EntryModel) (l : EntryModel) → HaveSources ls → HasSources l.sources →
    HaveSources (ls ++ l ∷ [])
HaveSources-push [] l given here = (here, tt)
HaveSources-push (k ∷ ls) l given here = (given.0, HaveSources-push ls l given.1 here)

-- a new territory under a new code keeps a register well formed
pub IsWellFormed-push : (p : Rules) (r : RegisterModel) (l : EntryModel) → IsWellFormed p r →
    entry_of l.code r.territories ≡ None → is_code l.code ≡ true → is_name l.name ≡ true →
    length r.territories < r.limits.lands →
    IsSoundTerritory p r.limits l.territory → HasSources l.sources → IsWellFormed p
    (record r { territories = r.territories ++ l ∷ [] })
IsWellFormed-push p r l w none code name room few given = record {
  distinct = AreDistinct-push r.territories l w.distinct none;
  named = AreNamed-push r.territories l w.named code name;
  within = omega (arith, length-append r.territories (l ∷ []));
  territories = AreSound-push p r.limits r.territories l w.territories few;
  sources = HaveSources-push r.territories l w.sources given;
}

-- the entries after one new key, seen as the plain list
module _ {K V : Type 0} (text : K → List ℕ) (name : V → List ℕ) (territory : V → TerritoryModel)
    (sources : V → SourcesModel)
  where
    pub territories_with_new : (old new : List (K × V)) (k : K) (v : V) (l : EntryModel) →
        new ≡ old ++ (k, v) ∷ [] → entry_in text name territory sources (k, v) ≡ l →
        map (entry_in text name territory sources) new
        ≡ map (entry_in text name territory sources) old ++ l ∷ []
    territories_with_new old new k v l e is =
        ap (map (entry_in text name territory sources)) e
        ∙ map-push text name territory sources old (k, v)
        ∙ ap (λ n. map (entry_in text name territory sources) old ++ n ∷ []) is

apart_within : (code : List ℕ) (front : List EntryModel) (l : EntryModel) (rest : List EntryModel) →
    entry_of code (front ++ l ∷ rest) ≡ None → bytes_eq code l.code ≡ false
apart_within code [] l rest none = (apart_first code l rest none).0
apart_within code (k ∷ front) l rest none = apart_within code front l rest
    (apart_first code k (front ++ l ∷ rest) none).1

-- if codes are distinct, no territory before one has its code
pub AreDistinct-within : (front : List EntryModel) (l : EntryModel) (rest : List EntryModel) →
    AreDistinct (front ++ l ∷ rest) → entry_of l.code front ≡ None
AreDistinct-within [] l rest distinct = refl
AreDistinct-within (k ∷ front) l rest distinct =
    ap (λ b. cond b (Some k) (entry_of l.code front)) (other_way k.code l.code
    (apart_within k.code front l rest distinct.0))
    ∙ AreDistinct-within front l rest distinct.1

-- a copy so far, with a territory and what follows it, is all
pub copied_absent : (copied : List EntryModel) (l : EntryModel) (rest territories : List EntryModel)
    (code : List ℕ) → copied ++ l ∷ rest ≡ territories → AreDistinct territories → code ≡ l.code →
    entry_of code copied ≡ None
copied_absent copied l rest territories code e distinct same =
    subst (λ c. entry_of c copied ≡ None) (sym same) (AreDistinct-within copied l rest
    (subst AreDistinct (sym e) distinct))

pub copied_room : (copied : List EntryModel) (l : EntryModel) (rest territories : List EntryModel)
    (limit room : ℕ) → copied ++ l ∷ rest ≡ territories → length territories ≤ limit → room ≡ limit
    → length copied < room
copied_room copied l rest territories limit room e within same = omega
    (arith, ap length e, length-append copied (l ∷ rest))

pub copied_some : (copied : List EntryModel) (l : EntryModel) (rest territories : List EntryModel) →
    copied ++ l ∷ rest ≡ territories → 0 < length territories
copied_some copied l rest territories e =
    omega (arith, ap length e, length-append copied (l ∷ rest))

AreSound-within : (p : Rules) (limits : Limits) (front : List EntryModel) (l : EntryModel)
    (rest : List EntryModel) → AreSound p limits (front ++ l ∷ rest) →
    IsSoundTerritory p limits l.territory
AreSound-within p limits [] l rest few = few.0
AreSound-within p limits (k ∷ front) l rest few = AreSound-within p limits front l rest few.1

pub copied_within : (p : Rules) (copied : List EntryModel) (l : EntryModel)
    (rest territories : List EntryModel) (limits room : Limits) → copied ++ l ∷ rest ≡ territories →
    AreSound p limits territories → room ≡ limits → IsSoundTerritory p room l.territory
copied_within p copied l rest territories limits room e few same =
    subst (λ m. IsSoundTerritory p m l.territory) (sym same) (AreSound-within p limits copied l rest
    (subst (AreSound p limits) (sym e) few))

AreNamed-within : (front : List EntryModel) (l : EntryModel) (rest : List EntryModel) →
    AreNamed (front ++ l ∷ rest) → (is_code l.code ≡ true) × (is_name l.name ≡ true)
AreNamed-within [] l rest named = (named.0, named.1)
AreNamed-within (k ∷ front) l rest named = AreNamed-within front l rest named.2

pub copied_named : (copied : List EntryModel) (l : EntryModel) (rest territories : List EntryModel)
    → copied ++ l ∷ rest ≡ territories → AreNamed territories →
    (is_code l.code ≡ true) × (is_name l.name ≡ true)
copied_named copied l rest territories e named =
    AreNamed-within copied l rest (subst AreNamed (sym e) named)

HaveSources-within : (front : List EntryModel) (l : EntryModel) (rest : List EntryModel) →
    HaveSources (front ++ l ∷ rest) → HasSources l.sources
HaveSources-within [] l rest given = given.0
HaveSources-within (k ∷ front) l rest given = HaveSources-within front l rest given.1

pub copied_sources : (copied : List EntryModel) (l : EntryModel)
    (rest territories : List EntryModel) →
    copied ++ l ∷ rest ≡ territories → HaveSources territories → HasSources l.sources
copied_sources copied l rest territories e given =
    HaveSources-within copied l rest (subst HaveSources (sym e) given)

abbrev pub with_code : List ℕ → EntryModel → EntryModel
with_code code l = record l { code = code }

pub copied_more : (copied : List EntryModel) (l : EntryModel) (rest territories : List EntryModel)
    (code : List ℕ) → copied ++ l ∷ rest ≡ territories → code ≡ l.code →
    (copied ++ with_code code l ∷ []) ++ rest ≡ territories
copied_more copied l rest territories code e same =
    append_assoc copied (with_code code l ∷ []) rest
    ∙ ap (λ (c : List ℕ). copied ++ with_code c l ∷ rest) same
    ∙ e

pub same_register : (a b : RegisterModel) → a.limits ≡ b.limits → a.territories ++ []
    ≡ b.territories → a ≡ b
same_register a b limits territories =
    ap (λ (m : Limits). let r : RegisterModel =
    record { limits = m; territories = a.territories } in r) limits
    ∙ ap (λ (ls : List EntryModel). let r : RegisterModel =
    record { limits = b.limits; territories = ls }
    in r) (sym (append-nil a.territories) ∙ territories)

-- what holds anyway holds if a call fails
pub on_err : {X Y A : Type 0} (r : Result X Y) → A → OnErr r A
on_err (Ok x) a = tt
on_err (Err y) a = a
