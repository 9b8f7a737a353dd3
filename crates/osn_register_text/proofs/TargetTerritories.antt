-- The edits of the territories of the target in turn: after its edits each of them is as in the
-- target.
use Rattle.std.proofs.Common.{◌≡◌, ℕ, ◌≤◌, Bool, true, false, cond, List, [], ◌∷◌, ◌++◌, fold}
use Rattle.std.proofs.Common.{Option, Some, None, option_map, is_some, refl, sym, ap, subst, ◌∙◌}
use Rattle.std.proofs.Common.{arith}
use Rattle.std.proofs.Common.{not, nat_le, length}
use Rattle.std.proofs.lemmas.Bool.{false≢true}
use Rattle.std.proofs.lemmas.Slice.Eq.{bytes_eq-Decides}
use Rattle.std.specs.Str.{bytes_eq}
use Rattle.osn_days.specs.Rules.{Rules}
use Rattle.osn_territory.specs.declared.regime.Regime.{Regime}
use Rattle.osn_territory.specs.Territory.{TerritoryModel, of_one_regime}
use Rattle.osn_territory.specs.Changes.{starts_on}
use Rattle.osn_register.specs.declared.edit.Edit.{Edit}
use Rattle.osn_register.specs.declared.limits.Limits.{Limits}
use Rattle.osn_register.specs.declared.refusal.Refusal.{Refusal}
use Rattle.osn_register.specs.declared.refusal.Refusal.TheVariants as refusals
use Rattle.osn_register.specs.Code.{is_code, is_name}
use Rattle.osn_register.specs.Sources.{SourcesModel, source_of, opening_sources}
use Rattle.osn_register.specs.Plain.{EntryModel, entry_of, effect, AreDistinct, is_style_refused}
use Rattle.osn_register.specs.Plain.{AreStyled, add_land_refusal}
use Rattle.osn_register_text.specs.Fault.{IsOver}
use Rattle.osn_register_text.specs.NeededEdits.{AreNeeded}
use Rattle.osn_register_text.specs.Differences.{opening, later, differences, edits_from}
use Rattle.osn_register_text.specs.Differences.{entry_edits, edits_for}
use Rattle.osn_register_text.proofs.Rows.{look, IsFrom, some_is}
use Rattle.osn_register_text.proofs.NeededChanges.{after}
use Rattle.osn_register_text.proofs.Fresh.{pair_of, cited_after}
use Rattle.osn_register_text.proofs.TerritoryDifferences.{Ascends, Reaches, reaches, later_is}
use Rattle.osn_register_text.proofs.SourceDifferences.{Cites, cites}
use Rattle.osn_register_text.proofs.CodeLookups.{code_itself, edits_here, edits_apart, regime_found}
use Rattle.osn_register_text.proofs.CodeLookups.{period_found}
use Rattle.osn_register_text.proofs.CodeLookups.{are_needed}
use Rattle.osn_register_text.proofs.Valid.{Allowed, AreValid, differences_valid, AreLimited}
use Rattle.osn_register_text.proofs.Valid.{are_limited}
use Rattle.osn_register_text.proofs.Valid.{skip, last_one}
use Rattle.osn_register_text.proofs.CodeLookups.{added_here, added_apart, code_found}

-- the first start is on day 1
pub record Opens (t : TerritoryModel) : Type 0 where
  pub rest : List (ℕ × Regime)
  pub is : t.starts ≡ (1, opening t.starts) ∷ rest
  pub from : IsFrom 2 rest

-- a territory is found that has the code and the name of the target one, the same starts and years,
-- and the source of each of these
pub record IsTargetEntry (l : EntryModel) (found : Option EntryModel) : Type 0 where
  pub entry : EntryModel
  pub is : found ≡ Some entry
  pub code : entry.code ≡ l.code
  pub name : entry.name ≡ l.name
  pub starts : (k : ℕ) → look k entry.territory.starts ≡ look k l.territory.starts
  pub years : (k : ℕ) → look k entry.territory.exceptions ≡ look k l.territory.exceptions
  pub periods : (k : ℕ) → starts_on l.territory k ≡ true →
      source_of k entry.sources.periods ≡ source_of k l.sources.periods
  pub easters : (k : ℕ) → is_some (look k l.territory.exceptions) ≡ true →
      source_of k entry.sources.easters ≡ source_of k l.sources.easters

-- one territory of the target

record Placed (p : Rules) (limits : Limits) (target ls : List EntryModel) (l : EntryModel)
    (es : List Edit) : Type 0 where
  needed : AreNeeded target ls es
  limited : AreLimited p limits target ls es
  others : (other : List ℕ) → bytes_eq other l.code ≡ false →
      entry_of other (fold effect ls es) ≡ entry_of other ls
  target_entry : IsTargetEntry l (entry_of l.code (fold effect ls es))

-- the territory of the code has the target name, and ascends
abbrev pub Fits : Rules → EntryModel → Option EntryModel → Type 0
Fits p l None = Unit {0}
Fits p l (Some current) =
    (current.name ≡ l.name) × Ascends current.territory × Allowed p current.territory

-- a target territory that the edits can reach
pub record Fit (p : Rules) (territories : List EntryModel) (l : EntryModel) : Type 0 where
  pub up : Ascends l.territory
  pub opens : Opens l.territory
  pub code : is_code l.code ≡ true
  pub name : is_name l.name ≡ true
  pub allowed : Allowed p l.territory
  pub current : Fits p l (entry_of l.code territories)

opened_allowed : (p : Rules) (r : Regime) → 1 ≤ p.high → is_style_refused p r ≡ false →
    Allowed p (of_one_regime r)
opened_allowed p r low style = record {
  opening = refl;
  days = ((omega arith, low), tt);
  styles = (style, tt);
  listed = tt;
}

-- another territory is refused by the limit of territories, if it is refused
entry_limited : (p : Rules) (limits : Limits) (ls : List EntryModel) (l : EntryModel)
    (r : Regime) → is_code l.code ≡ true → is_name l.name ≡ true → entry_of l.code ls ≡ None →
    is_style_refused p r ≡ false → (f : Refusal) →
    add_land_refusal p limits ls l.code l.name r ≡ Some f → IsOver limits (Some l) f
entry_limited p limits ls l r code name none style f refused =
    last_one (IsOver limits (Some l)) (nat_le limits.lands (length ls)) refusals.TooManyLands f
    (λ over. tt)
    (skip (is_style_refused p r) _ _ f style
    (skip (is_some (entry_of l.code ls)) _ _ f (ap is_some none)
    (skip (not (is_name l.name)) _ _ f (ap not name)
    (skip (not (is_code l.code)) _ _ f (ap not code) refused))))

placed : (p : Rules) (limits : Limits) (target territories ls : List EntryModel) (l : EntryModel) →
    1 ≤ p.high → entry_of l.code target ≡ Some l → Fit p territories l → (o : Option EntryModel) →
    entry_of l.code ls ≡ o → Fits p l o →
    Placed p limits target ls l (edits_from (Some l.sources) l.code l.name l.territory o)
placed p limits target territories ls l low is fit (Some s) known fits =
    let both = pair_of s.sources l.sources in
    let es = differences both s.territory l.territory in
    let made : Reaches both l.territory s.territory es =
    reaches both l.territory s.territory fit.up fits.1 in
    let cited : Cites l.territory s.sources l.sources es =
    cites l.territory s.territory s.sources l.sources fit.up fits.1 in
    record {
      needed = are_needed target ls l.code l s.sources s es is known made.due cited.fresh;
      limited = are_limited p limits target both l.code l is es ls s fit.code known made.due
          (differences_valid p both s.territory l.territory fits.2 fit.allowed);
      others = λ other apart. edits_apart l.code other es ls apart;
      target_entry = record {
        entry = record s {
          territory = after es s.territory;
          sources = cited_after es s.sources;
        };
        is = edits_here l.code es ls s known;
        code = code_found l.code ls s known;
        name = fits.0;
        starts = made.starts;
        years = made.years;
        periods = cited.periods;
        easters = cited.easters;
      };
    }
placed p limits target territories ls l low is fit None known fits =
    let opens = fit.opens in
    let r = opening l.territory.starts in
    let es = later (Some l.sources) l.territory in
    let first_sources : SourcesModel = opening_sources (source_of 1 l.sources.periods) in
    let both = pair_of first_sources l.sources in
    let new : EntryModel = record {
      code = l.code;
      name = l.name;
      territory = of_one_regime r;
      sources = first_sources;
    } in
    let first : Ascends (of_one_regime r) = record { starts = (omega arith, tt); years = tt } in
    let same : differences both (of_one_regime r) l.territory ≡ es =
    later_is (Some l.sources) l.territory r opens.rest opens.is opens.from in
    let made : Reaches both l.territory (of_one_regime r) es =
    subst (Reaches both l.territory (of_one_regime r)) same
    (reaches both l.territory (of_one_regime r) fit.up first) in
    let cited : Cites l.territory first_sources l.sources es =
    subst (Cites l.territory first_sources l.sources) same
    (cites l.territory (of_one_regime r) first_sources l.sources fit.up first) in
    let added : entry_of l.code (ls ++ new ∷ []) ≡ Some new = added_here ls new known in
    let style : is_style_refused p r ≡ false =
    (subst (AreStyled p) opens.is fit.allowed.styles).0 in
    record {
      needed = (
        (
          known,
          ap (option_map (λ (k : EntryModel). k.name)) is,
          regime_found l.code target l 1 is ∙ ap (look 1) opens.is,
          sym (period_found l.code target l 1 is),
        ),
        are_needed target (ls ++ new ∷ []) l.code l first_sources new es is added made.due
            cited.fresh,
      );
      limited = (
        (λ f refused. subst (λ o. IsOver limits o f) (sym is)
            (entry_limited p limits ls l r fit.code fit.name known style f refused)),
        are_limited p limits target both l.code l is es (ls ++ new ∷ []) new fit.code added made.due
            (subst (AreValid p) same (differences_valid p both (of_one_regime r) l.territory
            (opened_allowed p r low style) fit.allowed)),
      );
      others = λ other apart. edits_apart l.code other es (ls ++ new ∷ []) apart
          ∙ added_apart other ls new apart;
      target_entry = record {
        entry = record new {
          territory = after es (of_one_regime r);
          sources = cited_after es first_sources;
        };
        is = edits_here l.code es (ls ++ new ∷ []) new added;
        code = refl;
        name = refl;
        starts = made.starts;
        years = made.years;
        periods = cited.periods;
        easters = cited.easters;
      };
    }

-- the target sources are those of the target territory
placed_by_code : (p : Rules) (limits : Limits) (target territories ls : List EntryModel)
    (l : EntryModel) → 1 ≤ p.high → entry_of l.code target ≡ Some l → Fit p territories l →
    entry_of l.code ls ≡ entry_of l.code territories →
    Placed p limits target ls l (entry_edits target territories l.code l.name l.territory)
placed_by_code p limits target territories ls l low is fit same =
    subst (λ (cited : Option SourcesModel). Placed p limits target ls l
    (edits_from cited l.code l.name l.territory (entry_of l.code territories)))
    (sym (ap (option_map (λ (k : EntryModel). k.sources)) is))
    (placed p limits target territories ls l low is fit (entry_of l.code territories) same
    fit.current)

-- all in turn

effects-append : (es fs : List Edit) (ls : List EntryModel) →
    fold effect ls (es ++ fs) ≡ fold effect (fold effect ls es) fs
effects-append [] fs ls = refl
effects-append (e ∷ es) fs ls = effects-append es fs (effect ls e)

AreNeeded-append : (target ls : List EntryModel) (es fs : List Edit) → AreNeeded target ls es →
    AreNeeded target (fold effect ls es) fs → AreNeeded target ls (es ++ fs)
AreNeeded-append target ls [] fs needed after = after
AreNeeded-append target ls (e ∷ es) fs needed after =
    (needed.0, AreNeeded-append target (effect ls e) es fs needed.1 after)

AreLimited-append : (p : Rules) (limits : Limits) (target ls : List EntryModel)
    (es fs : List Edit) →
    AreLimited p limits target ls es → AreLimited p limits target (fold effect ls es) fs →
    AreLimited p limits target ls (es ++ fs)
AreLimited-append p limits target ls [] fs limited after = after
AreLimited-append p limits target ls (e ∷ es) fs limited after =
    (limited.0, AreLimited-append p limits target (effect ls e) es fs limited.1 after)

abbrev pub AreFit : Rules → List EntryModel → List EntryModel → Type 0
AreFit p territories [] = Unit {0}
AreFit p territories (l ∷ ls) = Fit p territories l × AreFit p territories ls

pub record AllPlaced (p : Rules) (limits : Limits) (target ls left : List EntryModel)
    (es : List Edit) : Type 0 where
  pub needed : AreNeeded target ls es
  pub limited : AreLimited p limits target ls es
  pub others : (other : List ℕ) → entry_of other left ≡ None →
      entry_of other (fold effect ls es) ≡ entry_of other ls
  pub target_entry : (code : List ℕ) (l : EntryModel) → entry_of code left ≡ Some l →
      IsTargetEntry l (entry_of code (fold effect ls es))

there : (code : List ℕ) (l : EntryModel) (ls : List EntryModel) → bytes_eq code l.code ≡ false →
    entry_of code (l ∷ ls) ≡ entry_of code ls
there code l ls apart = ap (λ b. cond b (Some l) (entry_of code ls)) apart

-- a code that is found later is not that of the first
apart_later : (code : List ℕ) (l : EntryModel) (ls : List EntryModel) → entry_of l.code ls ≡ None →
    is_some (entry_of code ls) ≡ true → bytes_eq code l.code ≡ false
apart_later code l ls none some = by (bytes_eq code l.code) refl
  where
    by : (b : Bool) → bytes_eq code l.code ≡ b → b ≡ false
    by true e = absurd (false≢true (sym (ap is_some
        (ap (λ c. entry_of c ls) ((bytes_eq-Decides code l.code).0 e) ∙ none)) ∙ some))
    by false e = refl

target_entry_first : (p : Rules) (limits : Limits) (target ls : List EntryModel) (l : EntryModel)
    (left : List EntryModel) (es fs : List Edit) → entry_of l.code left ≡ None →
    Placed p limits target ls l es → AllPlaced p limits target (fold effect ls es) left fs →
    (code : List ℕ) (k : EntryModel) → entry_of code (l ∷ left) ≡ Some k →
    IsTargetEntry k (entry_of code (fold effect ls (es ++ fs)))
target_entry_first p limits target ls l left es fs none one rest code k found =
    by (bytes_eq code l.code) refl found
  where
    joined : entry_of code (fold effect ls (es ++ fs))
        ≡ entry_of code (fold effect (fold effect ls es) fs)
    joined = ap (entry_of code) (effects-append es fs ls)

    by : (b : Bool) → bytes_eq code l.code ≡ b → cond b (Some l) (entry_of code left) ≡ Some k →
        IsTargetEntry k (entry_of code (fold effect ls (es ++ fs)))
    by false e found = subst (IsTargetEntry k) (sym joined) (rest.target_entry code k found)
    by true e found =
        let same : code ≡ l.code = (bytes_eq-Decides code l.code).0 e in
        let kept : entry_of code (fold effect ls (es ++ fs)) ≡ entry_of l.code (fold effect ls es) =
        joined ∙ rest.others code (ap (λ c. entry_of c left) same ∙ none)
        ∙ ap (λ c. entry_of c (fold effect ls es)) same in
        subst (λ m. IsTargetEntry m (entry_of code (fold effect ls (es ++ fs)))) (some_is found)
        (subst (IsTargetEntry l) (sym kept) one.target_entry)

others_first : (code : List ℕ) (l : EntryModel) (ls : List EntryModel) →
    entry_of code (l ∷ ls) ≡ None → (bytes_eq code l.code ≡ false) × (entry_of code ls ≡ None)
others_first code l ls none = by (bytes_eq code l.code) refl none
  where
    by : (b : Bool) → bytes_eq code l.code ≡ b → cond b (Some l) (entry_of code ls) ≡ None →
        (bytes_eq code l.code ≡ false) × (entry_of code ls ≡ None)
    by true e h = absurd (false≢true (sym (ap is_some h)))
    by false e h = (e, h)

pub all_placed : (p : Rules) (limits : Limits) (target territories ls left : List EntryModel) →
    1 ≤ p.high → AreDistinct left → AreFit p territories left →
    ((code : List ℕ) → is_some (entry_of code left) ≡ true → entry_of code ls
    ≡ entry_of code territories) → ((code : List ℕ) (l : EntryModel) → entry_of code left ≡ Some l →
    entry_of code target ≡ Some l) →
    AllPlaced p limits target ls left (edits_for target territories left)
all_placed p limits target territories ls [] low distinct fit same within = record {
  needed = tt;
  limited = tt;
  others = λ other none. refl;
  target_entry = λ code l found. absurd (false≢true (ap is_some found));
}
all_placed p limits target territories ls (l ∷ left) low distinct fit same within =
    let here : entry_of l.code (l ∷ left) ≡ Some l =
    ap (λ b. cond b (Some l) (entry_of l.code left)) (code_itself l.code) in
    let es = entry_edits target territories l.code l.name l.territory in
    let one : Placed p limits target ls l es =
    placed_by_code p limits target territories ls l low (within l.code l here) fit.0
    (same l.code (ap is_some here)) in
    let rest : AllPlaced p limits target (fold effect ls es) left
    (edits_for target territories left) =
    all_placed p limits target territories (fold effect ls es) left low distinct.1 fit.1
    (λ code some.
    let apart : bytes_eq code l.code ≡ false = apart_later code l left distinct.0 some in
    one.others code apart ∙ same code (ap is_some (there code l left apart) ∙ some))
    (λ code k found. within code k (there code l left
    (apart_later code l left distinct.0 (ap is_some found)) ∙ found)) in
    record {
      needed = AreNeeded-append target ls es (edits_for target territories left) one.needed
          rest.needed;
      limited = AreLimited-append p limits target ls es (edits_for target territories left)
          one.limited rest.limited;
      others = λ other none.
          let first = others_first other l left none in
          ap (entry_of other) (effects-append es (edits_for target territories left) ls)
          ∙ rest.others other first.1 ∙ one.others other first.0;
      target_entry = target_entry_first p limits target ls l left es
          (edits_for target territories left)
          distinct.0 one rest;
    }
