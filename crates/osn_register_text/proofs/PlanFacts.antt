-- The edits of all target territories, which are lawful in turn, are a plan.
use Rattle.std.proofs.Common.{◌≡◌, ℕ, true, List, [], ◌∷◌, ◌++◌, fold, Option, Some, None}
use Rattle.std.proofs.Common.{option_map, is_some, refl, sym, ap, subst, ◌∙◌, arith, unsigned_abs}
use Rattle.std.proofs.lemmas.Bool.{false≢true}
use Rattle.std.specs.Option.{option_and_then}
use Rattle.osn_days.specs.Rules.{newest_rules}
use Rattle.osn_territory.specs.Territory.{TerritoryModel}
use Rattle.osn_territory.specs.Exceptions.{exception_of}
use Rattle.osn_register.specs.declared.limits.Limits.{Limits}
use Rattle.osn_register.specs.declared.edit.Edit.{Edit}
use Rattle.osn_register.specs.declared.edit.Edit.TheVariants.{AddLand, AddChange, AlterChange}
use Rattle.osn_register.specs.declared.edit.Edit.TheVariants.{DropChange, AddException}
use Rattle.osn_register.specs.declared.edit.Edit.TheVariants.{DropException}
use Rattle.osn_register.specs.declared.refusal.Refusal.{Refusal}
use Rattle.osn_register.specs.Answer.{period_source, easter_source}
use Rattle.osn_register.specs.SameEntry.{AreSameEntry}
use Rattle.osn_register.specs.Lawful.{AreLawful, code_of}
use Rattle.osn_register.specs.Plain.{EntryModel, entry_of, refusal, effect, after_edits}
use Rattle.osn_register.specs.Plain.{AreDistinct, AreNamed, AreSound}
use Rattle.osn_register_text.proofs.Lawful.{after_edit-lawful}
use Rattle.osn_register_text.specs.NeededEdits.{name_in, regime_from, regime_in, easter_in}
use Rattle.osn_register_text.specs.NeededEdits.{period_cited}
use Rattle.osn_register_text.specs.NeededEdits.{easter_cited, IsNeeded, AreNeeded}
use Rattle.osn_register_text.specs.Fault.{first_renamed, IsOver}
use Rattle.osn_register_text.specs.Plan.{AgreeWithTarget, IsPlan}
use Rattle.osn_register_text.specs.PlanOrder.{AreInOrder}
use Rattle.osn_register_text.specs.Differences.{all_edits}
use Rattle.osn_register_text.proofs.Rows.{not_none}
use Rattle.osn_register_text.proofs.TargetTerritories.{IsTargetEntry, AllPlaced, all_placed}
use Rattle.osn_register_text.proofs.Valid.{AreLimited}
use Rattle.osn_register_text.proofs.ChangeFacts.{starts_found}
use Rattle.osn_register_text.proofs.EditOrder.{in_order}
use Rattle.osn_register_text.proofs.AscendingCodes.{are_fit, target_entry_same}

effects_of : (limits : Limits) (territories : List EntryModel) (es : List Edit) →
    AreLawful newest_rules limits territories es →
    after_edits newest_rules limits territories es ≡ fold effect territories es
effects_of limits territories [] lawful = refl
effects_of limits territories (e ∷ es) lawful =
    ap (λ ls. after_edits newest_rules limits ls es)
    (after_edit-lawful newest_rules limits territories e lawful.0)
    ∙ effects_of limits (effect territories e) es lawful.1

-- of edits that limits alone refuse, one is refused after lawful ones by a limit
pub limit_at : (limits : Limits) (target territories : List EntryModel) (before : List Edit)
    (e : Edit)
    (after : List Edit) (f : Refusal) → AreLawful newest_rules limits territories before →
    AreLimited newest_rules limits target territories (before ++ e ∷ after) →
    refusal newest_rules limits (after_edits newest_rules limits territories before) e ≡ Some f →
    IsOver limits (entry_of (code_of e) target) f
limit_at limits target territories [] e after f lawful limited refused = limited.0 f refused
limit_at limits target territories (b ∷ before) e after f lawful limited refused =
    limit_at limits target (effect territories b) before e after f lawful.1 limited.1
    (ap (λ ls. refusal newest_rules limits (after_edits newest_rules limits ls before) e)
    (sym (after_edit-lawful newest_rules limits territories b lawful.0)) ∙ refused)

-- the first of edits that are needed in turn are needed in turn
pub AreNeeded-front : (target territories : List EntryModel) (es fs : List Edit) →
    AreNeeded target territories (es ++ fs) → AreNeeded target territories es
AreNeeded-front target territories [] fs needed = tt
AreNeeded-front target territories (e ∷ es) fs needed =
    (needed.0, AreNeeded-front target (effect territories e) es fs needed.1)

-- if all are as in the target no edit is needed

known_of : {X Y : Type 0} (f : X → Y) (o : Option X) (y : Y) → option_map f o ≡ Some y →
    is_some o ≡ true
known_of f None y h = not_none (sym h)
known_of f (Some x) y h = refl

known_in : {X Y Z : Type 0} (f : X → Y) (g : Y → Option Z) (o : Option X) (z : Z) →
    option_and_then g (option_map f o) ≡ Some z → is_some o ≡ true
known_in f g None z h = not_none (sym h)
known_in f g (Some x) z h = refl

-- what two territories that are the same say

abbrev name_of : Option EntryModel → Option (List ℕ)
name_of o = option_map (λ l. l.name) o

abbrev territory_in : Option EntryModel → Option TerritoryModel
territory_in o = option_map (λ l. l.territory) o

same_names : (o q : Option EntryModel) → AreSameEntry o q → name_of o ≡ name_of q
same_names None None same = refl
same_names None (Some b) same = absurd same
same_names (Some a) None same = absurd same
same_names (Some a) (Some b) same = ap (λ n. Some n) same.name

same_territories : (o q : Option EntryModel) → AreSameEntry o q → territory_in o ≡ territory_in q
same_territories None None same = refl
same_territories None (Some b) same = absurd same
same_territories (Some a) None same = absurd same
same_territories (Some a) (Some b) same = ap (λ t. Some t) same.territory

same_periods : (o q : Option EntryModel) (d : ℕ) → AreSameEntry o q →
    is_some (option_and_then (λ t. regime_from t d) (territory_in o)) ≡ true →
    period_source (option_map (λ (l : EntryModel). l.sources) o) d
    ≡ period_source (option_map (λ (l : EntryModel). l.sources) q) d
same_periods None None d same some = refl
same_periods None (Some b) d same some = absurd same
same_periods (Some a) None d same some = absurd same
same_periods (Some a) (Some b) d same some =
    same.periods d (starts_found d a.territory.starts ∙ some)

same_easters : (o q : Option EntryModel) (y : ℕ) → AreSameEntry o q →
    is_some (option_and_then (λ (t : TerritoryModel). exception_of t y) (territory_in o)) ≡ true →
    easter_source (option_map (λ (l : EntryModel). l.sources) o) y
    ≡ easter_source (option_map (λ (l : EntryModel). l.sources) q) y
same_easters None None y same some = refl
same_easters None (Some b) y same some = absurd same
same_easters (Some a) None y same some = absurd same
same_easters (Some a) (Some b) y same some = same.easters y some

module _ (target territories : List EntryModel) (already : AgreeWithTarget target territories) where
  same_name : (code : List ℕ) → is_some (entry_of code target) ≡ true →
      name_in territories code ≡ name_in target code
  same_name code some =
      same_names (entry_of code territories) (entry_of code target) (already code some)

  same_regime : (code : List ℕ) (d : ℕ) → is_some (entry_of code target) ≡ true →
      regime_in territories code d ≡ regime_in target code d
  same_regime code d some = ap (option_and_then (λ t. regime_from t d))
      (same_territories (entry_of code territories) (entry_of code target) (already code some))

  same_easter : (code : List ℕ) (y : ℕ) → is_some (entry_of code target) ≡ true →
      easter_in territories code y ≡ easter_in target code y
  same_easter code y some = ap (option_and_then (λ (t : TerritoryModel). exception_of t y))
      (same_territories (entry_of code territories) (entry_of code target) (already code some))

  same_period_source : (code : List ℕ) (d : ℕ) → is_some (entry_of code target) ≡ true →
      is_some (regime_in territories code d) ≡ true →
      period_cited territories code d ≡ period_cited target code d
  same_period_source code d some starts = same_periods (entry_of code territories)
      (entry_of code target) d (already code some) starts

  same_easter_source : (code : List ℕ) (y : ℕ) → is_some (entry_of code target) ≡ true →
      is_some (easter_in territories code y) ≡ true →
      easter_cited territories code y ≡ easter_cited target code y
  same_easter_source code y some listed = same_easters (entry_of code territories)
      (entry_of code target) y (already code some) listed

  regime_known : (code : List ℕ) (d : ℕ) {r : _} → regime_in target code d ≡ Some r →
      is_some (entry_of code target) ≡ true
  regime_known code d {r} h = known_in (λ (l : EntryModel). l.territory) (λ t. regime_from t d)
      (entry_of code target) r h

  not_needed : (e : Edit) → IsNeeded target territories e → ⊥
  not_needed (AddLand code name regime source) needed =
      let some = known_of (λ (l : EntryModel). l.name) (entry_of code target) name needed.1 in
      not_none (sym (same_name code some ∙ needed.1)
      ∙ ap (option_map (λ (l : EntryModel). l.name)) needed.0)
  not_needed (AddChange code day regime source) needed =
      let some = regime_known code (unsigned_abs day) needed.1 in
      not_none (sym (same_regime code (unsigned_abs day) some ∙ needed.1) ∙ needed.0)
  not_needed (AlterChange code day regime source) needed =
      let some = regime_known code (unsigned_abs day) needed.2 in
      needed.1 (same_regime code (unsigned_abs day) some ∙ needed.2)
      (same_period_source code (unsigned_abs day) some needed.0 ∙ sym needed.3)
  not_needed (DropChange code day) needed =
      false≢true (sym (ap is_some (same_regime code (unsigned_abs day) needed.0 ∙ needed.2))
      ∙ needed.1)
  not_needed (AddException code year day source) needed =
      let some = known_in (λ (l : EntryModel). l.territory)
      (λ (t : TerritoryModel). exception_of t (unsigned_abs year)) (entry_of code target)
      (unsigned_abs day) needed.1 in
      not_none (sym (same_easter code (unsigned_abs year) some ∙ needed.1) ∙ needed.0)
  not_needed (DropException code year) needed =
      needed.2 (sym (same_easter code (unsigned_abs year) needed.0))
      (sym (same_easter_source code (unsigned_abs year) needed.0 needed.1))

  none_needed : (es : List Edit) → AreNeeded target territories es → es ≡ []
  none_needed [] needed = refl
  none_needed (e ∷ es) needed = absurd (not_needed e needed.0)

-- the edits of all target territories

pub placed_all : (room limits : Limits) (target territories : List EntryModel) → AreDistinct target
    →
    AreNamed target → AreSound newest_rules room target → AreSound newest_rules limits territories →
    first_renamed target territories ≡ None →
    AllPlaced newest_rules limits target territories target (all_edits target territories)
placed_all room limits target territories distinct named sound current none =
    all_placed newest_rules limits target territories territories target (omega arith) distinct
    (are_fit newest_rules room limits target territories (omega arith) named sound current none)
    (λ code some. refl) (λ code l found. found)

pub ordered_all : (room limits : Limits) (target territories : List EntryModel) → AreNamed target →
    AreSound newest_rules room target → AreSound newest_rules limits territories →
    first_renamed target territories ≡ None → AreInOrder target (all_edits target territories)
ordered_all room limits target territories named sound current none =
    in_order newest_rules target territories target
    (are_fit newest_rules room limits target territories (omega arith) named sound current none)

pub is_plan : (room limits : Limits) (target territories : List EntryModel) →
    AreSound newest_rules room target →
    AllPlaced newest_rules limits target territories target (all_edits target territories) →
    AreInOrder target (all_edits target territories) →
    AreLawful newest_rules limits territories (all_edits target territories) →
    AreSound newest_rules limits
    (after_edits newest_rules limits territories (all_edits target territories)) →
    IsPlan limits target territories (all_edits target territories)
is_plan room limits target territories sound made ordered lawful after = record {
  lawful = lawful;
  stand = λ code some. by code (entry_of code target) refl some
      (effects_of limits territories (all_edits target territories) lawful);
  others = λ code none.
      ap (entry_of code) (effects_of limits territories (all_edits target territories) lawful)
      ∙ made.others code none;
  needed = made.needed;
  idle = λ already. none_needed target territories already (all_edits target territories)
      made.needed;
  order = ordered;
}
  where
    by : (code : List ℕ) (o : Option EntryModel) → entry_of code target ≡ o → is_some o ≡ true →
        after_edits newest_rules limits territories (all_edits target territories)
        ≡ fold effect territories (all_edits target territories) →
        AreSameEntry
        (entry_of code (after_edits newest_rules limits territories (all_edits target territories)))
        o
    by code None none some all = absurd (false≢true some)
    by code (Some l) found some all =
        target_entry_same newest_rules room limits target
        (after_edits newest_rules limits territories (all_edits target territories)) code l sound
        after found
        (subst (λ ls. IsTargetEntry l (entry_of code ls)) (sym all)
        (made.target_entry code l found))
