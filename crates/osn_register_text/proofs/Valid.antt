-- Changes that a register refuses by its limits alone, if they are due.
use Rattle.std.proofs.Common.{◌≡◌, ℕ, ◌≤◌, Bool, true, false, cond, not, ◌==◌, List, [], ◌∷◌, ◌++◌}
use Rattle.std.proofs.Common.{map, Option, Some, None, is_some, is_none, option_map, refl, sym, ap}
use Rattle.std.proofs.Common.{subst, ◌∙◌, arith, pos, nat_lt, nat_le, length}
use Rattle.std.proofs.lemmas.Bool.{ne_eqb, false≢true}
use Rattle.std.proofs.lemmas.Bool.{ltb-true, leb-true}
use Rattle.std.proofs.lemmas.Bool.Decides.{nat_tests}
use Rattle.std.proofs.lemmas.Int.{ints}
use Rattle.std.specs.List.{flat_map}
use Rattle.osn_days.specs.Rules.{Rules}
use Rattle.osn_days.specs.Line.{IsDay, IsYear}
use Rattle.osn_territory.specs.declared.regime.Regime.{Regime}
use Rattle.osn_territory.specs.Territory.{TerritoryModel, regime_at}
use Rattle.osn_territory.specs.Changes.{starts_on}
use Rattle.osn_register.specs.declared.edit.Edit.{Edit}
use Rattle.osn_register.specs.declared.limits.Limits.{Limits}
use Rattle.osn_register.specs.declared.refusal.Refusal.{Refusal}
use Rattle.osn_register.specs.declared.refusal.Refusal.TheVariants as refusals
use Rattle.osn_register_text.specs.Change.{Change}
use Rattle.osn_register_text.specs.Change.Change.{Add, Alter, Drop}
use Rattle.osn_register_text.specs.Change.Change.{ListDay, DropDay}
use Rattle.osn_register.specs.Plain.{EntryModel, entry_of, territory_of, refusal, refusal_in}
use Rattle.osn_register.specs.Plain.{inside, effect, is_off_line, is_off_years, is_style_refused}
use Rattle.osn_register.specs.Plain.{AreStyled, AreListed}
use Rattle.osn_register.specs.Code.{is_code}
use Rattle.osn_register.specs.Refusal.{first_refusal, or_else}
use Rattle.osn_register_text.specs.Change.{change_refusal, territory_after, sources_after}
use Rattle.osn_register.specs.Lawful.{code_of}
use Rattle.osn_register_text.specs.Fault.{IsOver}
use Rattle.osn_register_text.specs.CitedSources.{BothSources}
use Rattle.osn_register.specs.Answer.{period_source}
use Rattle.osn_register_text.specs.Change.{edit_of}
use Rattle.osn_register_text.specs.Differences.{start_agrees, day_agrees, dropped_change}
use Rattle.osn_register_text.specs.Differences.{added_change, target_change, dropped_exception}
use Rattle.osn_register_text.specs.Differences.{added_exception, target_exception, differences}
use Rattle.osn_register_text.proofs.Rows.{look, not_none, some_is}
use Rattle.osn_register_text.proofs.ChangeFacts.{starts_found}
use Rattle.osn_register_text.proofs.NeededChanges.{IsDue, AreDue}
use Rattle.osn_register_text.proofs.CodeLookups.{changed, step_here}

-- what is said of days, years and regimes may be said
abbrev pub IsValid : Rules → Change → Type 0
IsValid p (Add d r c) = IsDay p d × (d ≡ 1 → ⊥) × (is_style_refused p r ≡ false)
IsValid p (Alter d r c) = IsDay p d × (is_style_refused p r ≡ false)
IsValid p (Drop d) = IsDay p d × (d ≡ 1 → ⊥)
IsValid p (ListDay y d c) = IsYear p y × IsDay p d
IsValid p (DropDay y) = IsYear p y

abbrev pub AreValid : Rules → List Change → Type 0
AreValid p [] = Unit {0}
AreValid p (e ∷ es) = IsValid p e × AreValid p es

AreValid-append : (p : Rules) (es fs : List Change) → AreValid p es → AreValid p fs →
    AreValid p (es ++ fs)
AreValid-append p [] fs valid later = later
AreValid-append p (e ∷ es) fs valid later = (valid.0, AreValid-append p es fs valid.1 later)

-- one change

on_line : (p : Rules) (d : ℕ) → IsDay p d → is_off_line p (pos d) ≡ false
on_line p d day = by day.0 day.1
  where
    by : 1 ≤ d → d ≤ p.high → is_off_line p (pos d) ≡ false
    by low high = grind (arith, ints, nat_tests)

in_years : (p : Rules) (y : ℕ) → IsYear p y → is_off_years p (pos y) ≡ false
in_years p y year = by year.0 year.1
  where
    by : 1 ≤ y → y ≤ p.last_year → is_off_years p (pos y) ≡ false
    by low high = grind (arith, ints, nat_tests)

-- a test that does not apply leaves what comes after it
pub skip : (b : Bool) (x y : Option Refusal) (f : Refusal) → b ≡ false → cond b x y ≡ Some f →
    y ≡ Some f
skip true x y f e h = absurd (false≢true (sym e))
skip false x y f e h = h

pub last_one : (P : Refusal → Type 0) (b : Bool) (limit f : Refusal) → (b ≡ true → P limit) →
    cond b (Some limit) None ≡ Some f → P f
last_one P true limit f over h = subst P (some_is h) (over refl)
last_one P false limit f over h = not_none (sym h)

starts_not : (t : TerritoryModel) (d : ℕ) → look d t.starts ≡ None → starts_on t d ≡ false
starts_not t d none = starts_found d t.starts ∙ ap is_some none

starts_there : (t : TerritoryModel) (d : ℕ) → is_some (look d t.starts) ≡ true →
    not (starts_on t d) ≡ false
starts_there t d some = ap not (starts_found d t.starts ∙ some)

only_limit : (p : Rules) (limits : Limits) (both : BothSources) (w : EntryModel)
    (t : TerritoryModel) (e : Change) → IsDue both w.territory t e → IsValid p e →
    (f : Refusal) → change_refusal p limits e t ≡ Some f → IsOver limits (Some w) f
only_limit p limits both w t (Add d r c) due valid f refused =
    last_one (IsOver limits (Some w)) (nat_lt limits.changes (length t.starts))
    refusals.TooManyChanges f
    (λ over. omega (arith, ltb-true limits.changes (length t.starts) over, due.2))
    (skip (is_style_refused p r) _ _ f valid.2
    (skip (starts_on t d) _ _ f (starts_not t d due.0)
    (skip (d == 1) _ _ f (ne_eqb d 1 valid.1)
    (skip (is_off_line p (pos d)) _ _ f (on_line p d valid.0) refused))))
only_limit p limits both w t (Alter d r c) due valid f refused =
    not_none (sym (skip (is_style_refused p r) _ _ f valid.1
    (skip (not (starts_on t d)) _ _ f (starts_there t d due.0)
    (skip (is_off_line p (pos d)) _ _ f (on_line p d valid.0) refused))))
only_limit p limits both w t (Drop d) due valid f refused =
    not_none (sym (skip (not (starts_on t d)) _ _ f (starts_there t d due.0)
    (skip (d == 1) _ _ f (ne_eqb d 1 valid.1)
    (skip (is_off_line p (pos d)) _ _ f (on_line p d valid.0) refused))))
only_limit p limits both w t (ListDay y d c) due valid f refused =
    last_one (IsOver limits (Some w)) (nat_le limits.exceptions (length t.exceptions))
    refusals.TooManyExceptions f
    (λ over. omega (arith, leb-true limits.exceptions (length t.exceptions) over, due.2))
    (skip (is_some (look y t.exceptions)) _ _ f (ap is_some due.0)
    (skip (is_off_years p (pos y)) _ _ f (in_years p y valid.0)
    (skip (is_off_line p (pos d)) _ _ f (on_line p d valid.1) refused)))
only_limit p limits both w t (DropDay y) due valid f refused =
    not_none (sym (skip (is_none (look y t.exceptions)) _ _ f (ap not due.0)
    (skip (is_off_years p (pos y)) _ _ f (in_years p y valid) refused)))

-- each edit in turn is refused by a limit, if it is
abbrev pub AreLimited : Rules → Limits → List EntryModel → List EntryModel → List Edit → Type 0
AreLimited p limits target ls [] = Unit {0}
AreLimited p limits target ls (e ∷ es) =
    ((f : Refusal) → refusal p limits ls e ≡ Some f → IsOver limits (entry_of (code_of e) target) f)
    × AreLimited p limits target (effect ls e) es

code_is : (code : List ℕ) (e : Change) → code_of (edit_of code e) ≡ code
code_is code (Add d r c) = refl
code_is code (Alter d r c) = refl
code_is code (Drop d) = refl
code_is code (ListDay y d c) = refl
code_is code (DropDay y) = refl

refusal_known : (ls : List EntryModel) (code : List ℕ) (l : EntryModel)
    (refused : TerritoryModel → Option Refusal) → is_code code ≡ true → entry_of code ls ≡ Some l →
    refusal_in ls code refused ≡ refused l.territory
refusal_known ls code l refused is known =
    ap (λ b. or_else (cond (not b) (Some refusals.BadCode)
    (first_refusal ((is_none (entry_of code ls), refusals.UnknownLand) ∷ [])))
    (inside refused (territory_of code ls))) is
    ∙ ap (λ o. or_else (cond (is_none o) (Some refusals.UnknownLand) None)
    (inside refused (option_map (λ (k : EntryModel). k.territory) o))) known

refusal_is : (p : Rules) (limits : Limits) (ls : List EntryModel) (code : List ℕ) (l : EntryModel)
    (e : Change) → is_code code ≡ true → entry_of code ls ≡ Some l →
    refusal p limits ls (edit_of code e) ≡ change_refusal p limits e l.territory
refusal_is p limits ls code l (Add d r c) is known =
    refusal_known ls code l (change_refusal p limits (Add d r c)) is known
refusal_is p limits ls code l (Alter d r c) is known =
    refusal_known ls code l (change_refusal p limits (Alter d r c)) is known
refusal_is p limits ls code l (Drop d) is known =
    refusal_known ls code l (change_refusal p limits (Drop d)) is known
refusal_is p limits ls code l (ListDay y d c) is known =
    refusal_known ls code l (change_refusal p limits (ListDay y d c)) is known
refusal_is p limits ls code l (DropDay y) is known =
    refusal_known ls code l (change_refusal p limits (DropDay y)) is known

pub are_limited : (p : Rules) (limits : Limits) (target : List EntryModel) (both : BothSources)
    (code : List ℕ) (w : EntryModel) → entry_of code target ≡ Some w → (es : List Change)
    (ls : List EntryModel) (l : EntryModel) → is_code code ≡ true → entry_of code ls ≡ Some l →
    AreDue both w.territory l.territory es → AreValid p es →
    AreLimited p limits target ls (map (edit_of code) es)
are_limited p limits target both code w at [] ls l is known due valid = tt
are_limited p limits target both code w at (e ∷ es) ls l is known due valid = (
  (λ f refused. subst (λ o. IsOver limits o f)
      (sym (ap (λ c. entry_of c target) (code_is code e) ∙ at))
      (only_limit p limits both w l.territory e due.0 valid.0 f
      (sym (refusal_is p limits ls code l e is known) ∙ refused))),
  are_limited p limits target both code w at es (effect ls (edit_of code e))
      (changed (territory_after e) (sources_after e) l) is (step_here code e ls l known)
      due.1 valid.1,
)

-- the differences of two territories

abbrev pub AreDays : Rules → List (ℕ × Regime) → Type 0
AreDays p [] = Unit {0}
AreDays p (s ∷ ss) = IsDay p s.0 × AreDays p ss

-- what a territory says may be said, and a period of it starts on day 1
pub record Allowed (p : Rules) (t : TerritoryModel) : Type 0 where
  pub opening : starts_on t 1 ≡ true
  pub days : AreDays p t.starts
  pub styles : AreStyled p t.starts
  pub listed : AreListed p t.exceptions

not_first : (t : TerritoryModel) (d : ℕ) → starts_on t 1 ≡ true → starts_on t d ≡ false →
    d ≡ 1 → ⊥
not_first t d on off e = false≢true (sym off ∙ ap (starts_on t) e ∙ on)

drops_valid : (p : Rules) (w : TerritoryModel) (ss : List (ℕ × Regime)) →
    starts_on w 1 ≡ true → AreDays p ss →
    AreValid p (flat_map (λ s. dropped_change w s.0) ss)
drops_valid p w [] on days = tt
drops_valid p w (s ∷ ss) on days =
    by (starts_on w s.0) refl (drops_valid p w ss on days.1)
  where
    by : (b : Bool) → starts_on w s.0 ≡ b →
        AreValid p (flat_map (λ s. dropped_change w s.0) ss) →
        AreValid p (cond b [] (Drop s.0 ∷ []) ++ flat_map (λ s. dropped_change w s.0) ss)
    by true e rest = rest
    by false e rest = ((days.0, not_first w s.0 on e), rest)

starts_valid : (p : Rules) (both : BothSources) (t : TerritoryModel) (ss : List (ℕ × Regime)) →
    starts_on t 1 ≡ true → AreDays p ss → AreStyled p ss →
    AreValid p (flat_map (target_change both t) ss)
starts_valid p both t [] on days styles = tt
starts_valid p both t (s ∷ ss) on days styles =
    by (starts_on t s.0) (start_agrees both (regime_at t s.0) s) refl
    (starts_valid p both t ss on days.1 styles.1)
  where
    by : (b c : Bool) → starts_on t s.0 ≡ b → AreValid p (flat_map (target_change both t) ss) →
        AreValid p (cond b (cond c [] (Alter s.0 s.1 (period_source both.target s.0) ∷ []))
        (added_change both.target s) ++ flat_map (target_change both t) ss)
    by true true e rest = rest
    by true false e rest = ((days.0, styles.0), rest)
    by false c e rest = ((days.0, not_first t s.0 on e, styles.0), rest)

year_drops_valid : (p : Rules) (both : BothSources) (w : TerritoryModel)
    (ys : List (ℕ × ℕ)) → AreListed p ys → AreValid p (flat_map (dropped_exception both w) ys)
year_drops_valid p both w [] listed = tt
year_drops_valid p both w (y ∷ ys) listed =
    by (day_agrees both w y) (year_drops_valid p both w ys listed.2)
  where
    by : (b : Bool) → AreValid p (flat_map (dropped_exception both w) ys) →
        AreValid p (cond b [] (DropDay y.0 ∷ []) ++ flat_map (dropped_exception both w) ys)
    by true rest = rest
    by false rest = (listed.0, rest)

years_valid : (p : Rules) (both : BothSources) (t : TerritoryModel) (ys : List (ℕ × ℕ)) →
    AreListed p ys → AreValid p (flat_map (target_exception both t) ys)
years_valid p both t [] listed = tt
years_valid p both t (y ∷ ys) listed =
    by (day_agrees both t y) (years_valid p both t ys listed.2)
  where
    by : (b : Bool) → AreValid p (flat_map (target_exception both t) ys) →
        AreValid p
        (cond b [] (added_exception both.target y) ++ flat_map (target_exception both t) ys)
    by true rest = rest
    by false rest = ((listed.0, listed.1), rest)

pub differences_valid : (p : Rules) (both : BothSources) (t w : TerritoryModel) → Allowed p t →
    Allowed p w → AreValid p (differences both t w)
differences_valid p both t w current target =
    AreValid-append p (flat_map (λ s. dropped_change w s.0) t.starts) _
    (drops_valid p w t.starts target.opening current.days)
    (AreValid-append p (flat_map (target_change both t) w.starts) _
    (starts_valid p both t w.starts current.opening target.days target.styles)
    (AreValid-append p (flat_map (dropped_exception both w) t.exceptions) _
    (year_drops_valid p both w t.exceptions current.listed)
    (years_valid p both t w.exceptions target.listed)))
