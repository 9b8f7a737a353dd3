-- What rules don't refuse, other rules whose line and years are as long or longer don't refuse
-- either. No edit here has a style that goes from Easter to Easter.
use Rattle.std.proofs.Common.{◌≡◌, ℕ, ◌≤◌, ◌==◌, ◌&&◌, Bool, true, false, not, ℤ, pos, negsuc}
use Rattle.std.proofs.Common.{nat_le, List, [], ◌∷◌, Option, Some, None, is_some}
use Rattle.std.proofs.Common.{unsigned_abs, refl, sym, ap, ◌∙◌, arith, leb-true}
use Rattle.std.proofs.Common.{le-leb}
use Rattle.std.proofs.lemmas.Bool.{and_parts, false≢true}
use Rattle.osn_days.specs.Rules.{Rules}
use Rattle.osn_territory.specs.declared.regime.Regime.{Regime}
use Rattle.osn_territory.specs.Style.{is_julian}
use Rattle.osn_territory.specs.Changes.{starts_on}
use Rattle.osn_territory.specs.Territory.{TerritoryModel}
use Rattle.osn_register.specs.declared.edit.Edit.{Edit}
use Rattle.osn_register.specs.declared.edit.Edit.TheVariants.{AddLand, AddChange, AlterChange}
use Rattle.osn_register.specs.declared.edit.Edit.TheVariants.{DropChange, AddException}
use Rattle.osn_register.specs.declared.edit.Edit.TheVariants.{DropException}
use Rattle.osn_register.specs.declared.limits.Limits.{Limits}
use Rattle.osn_register.specs.declared.refusal.Refusal.{Refusal}
use Rattle.osn_register.specs.Code.{is_code, is_name}
use Rattle.osn_register.specs.Lawful.{AreLawful}
use Rattle.osn_register.specs.Plain as plain
use Rattle.osn_register.specs.Plain.{EntryModel, refusal, effect, after_edits}
use Rattle.osn_register.specs.Refusal.{or_else}
use Rattle.osn_core.proofs.Lawful.{after_edit-lawful}
use Rattle.osn_files.proofs.CommandFacts.{next_test, un_not, both_none}
use Rattle.osn_files.proofs.OldFacts.{IsFixed, HasFixed, HaveFixed}

-- the line and the years of rules are as long as those of others, or longer
pub record IsLonger (p q : Rules) : Type 0 where
  pub line : p.high ≤ q.high
  pub years : p.last_year ≤ q.last_year

-- a number within a range is within a longer one
within_longer : (m n : ℕ) (z : ℤ) → m ≤ n → not (plain.is_between (pos 1) (pos m) z) ≡ false
    → not (plain.is_between (pos 1) (pos n) z) ≡ false
within_longer m n (pos k) more h =
    let p = and_parts (nat_le 1 k) (nat_le k m) (un_not (nat_le 1 k && nat_le k m) h) in
    let below : k ≤ m = leb-true k m p.1 in
    rw (p.0, le-leb k n (omega (arith, more, below))) refl
within_longer m n (negsuc k) more h = absurd (false≢true (un_not _ h))

on_line : (p q : Rules) (day : ℤ) → IsLonger p q → plain.is_off_line p day ≡ false
    → plain.is_off_line q day ≡ false
on_line p q day longer h = within_longer p.high q.high day longer.line h

in_years : (p q : Rules) (year : ℤ) → IsLonger p q → plain.is_off_years p year ≡ false
    → plain.is_off_years q year ≡ false
in_years p q year longer h = within_longer p.last_year q.last_year year longer.years h

and_false : (b : Bool) → (b && false) ≡ false
and_false true = refl
and_false false = refl

-- a year that begins on the same date is allowed with every calendar and rule
style_passes : (q : Rules) (r : Regime) → IsFixed r → plain.is_style_refused q r ≡ false
style_passes q r fixed =
    ap (λ easter. q.tests_style && (easter && not (is_julian r.calendar r.rule))) fixed
    ∙ and_false q.tests_style

inside_passes : (f g : TerritoryModel → Option Refusal)
    → ((t : TerritoryModel) → f t ≡ None → g t ≡ None) → (o : Option TerritoryModel)
    → plain.inside f o ≡ None → plain.inside g o ≡ None
inside_passes f g each None h = refl
inside_passes f g each (Some t) h = each t h

territory_passes : (territories : List EntryModel) (code : List ℕ)
    (f g : TerritoryModel → Option Refusal)
    → ((t : TerritoryModel) → f t ≡ None → g t ≡ None) → plain.refusal_in territories code f ≡ None
    → plain.refusal_in territories code g ≡ None
territory_passes territories code f g each h =
    let parts = both_none (plain.code_refusal territories code) _ h in
    ap (λ r. or_else r (plain.inside g (plain.territory_of code territories))) parts.0
    ∙ inside_passes f g each (plain.territory_of code territories) parts.1

add_land_passes : (p q : Rules) (limits : Limits) (territories : List EntryModel)
    (code name : List ℕ)
    (r : Regime) → IsFixed r → plain.add_land_refusal p limits territories code name r ≡ None
    → plain.add_land_refusal q limits territories code name r ≡ None
add_land_passes p q limits territories code name r fixed h =
    let a = next_test (not (is_code code)) _ _ h in
    let b = next_test (not (is_name name)) _ _ a.1 in
    let c = next_test (is_some (plain.entry_of code territories)) _ _ b.1 in
    let d = next_test (plain.is_style_refused p r) _ _ c.1 in
    rw (a.0, b.0, c.0, style_passes q r fixed) d.1

add_change_passes : (p q : Rules) (limits : Limits) (day : ℤ) (r : Regime) (t : TerritoryModel)
    → IsLonger p q → IsFixed r → plain.add_change_refusal p limits day r t ≡ None
    → plain.add_change_refusal q limits day r t ≡ None
add_change_passes p q limits day r t longer fixed h =
    let a = next_test (plain.is_off_line p day) _ _ h in
    let b = next_test (unsigned_abs day == 1) _ _ a.1 in
    let c = next_test (starts_on t (unsigned_abs day)) _ _ b.1 in
    let d = next_test (plain.is_style_refused p r) _ _ c.1 in
    rw (on_line p q day longer a.0, b.0, c.0, style_passes q r fixed) d.1

alter_change_passes : (p q : Rules) (day : ℤ) (r : Regime) (t : TerritoryModel) → IsLonger p q
    → IsFixed r → plain.alter_change_refusal p day r t ≡ None
    → plain.alter_change_refusal q day r t ≡ None
alter_change_passes p q day r t longer fixed h =
    let a = next_test (plain.is_off_line p day) _ _ h in
    let b = next_test (not (starts_on t (unsigned_abs day))) _ _ a.1 in
    rw (on_line p q day longer a.0, b.0, style_passes q r fixed) refl

drop_change_passes : (p q : Rules) (day : ℤ) (t : TerritoryModel) → IsLonger p q
    → plain.drop_change_refusal p day t ≡ None → plain.drop_change_refusal q day t ≡ None
drop_change_passes p q day t longer h =
    let a = next_test (plain.is_off_line p day) _ _ h in rw (on_line p q day longer a.0) a.1

add_exception_passes : (p q : Rules) (limits : Limits) (year day : ℤ) (t : TerritoryModel)
    → IsLonger p q → plain.add_exception_refusal p limits year day t ≡ None
    → plain.add_exception_refusal q limits year day t ≡ None
add_exception_passes p q limits year day t longer h =
    let a = next_test (plain.is_off_line p day) _ _ h in
    let b = next_test (plain.is_off_years p year) _ _ a.1 in
    rw (on_line p q day longer a.0, in_years p q year longer b.0) b.1

drop_exception_passes : (p q : Rules) (year : ℤ) (t : TerritoryModel) → IsLonger p q
    → plain.drop_exception_refusal p year t ≡ None → plain.drop_exception_refusal q year t ≡ None
drop_exception_passes p q year t longer h =
    let a = next_test (plain.is_off_years p year) _ _ h in rw (in_years p q year longer a.0) a.1

-- an edit that rules don't refuse
pub refusal_passes : (p q : Rules) (limits : Limits) (territories : List EntryModel) (e : Edit)
    → IsLonger p q → HasFixed e → refusal p limits territories e ≡ None →
    refusal q limits territories e ≡ None
refusal_passes p q limits territories (AddLand code name r source) longer fixed h =
    add_land_passes p q limits territories code name r fixed h
refusal_passes p q limits territories (AddChange code day r source) longer fixed h =
    territory_passes territories code _ _ (λ t. add_change_passes p q limits day r t longer fixed) h
refusal_passes p q limits territories (AlterChange code day r source) longer fixed h =
    territory_passes territories code _ _ (λ t. alter_change_passes p q day r t longer fixed) h
refusal_passes p q limits territories (DropChange code day) longer fixed h =
    territory_passes territories code _ _ (λ t. drop_change_passes p q day t longer) h
refusal_passes p q limits territories (AddException code year day source) longer fixed h =
    territory_passes territories code _ _ (λ t. add_exception_passes p q limits year day t longer) h
refusal_passes p q limits territories (DropException code year) longer fixed h =
    territory_passes territories code _ _ (λ t. drop_exception_passes p q year t longer) h

-- edits that are lawful in turn
pub lawful_passes : (p q : Rules) (limits : Limits) (territories : List EntryModel) (es : List Edit)
    → IsLonger p q → HaveFixed es → AreLawful p limits territories es →
    AreLawful q limits territories es
lawful_passes p q limits territories [] longer fixed h = tt
lawful_passes p q limits territories (e ∷ es) longer fixed h = (
  refusal_passes p q limits territories e longer fixed.0 h.0,
  lawful_passes p q limits (effect territories e) es longer fixed.1 h.1,
)

-- edits that are lawful under both do the same under both
applied-both : (p q : Rules) (limits : Limits) (territories : List EntryModel) (es : List Edit)
    → AreLawful p limits territories es → AreLawful q limits territories es
    → after_edits p limits territories es ≡ after_edits q limits territories es
applied-both p q limits territories [] h k = refl
applied-both p q limits territories (e ∷ es) h k =
    ap (λ ls. after_edits p limits ls es) (after_edit-lawful p limits territories e h.0)
    ∙ (applied-both p q limits (effect territories e) es h.1 k.1
    ∙ sym (ap (λ ls. after_edits q limits ls es) (after_edit-lawful q limits territories e k.0)))

-- edits that are lawful under the rules of the shorter line are applied alike under both rules
pub applied_passes : (p q : Rules) (limits : Limits) (territories : List EntryModel)
    (es : List Edit) → IsLonger p q → HaveFixed es → AreLawful p limits territories es
    → after_edits p limits territories es ≡ after_edits q limits territories es
applied_passes p q limits territories es longer fixed h =
    applied-both p q limits territories es h
    (lawful_passes p q limits territories es longer fixed h)
