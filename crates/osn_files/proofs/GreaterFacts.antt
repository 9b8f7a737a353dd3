-- What limits don't refuse, greater ones don't refuse either, and edits that they allow make the
-- same territories under both.
use Rattle.std.proofs.Common.{◌≡◌, ℕ, suc, ◌≤◌, ◌<◌, ◌==◌, Bool, true, false, not, cond, nat_le}
use Rattle.std.proofs.Common.{nat_lt, ℤ, List, [], ◌∷◌, length, Option, Some, None, is_some}
use Rattle.std.proofs.Common.{unsigned_abs, refl, sym, ap, ◌∙◌, arith}
use Rattle.std.proofs.lemmas.Bool.{leb-false, lt-leb, ltb-true, lt-ltb, false≢true}
use Rattle.osn_days.specs.Rules.{Rules}
use Rattle.osn_territory.specs.declared.regime.Regime.{Regime}
use Rattle.osn_territory.specs.Changes.{starts_on}
use Rattle.osn_territory.specs.Exceptions.{exception_of}
use Rattle.osn_territory.specs.Territory.{TerritoryModel}
use Rattle.osn_register.specs.declared.edit.Edit.{Edit}
use Rattle.osn_register.specs.declared.edit.Edit.TheVariants.{AddLand, AddChange, AlterChange}
use Rattle.osn_register.specs.declared.edit.Edit.TheVariants.{DropChange, AddException}
use Rattle.osn_register.specs.declared.edit.Edit.TheVariants.{DropException}
use Rattle.osn_register.specs.declared.limits.Limits.{Limits}
use Rattle.osn_register.specs.declared.refusal.Refusal.{Refusal}
use Rattle.osn_register.specs.Code.{is_code, is_name}
use Rattle.osn_register.specs.Lawful.{AreLawful}
use Rattle.osn_register.specs.Plain as plain
use Rattle.osn_register.specs.Plain.{EntryModel, refusal, effect, after_edits}
use Rattle.osn_register.specs.Refusal.{or_else}
use Rattle.osn_core.proofs.Lawful.{after_edit-lawful}
use Rattle.osn_files.specs.GreaterLimits.{AreGreater}
use Rattle.osn_files.proofs.CommandFacts.{next_test, both_none}

-- a limit that a count has not reached is not reached if it is greater
not_reached : (limit greater count : ℕ) → limit ≤ greater → nat_le limit count ≡ false
    → nat_le greater count ≡ false
not_reached limit greater count more h =
    let below : count < limit = leb-false limit count h in
    lt-leb greater count (omega (arith, more, below))

-- nor passed
not_passed : (limit greater count : ℕ) → limit ≤ greater → nat_lt limit count ≡ false
    → nat_lt greater count ≡ false
not_passed limit greater count more h =
    not_reached (suc limit) (suc greater) count (omega (arith, more)) h

room_by : (b : Bool) (f : Refusal) → cond b None (Some f) ≡ None → b ≡ true
room_by true f h = refl
room_by false f h = absurd (false≢true (sym (ap is_some h)))

-- if there is room below a limit, there is below a greater one
pub room_passes : (limit greater count : ℕ) (f : Refusal) → limit ≤ greater
    → cond (nat_lt count limit) None (Some f) ≡ None
    → cond (nat_lt count greater) None (Some f) ≡ None
room_passes limit greater count f more h =
    let below : count < limit = ltb-true count limit (room_by (nat_lt count limit) f h) in
    ap (λ b. cond b None (Some f)) (lt-ltb count greater (omega (arith, more, below)))

-- a territory that doesn't refuse by one rule doesn't by another that refuses no more
inside_both : (f g : TerritoryModel → Option Refusal)
    → ((t : TerritoryModel) → f t ≡ None → g t ≡ None) → (o : Option TerritoryModel)
    → plain.inside f o ≡ None → plain.inside g o ≡ None
inside_both f g each None h = refl
inside_both f g each (Some t) h = each t h

module _ (p : Rules) {limits greater : Limits} (more : AreGreater limits greater) where
  add_land_passes : (territories : List EntryModel) (code name : List ℕ) (r : Regime)
      → plain.add_land_refusal p limits territories code name r ≡ None
      → plain.add_land_refusal p greater territories code name r ≡ None
  add_land_passes territories code name r h =
      let a = next_test (not (is_code code)) _ _ h in
      let b = next_test (not (is_name name)) _ _ a.1 in
      let c = next_test (is_some (plain.entry_of code territories)) _ _ b.1 in
      let d = next_test (plain.is_style_refused p r) _ _ c.1 in
      let e = next_test (nat_le limits.lands (length territories)) _ _ d.1 in
      rw (
        a.0,
        b.0,
        c.0,
        d.0,
        not_reached limits.lands greater.lands (length territories) more.lands e.0,
      ) refl

  add_change_passes : (day : ℤ) (r : Regime) (t : TerritoryModel)
      → plain.add_change_refusal p limits day r t ≡ None
      → plain.add_change_refusal p greater day r t ≡ None
  add_change_passes day r t h =
      let a = next_test (plain.is_off_line p day) _ _ h in
      let b = next_test (unsigned_abs day == 1) _ _ a.1 in
      let c = next_test (starts_on t (unsigned_abs day)) _ _ b.1 in
      let d = next_test (plain.is_style_refused p r) _ _ c.1 in
      let e = next_test (nat_lt limits.changes (length t.starts)) _ _ d.1 in
      let below =
      not_passed limits.changes greater.changes (length t.starts) more.changes e.0 in
      rw (a.0, b.0, c.0, d.0, below) refl

  add_exception_passes : (year day : ℤ) (t : TerritoryModel)
      → plain.add_exception_refusal p limits year day t ≡ None
      → plain.add_exception_refusal p greater year day t ≡ None
  add_exception_passes year day t h =
      let a = next_test (plain.is_off_line p day) _ _ h in
      let b = next_test (plain.is_off_years p year) _ _ a.1 in
      let c = next_test (is_some (exception_of t (unsigned_abs year))) _ _ b.1 in
      let d = next_test (nat_le limits.exceptions (length t.exceptions)) _ _ c.1 in
      let below =
      not_reached limits.exceptions greater.exceptions (length t.exceptions) more.exceptions d.0 in
      rw (a.0, b.0, c.0, below) refl

  in_territory : (territories : List EntryModel) (code : List ℕ)
      (f g : TerritoryModel → Option Refusal) → ((t : TerritoryModel) → f t ≡ None → g t ≡ None)
      → plain.refusal_in territories code f ≡ None → plain.refusal_in territories code g ≡ None
  in_territory territories code f g each h =
      let parts = both_none (plain.code_refusal territories code) _ h in
      ap (λ r. or_else r (plain.inside g (plain.territory_of code territories))) parts.0
      ∙ inside_both f g each (plain.territory_of code territories) parts.1

  -- an edit that limits don't refuse
  pub refusal_under : (territories : List EntryModel) (e : Edit) → refusal p limits territories e
      ≡ None → refusal p greater territories e ≡ None
  refusal_under territories (AddLand code name r source) h =
      add_land_passes territories code name r h
  refusal_under territories (AddChange code day r source) h =
      in_territory territories code _ _ (add_change_passes day r) h
  refusal_under territories (AlterChange code day r source) h = h
  refusal_under territories (DropChange code day) h = h
  refusal_under territories (AddException code year day source) h =
      in_territory territories code _ _ (add_exception_passes year day) h
  refusal_under territories (DropException code year) h = h

  -- edits that are lawful in turn make the same territories
  pub territories_under : (territories : List EntryModel) (es : List Edit) →
      AreLawful p limits territories es
      → after_edits p limits territories es ≡ after_edits p greater territories es
  territories_under territories [] h = refl
  territories_under territories (e ∷ es) h =
      ap (λ ls. after_edits p limits ls es) (after_edit-lawful p limits territories e h.0)
      ∙ (territories_under (effect territories e) es h.1
      ∙ sym (ap (λ ls. after_edits p greater ls es)
      (after_edit-lawful p greater territories e (refusal_under territories e h.0))))
