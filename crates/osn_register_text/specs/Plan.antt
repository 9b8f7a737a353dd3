-- What a plan is: the edits that make a register's territories those of a target one.
use Rattle.std.specs.Prelude.{ℕ, ◌≡◌, true, List, [], None, is_some}
use Rattle.osn_days.specs.Rules.{newest_rules}
use Rattle.osn_register.specs.declared.limits.Limits.{Limits}
use Rattle.osn_register.specs.declared.edit.Edit.{Edit}
use Rattle.osn_register.specs.Lawful.{AreLawful}
use Rattle.osn_register.specs.Plain.{EntryModel, entry_of, after_edits}
use Rattle.osn_register.specs.SameEntry.{AreSameEntry}
use Rattle.osn_register_text.specs.NeededEdits.{AreNeeded}
use Rattle.osn_register_text.specs.PlanOrder.{AreInOrder}

-- every target territory is as in the target: its name, itself, and the source of each of its
-- periods and of each of its listed Easters
abbrev pub AgreeWithTarget : List EntryModel → List EntryModel → Type 0
AgreeWithTarget target territories = (code : List ℕ) → is_some (entry_of code target) ≡ true →
    AreSameEntry (entry_of code territories) (entry_of code target)

-- The edits take these territories to the target ones, under these limits. Each is lawful in its
-- turn, and needed then. After them each target territory is as in the target, and every other one
-- as before. If all are as in the target already, there are no edits. The edits of one
-- target territory are together, in the order of the target, and PlanOrder says in which order they
-- are.
pub record IsPlan (limits : Limits) (target territories : List EntryModel) (edits : List Edit)
    : Type 0
  where
    pub lawful : AreLawful newest_rules limits territories edits
    pub stand : AgreeWithTarget target (after_edits newest_rules limits territories edits)
    pub others : (code : List ℕ) → entry_of code target ≡ None →
        entry_of code (after_edits newest_rules limits territories edits)
        ≡ entry_of code territories
    pub needed : AreNeeded target territories edits
    pub idle : AgreeWithTarget target territories → edits ≡ []
    pub order : AreInOrder target edits
