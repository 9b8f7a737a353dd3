use Rattle.std.proofs.Common.{◌≡◌, ◌++◌, drop, string_bytes}
use Rattle.osn_register_text.specs.PlanPage.{absent_codes}
use Rattle.osn_register_text.proofs.page.push_absent_codes.Given as goal

-- the codes of the territories that are left are still to come
abbrev pub invariant-loop-index : goal.invariant-loop-index
invariant-loop-index l =
    string_bytes l.initial.out ++ absent_codes l.target.territories l.register.territories
    ≡ string_bytes l.out ++ absent_codes l.target.territories (drop l.index l.register.territories)
