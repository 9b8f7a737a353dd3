use Rattle.std.proofs.Common.{◌≡◌, ◌↔◌, ℤ, rules}
use Rattle.jiff_core.specs.Calendar.{IsDate}
use Rattle.osn_days.proofs.gregorian.civil_date.Goals as goal

of_equal : (P : Type 0) (y m d year month day : ℤ) → y ≡ year → m ≡ month → d ≡ day
    → (P ↔ IsDate y m d) → (P ↔ IsDate year month day)
of_equal P y m d year month day e f g is = rw (← e, ← f, ← g) is

pub returns-clause-exists : goal.returns-clause-exists
returns-clause-exists c =
    rw (c.ok-4.ensures.variant)
    (of_equal _ _ _ _ _ _ _ (search rules) (search rules) (search rules) c.new.ensures.succeeds)
