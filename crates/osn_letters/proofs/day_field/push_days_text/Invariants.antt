use Rattle.std.proofs.Common.{◌≡◌, ◌++◌, take}
use Rattle.osn_letters.specs.Fields.{days_text}
use Rattle.osn_letters.proofs.day_field.push_days_text.Given as goal

-- the days so far
abbrev pub invariant-loop-index : goal.invariant-loop-index
invariant-loop-index l =
    l.text.items ≡ l.fn.text.items ++ days_text (take l.index l.days) l.field
