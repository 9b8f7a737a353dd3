use Rattle.std.proofs.Common.{◌≡◌, ◌++◌, take, string_bytes}
use Rattle.osn_pages.specs.Reading as spec
use Rattle.osn_pages.proofs.reading.push_days.Given as goal

-- the lines so far
abbrev pub invariant-loop-dated : goal.invariant-loop-dated
invariant-loop-dated l =
    string_bytes l.out ≡ string_bytes l.initial.out
    ++ spec.days_text l.date l.given (take l.dated-index l.days)
