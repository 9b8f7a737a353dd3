use Rattle.std.proofs.Common.{◌≡◌, ◌++◌, take, string_bytes}
use Rattle.std.specs.List.{flat_map}
use Rattle.osn_days.specs.Rules.{newest_rules}
use Rattle.osn_pages.specs.Why as spec
use Rattle.osn_pages.proofs.why.push_skips.Given as goal

-- the lines so far
abbrev pub invariant-loop-change : goal.invariant-loop-change
invariant-loop-change l =
    string_bytes l.out ≡ string_bytes l.initial.out
    ++ flat_map (spec.skip_lines newest_rules l.territory l.sources l.date)
    (take l.change-index l.changes)
