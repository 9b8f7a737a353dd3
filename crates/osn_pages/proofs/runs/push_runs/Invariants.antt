use Rattle.std.proofs.Common.{◌≡◌, ◌++◌, take, string_bytes}
use Rattle.osn_days.specs.Rules.{newest_rules}
use Rattle.osn_pages.specs.Runs as spec
use Rattle.osn_pages.proofs.runs.push_runs.Given as goal

-- the lines so far
abbrev pub invariant-loop-run : goal.invariant-loop-run
invariant-loop-run l =
    string_bytes l.out ≡ string_bytes l.initial.out
    ++ spec.runs_text newest_rules l.territory l.kind (take l.run-index l.runs)
