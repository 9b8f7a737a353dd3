use Rattle.std.proofs.Common.{◌≡◌, ◌+◌, ◌++◌, length, take, drop, string_bytes}
use Rattle.std.specs.List.{sum_by}
use Rattle.osn_page_commands.specs.EditionList as spec
use Rattle.osn_page_commands.proofs.editions.push_editions.Given as goal

-- the lines of the editions that are left are still to come, and each edit and publish so far is a
-- line of the journal
abbrev pub invariant-loop-place : goal.invariant-loop-place
invariant-loop-place l = record {
  text : string_bytes l.initial.out ++ spec.editions_lines 0 1 l.batches
      ≡ string_bytes l.out ++ spec.editions_lines l.place l.line (drop l.place l.batches);
  line : l.line ≡ 1 + (sum_by (λ b. length b) (take l.place l.batches) + l.place);
}
