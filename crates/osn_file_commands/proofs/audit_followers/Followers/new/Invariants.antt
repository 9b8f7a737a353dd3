use Rattle.std.proofs.Common.{◌≡◌, length}
use Rattle.std.specs.List.{All}
use Rattle.osn_file_commands.specs.InsideFollowers.{IsPlace}
use Rattle.osn_file_commands.proofs.audit_followers.Followers.new.Given as goal

-- as many as were counted, each with no reply
abbrev pub invariant-loop : goal.invariant-loop
invariant-loop l = record {
  count : length l.places.items ≡ l.counter;
  each : All (IsPlace l.fn.object.limits l.fn.object.batches) l.places.items;
  first : All (λ p. p.last ≡ 0) l.places.items;
}
