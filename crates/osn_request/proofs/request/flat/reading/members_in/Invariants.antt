use Rattle.std.proofs.Common.{◌≡◌, ◌≤◌, ℕ, length}
use Rattle.json.specs.Json.{members, value}
use Rattle.serde_json.specs.Data.{no_members}
use Rattle.serde_json.specs.Read.{converted, of_members}
use Rattle.osn_request.specs.Flat.{put_all}
use Rattle.osn_request.proofs.request.flat.reading.members_in.Given as goal

-- The members that are left, put after those so far, are the members that are read of all.
abbrev pub invariant-loop-name : goal.invariant-loop-name
invariant-loop-name l =
    (n : ℕ) × (length l.reader ≤ n) × ((depth : ℕ) →
    converted (λ ms. of_members ms no_members)
    (members (value depth) (length l.initial.reader) l.initial.reader)
    ≡ converted (λ ms. of_members ms (put_all l.members.items))
    (members (value depth) n l.reader))

abbrev pub decreases-loop-name : goal.decreases-loop-name
decreases-loop-name l = length l.reader
