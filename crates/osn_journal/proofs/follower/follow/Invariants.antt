use Rattle.std.proofs.Common.{◌≡◌, ◌≤◌, ◌*◌, List, length}
use Rattle.osn_service.specs.declared.outcome.Outcome.{Outcome}
use Rattle.osn_journal.specs.Arrivals.{Arrival, Arrive}
use Rattle.osn_journal.specs.FollowerInside.{HasFew, IsFollowing}
use Rattle.osn_journal.specs.Outcomes.{following}
use Rattle.osn_journal.proofs.follower.follow.Given as goal

-- exactly the replies by what has arrived are written
abbrev pub invariant-loop-call : goal.invariant-loop-call
invariant-loop-call g l =
    record {
      buffer : length l.buffer.items ≡ 65536;
      few : HasFew l.follower.requests;
      lines : l.follower.lines ≤ 196608 * l._call;
      limits : l.follower.journal.limits ≡ l.fn.limits;
      following : (arrivals : List Arrival) × (all : List Outcome)
          × Arrive (g.A.Arrivals.arrived l.fn.arrivals) (g.A.Arrivals.arrived l.arrivals) arrivals
          × IsFollowing (following l.fn.rules) l.follower.journal.limits
          (g.W.Sink.contents l.fn.sink) arrivals all l.follower (g.W.Sink.contents l.sink);
    }
