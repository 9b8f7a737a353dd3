-- What the service that follows a journal has done.
use Rattle.std.specs.Prelude.{ℕ, List, None, Option, Result, Ok, Err}
use Rattle.osn_register.specs.declared.limits.Limits.{Limits}
use Rattle.osn_lines.specs.Streams.{Output}
use Rattle.osn_lines.specs.declared.fault.EndedEarly.{EndedEarly}
use Rattle.osn_service.specs.Faults.{MatchServed}
use Rattle.osn_service.specs.declared.rules.ServeRules.{ServeRules}
use Rattle.osn_service.specs.declared.service.Served.{Served}
use Rattle.osn_journal.specs.Arrivals.{Arrival}
use Rattle.osn_journal.specs.Follows.{Follows}
use Rattle.osn_journal.specs.Outcomes.{following}
use Rattle.osn_journal.specs.declared.follower_fault.FollowerFault.{FollowerFault}
use Rattle.osn_journal.specs.declared.follower_fault.FollowerFault.TheVariants as follower
use Rattle.osn_report.specs.Messages.{Ends, Reports, ReportsAt}
use Rattle.osn_report.specs.declared.fault.CommandFault.{CommandFault}
use Rattle.osn_report.specs.declared.fault.CommandFault.TheVariants.{File, FollowedFile, Service}
use Rattle.osn_report.specs.declared.fault.CommandFault.TheVariants.{RefusedLine}
use Rattle.osn_report.specs.declared.status.Status.{Status}

-- the fault of the command if following ended early
abbrev pub fault_of : FollowerFault → CommandFault
fault_of (follower.Serve why) = Service why
fault_of (follower.Journal why) = File why
fault_of (follower.File why) = FollowedFile why

-- what was reported on standard error if following the file of this path ended so
abbrev pub ReportsFollowed : List ℕ → Result Served (EndedEarly FollowerFault) → Output → Status
    → Type 0
ReportsFollowed path (Ok served) e status =
    MatchServed served.refused (λ n. Ends e None status) (λ n. Reports e (RefusedLine n) status)
    served.lines
ReportsFollowed path (Err end) e status = ReportsAt path e (fault_of end.cause) status

-- The journal was followed, and each line of the input answered from it, or it ended early, which
-- was reported on standard error.
pub record EndsFollowed (limits : Limits) (path : List ℕ) (rules : ServeRules)
    (before after : Option (List Arrival)) (o e : Output) (status : Status) : Type 0 where
  pub result : Result Served (EndedEarly FollowerFault)
  pub follows : Follows (following rules) limits before after o result
  pub reports : ReportsFollowed path result e status
