-- What a follower has done when it ended.
use Rattle.std.specs.Prelude.{◌≡◌, ◌≤◌, ◌<◌, ◌+◌, ℕ, true, false, List, [], ◌∷◌, ◌++◌}
use Rattle.std.specs.Prelude.{take, length, Option, Result, Ok, Err, min}
use Rattle.std.specs.List.{All}
use Rattle.std.specs.Io.KnownBytes.{Appends}
use Rattle.osn_register.specs.declared.limits.Limits.{Limits}
use Rattle.osn_lines.specs.Streams.{Output}
use Rattle.osn_lines.specs.declared.fault.EndedEarly.{EndedEarly}
use Rattle.osn_service.specs.Outcome.{is_refused}
use Rattle.osn_service.specs.declared.outcome.Outcome.{Outcome}
use Rattle.osn_files.specs.Faults.{MatchFileFault}
use Rattle.osn_files.specs.declared.fault.FileFault.{FileFault}
use Rattle.osn_files.specs.declared.fault.Role.TheVariants.{Journal}
use Rattle.osn_folder.specs.declared.fault.FollowFault.{FollowFault}
use Rattle.osn_service.specs.Faults.{MatchServed}
use Rattle.osn_service.specs.Faults as service
use Rattle.osn_service.specs.declared.fault.ServeFault.{ServeFault}
use Rattle.osn_service.specs.declared.rules.ServeRules.{ServeRules}
use Rattle.osn_service.specs.declared.service.Served.{Served}
use Rattle.osn_journal.specs.declared.follower_fault.FollowerFault.{FollowerFault}
use Rattle.osn_journal.specs.declared.follower_fault.FollowerFault.TheVariants.{Serve}
use Rattle.osn_journal.specs.declared.follower_fault.FollowerFault.TheVariants.{Journal as Refused}
use Rattle.osn_journal.specs.declared.follower_fault.FollowerFault.TheVariants.{File}
use Rattle.osn_journal.specs.Arrivals.{Arrival, Arrive, Ended, Gained, file_of}
use Rattle.osn_journal.specs.Outcomes.{outcomes_of, texts, journal_object}

-- ---- what is written

-- the replies to the first n of these outcomes were written, and nothing else
pub record WritesFirst (all : List Outcome) (old new : Option (List ℕ)) (n : ℕ) : Type 0 where
  pub enough : n ≤ length all
  pub written : Appends old new (texts (take n all))

-- all of them were, and there are n
pub record WritesAll (all : List Outcome) (old new : Option (List ℕ)) (n : ℕ) : Type 0 where
  pub count : n ≡ length all
  pub written : Appends old new (texts all)

-- a prefix of all replies was written, with those to n outcomes whole and no more
pub record WritesInPart (all : List Outcome) (old new : Option (List ℕ)) (n : ℕ) : Type 0 where
  pub bytes : ℕ
  pub enough : n ≤ length all
  pub written : Appends old new (take bytes (texts all))
  pub whole : length (texts (take n all)) ≤ bytes
  pub no_more : n < length all → bytes < length (texts (take (n + 1) all))

-- ---- how it ends

-- the last of the first n outcomes is refused, and none before it
pub record IsFirstRefused (all : List Outcome) (n : ℕ) : Type 0 where
  pub before : List Outcome
  pub last : Outcome
  pub split : take n all ≡ before ++ last ∷ []
  pub none : All (λ outcome. is_refused outcome ≡ false) before
  pub refused : is_refused last ≡ true

-- the input has ended, and the file was looked at another time after that
abbrev pub IsAtEnd : List Arrival → Type 0
IsAtEnd arrivals =
    (before : List Arrival) × (bytes : List ℕ) × (arrivals ≡ before ++ Ended ∷ Gained bytes ∷ [])

-- why the journal of a file is not loaded: its first line that is refused, by its number, or by the
-- greatest number that can be given
abbrev pub IsRefused : Limits → List ℕ → FileFault → Type 0
IsRefused limits file fault =
    MatchFileFault fault ⊥ ⊥ (λ role line why.
    (role ≡ Journal) × (n : ℕ) × (journal_object limits file ≡ Err (n, why))
    × (line ≡ min n 18446744073709551615))

-- a fact for each cause for which not all lines were answered
abbrev pub MatchFollower : FollowerFault → (ServeFault → Type 0) → (FileFault → Type 0)
    → (FollowFault → Type 0) → Type 0
MatchFollower (Serve fault) P Q R = P fault
MatchFollower (Refused fault) P Q R = Q fault
MatchFollower (File fault) P Q R = R fault

-- none of these is refused, if a refusal ends the service
abbrev pub HasNoRefusal : ServeRules → List Outcome → Type 0
HasNoRefusal rules all =
    rules.stop_at_refusal ≡ true → All (λ outcome. is_refused outcome ≡ false) all

-- what was done if it ended early, after n lines
abbrev pub EndsEarly : Limits → List Arrival → List Outcome → Option (List ℕ) → Option (List ℕ)
    → ℕ → FollowerFault → Type 0
EndsEarly limits arrivals all old new n cause = MatchFollower cause
    (λ fault. service.MatchFault fault (WritesFirst all old new n) (WritesAll all old new n)
    (WritesInPart all old new n))
    (λ fault. WritesAll all old new n × IsRefused limits (file_of arrivals) fault)
    (λ fault. WritesAll all old new n)

-- what was done by the end. All lines were answered, and no line is refused if a refusal ends the
-- service; or the last one is refused, and a refusal ends the service.
abbrev pub Ends : ServeRules → Limits → List Arrival → List Outcome → Option (List ℕ)
    → Option (List ℕ) → Result Served (EndedEarly FollowerFault) → Type 0
Ends rules limits arrivals all old new (Ok served) =
    MatchServed served.refused
    (λ n. WritesAll all old new n × IsAtEnd arrivals × HasNoRefusal rules all)
    (λ n. WritesFirst all old new n × IsFirstRefused all n × (rules.stop_at_refusal ≡ true))
    served.lines
Ends rules limits arrivals all old new (Err end) =
    EndsEarly limits arrivals all old new end.lines end.cause

-- A follower ran by these rules. What arrived, in order, is `arrivals`, and exactly the outcomes of
-- that were written.
pub record Follows (rules : ServeRules) (limits : Limits) (before after : Option (List Arrival))
    (o : Output) (result : Result Served (EndedEarly FollowerFault)) : Type 0 where
  pub arrivals : List Arrival
  pub arrive : Arrive before after arrivals
  pub ended : Ends rules limits arrivals (outcomes_of rules limits [] [] arrivals)
      o.old o.new result
