-- The outcomes of a follower: at each look at the file, the lines that have come whole since the
-- look before are answered from the journal that the file then contains.
use Rattle.std.specs.Prelude.{ℕ, true, List, [], ◌∷◌, ◌++◌, map}
use Rattle.std.specs.Prelude.{Result, Ok, Err}
use Rattle.std.specs.List.{flat_map}
use Rattle.osn_days.specs.Rules.{newest_rules}
use Rattle.osn_register.specs.declared.limits.Limits.{Limits}
use Rattle.osn_core.specs.Sequential.{ObjectState, empty_object}
use Rattle.osn_lines.specs.LastLineFeed.{ended_bytes, unended_bytes}
use Rattle.osn_lines.specs.Lines.{lines}
use Rattle.osn_service.specs.ReplyText.{reply_line}
use Rattle.osn_service.specs.declared.outcome.Outcome.{Outcome}
use Rattle.osn_files.specs.Journal.{load}
use Rattle.osn_files.specs.declared.fault.LineFault.{LineFault}
use Rattle.osn_service.specs.Session.{line_outcome}
use Rattle.osn_service.specs.declared.rules.ServeRules.{ServeRules}
use Rattle.osn_journal.specs.Arrivals.{Arrival, Requests, Ended, Gained}

-- ---- the lines of the input

-- a line feed, if some bytes of a line are after the last one
abbrev pub missing_feed : List ℕ → List ℕ
missing_feed [] = []
missing_feed (b ∷ bs) = 10 ∷ []

-- the bytes with the line feed that their last line may lack
abbrev pub with_feed : List ℕ → List ℕ
with_feed bytes = bytes ++ missing_feed (unended_bytes bytes)

-- ---- the journal that a file contains

-- the object of a journal of these lines: an empty one if it has none yet
abbrev pub object_of : Limits → List (List ℕ) → Result ObjectState (ℕ × LineFault)
object_of limits [] = Ok (empty_object limits)
object_of limits (head ∷ rest) = load newest_rules limits (head ∷ rest)

-- the object of a file of these whole lines, or the first that is refused
abbrev pub journal_object : Limits → List ℕ → Result ObjectState (ℕ × LineFault)
journal_object limits file = object_of limits (lines file)

-- ---- the outcomes

-- the rules of a follower: no line changes anything
abbrev pub following : ServeRules → ServeRules
following rules = record rules { read_only = true }

-- the outcomes of the lines of a text, by an object
abbrev pub outcomes : ServeRules → ObjectState → List ℕ → List Outcome
outcomes rules s text = map (line_outcome rules s) (lines text)

-- the outcomes of a text, and then the rest; empty if the journal has a line that is refused
abbrev pub outcomes_then : ServeRules → Result ObjectState (ℕ × LineFault) → List ℕ → List Outcome
    → List Outcome
outcomes_then rules (Ok s) text rest = outcomes rules s text ++ rest
outcomes_then rules (Err refused) text rest = []

-- the outcomes of arrivals, if the file contained these bytes before, and these bytes of request
-- lines wait
abbrev pub outcomes_of : ServeRules → Limits → List ℕ → List ℕ → List Arrival → List Outcome
outcomes_of rules limits file pending_bytes [] = []
outcomes_of rules limits file pending_bytes (Requests bytes ∷ rest) =
    outcomes_of rules limits file (pending_bytes ++ bytes) rest
outcomes_of rules limits file pending_bytes (Ended ∷ rest) =
    outcomes_of rules limits file (with_feed pending_bytes) rest
outcomes_of rules limits file pending_bytes (Gained bytes ∷ rest) =
    outcomes_then rules (journal_object limits (file ++ bytes)) (ended_bytes pending_bytes)
    (outcomes_of rules limits (file ++ bytes) (unended_bytes pending_bytes) rest)

-- the reply lines of outcomes
abbrev pub texts : List Outcome → List ℕ
texts = flat_map reply_line
