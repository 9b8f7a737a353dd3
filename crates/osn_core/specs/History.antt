-- History: the calls of the sequential object that a list of steps and outs amounts to, in the
-- order of the steps. It is read from the steps and the outs alone. An ask is at the check by which
-- its reader entered, so the replies to readers come later than their asks.
use Rattle.std.specs.Prelude.{◌≡◌, ℕ, ◌≤◌, ◌==◌, if◌then◌else◌, Bool, true, false, List, [], ◌∷◌}
use Rattle.std.specs.Prelude.{◌++◌, map, Option, Some, None}
use Rattle.std.specs.List.{filter}
use Rattle.osn_days.specs.Rules.{Rules}
use Rattle.osn_register.specs.declared.edit.Edit.{Edit}
use Rattle.osn_register.specs.declared.query.Query.{Query}
use Rattle.osn_core.specs.declared.step.Reply.{Reply}
use Rattle.osn_core.specs.declared.step.Step.{Step}
use Rattle.osn_core.specs.declared.step.Step.TheVariants.{Look, Check, Stage, Publish}
use Rattle.osn_core.specs.declared.step.Out.{Out}
use Rattle.osn_core.specs.declared.step.Out.TheVariants.{Moved, Entered, Staged, Published}
use Rattle.osn_core.specs.declared.step.Out.TheVariants.{Refused, Replied}
use Rattle.osn_core.specs.Sequential.{ObjectState, reply_at, stage_out, stage_after, publish_out}
use Rattle.osn_core.specs.Sequential.{publish_after}

pub data Call : Type 0 where
  Stages : Edit → Call
  Publishes : Call
  Asks : ℕ → Query → Call

-- what the sequential object answers a call, and what it leaves
abbrev pub out_to : Rules → ObjectState → Call → Out
out_to p s (Stages edit) = stage_out p s edit
out_to p s Publishes = publish_out s
out_to p s (Asks reader query) = Replied reader (reply_at p s.limits s.batches query)

abbrev pub state_after : Rules → ObjectState → Call → ObjectState
state_after p s (Stages edit) = stage_after p s edit
state_after p s Publishes = publish_after s
state_after p s (Asks reader query) = s

-- what the sequential object answers these calls, run on them in order
abbrev pub outs_to : Rules → ObjectState → List Call → List Out
outs_to p s [] = []
outs_to p s (call ∷ calls) = out_to p s call ∷ outs_to p (state_after p s call) calls

-- the query of each reader's last look that moved
abbrev pub Looks : Type 0
Looks = ℕ → Option Query

abbrev pub no_looks : Looks
no_looks reader = None

abbrev pub looks_after : Looks → Step → Out → Looks
looks_after looks (Look reader query) Moved =
    λ other. if reader == other then Some query else looks other
looks_after looks step out = looks

abbrev pub ask_of : Option Query → ℕ → List Call
ask_of (Some query) reader = Asks reader query ∷ []
ask_of None reader = []

-- the call, if any, that a step with this out is: a stage or a publish, taken or refused, or a
-- check that entered. The check asks for the query of the reader's last look that moved
abbrev pub call_of : Looks → Step → Out → List Call
call_of looks (Stage edit) (Staged n) = Stages edit ∷ []
call_of looks (Stage edit) (Refused f) = Stages edit ∷ []
call_of looks Publish (Published n) = Publishes ∷ []
call_of looks Publish (Refused f) = Publishes ∷ []
call_of looks (Check reader) Entered = ask_of (looks reader) reader
call_of looks step out = []

abbrev pub calls_of : Looks → List Step → List Out → List Call
calls_of looks [] outs = []
calls_of looks (step ∷ steps) [] = []
calls_of looks (step ∷ steps) (out ∷ outs) =
    call_of looks step out ++ calls_of (looks_after looks step out) steps outs

abbrev pub history : List Step → List Out → List Call
history steps outs = calls_of no_looks steps outs

-- whether an out is one to the editor, and the outs to the editor, in order
abbrev pub is_editors : Out → Bool
is_editors (Staged n) = true
is_editors (Published n) = true
is_editors (Refused f) = true
is_editors out = false

abbrev pub editor_outs : List Out → List Out
editor_outs outs = filter is_editors outs

abbrev pub reply_to : ℕ → Out → List Reply
reply_to reader (Replied to reply) = if to == reader then reply ∷ [] else []
reply_to reader out = []

-- the replies to a reader, in order
abbrev pub replies_to : ℕ → List Out → List Reply
replies_to reader [] = []
replies_to reader (out ∷ outs) = reply_to reader out ++ replies_to reader outs

-- replies are the first of others, and lack some at the end
pub record Begin (replies all : List Reply) : Type 0 where
  pub rest : List Reply
  pub is : replies ++ rest ≡ all

-- the editions that a reader was given, in order
abbrev pub editions_to : ℕ → List Out → List ℕ
editions_to reader outs = map (λ (reply : Reply). reply.edition) (replies_to reader outs)

-- from a floor on, no number is less than the one before it
abbrev pub NeverFalls : ℕ → List ℕ → Type 0
NeverFalls floor [] = Unit {0}
NeverFalls floor (n ∷ ns) = (floor ≤ n) × NeverFalls n ns
