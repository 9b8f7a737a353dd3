-- Which outcomes of a line are refusals, and which have a message for people.
use Rattle.std.specs.Prelude.{ℕ, Bool, true, false, is_some, if◌then◌else◌, Option, Some, None}
use Rattle.osn_core.specs.declared.step.Reply.{Reply}
use Rattle.osn_register.specs.Answer.{refusal_in}
use Rattle.osn_register.specs.declared.refusal.Refusal.{Refusal}
use Rattle.osn_service.specs.declared.outcome.Outcome.{Outcome}
use Rattle.osn_service.specs.declared.outcome.Outcome.TheVariants.{Staged, Published, Refused}
use Rattle.osn_service.specs.declared.outcome.Outcome.TheVariants.{Fault, UnknownMember, Explained}
use Rattle.osn_service.specs.declared.outcome.Outcome.TheVariants.{Replied}
use Rattle.osn_service.specs.declared.outcome.Rejection.TheVariants.{Change, Line, Member, Query}

-- a reply is a refusal, or the fault of its line
abbrev pub is_refused : Outcome → Bool
is_refused (Staged pending) = false
is_refused (Published edition) = false
is_refused (Refused refusal) = true
is_refused (Fault fault) = true
is_refused (UnknownMember name) = true
is_refused (Explained rejection) = true
is_refused (Replied reader reply) = is_some (refusal_in reply.answer)

-- the outcome of a query, with a message if it was refused
abbrev pub explained_reply : ℕ → Reply → Option Refusal → Outcome
explained_reply reader reply None = Replied reader reply
explained_reply reader reply (Some refusal) = Explained (Query reader reply.edition refusal)

-- an outcome with a message for people, if it is a refusal or a fault
abbrev pub explained : Outcome → Outcome
explained (Staged pending) = Staged pending
explained (Published edition) = Published edition
explained (Refused refusal) = Explained (Change refusal)
explained (Fault fault) = Explained (Line fault)
explained (UnknownMember name) = Explained (Member name)
explained (Explained rejection) = Explained rejection
explained (Replied reader reply) = explained_reply reader reply (refusal_in reply.answer)

-- an outcome, with its message if messages are asked for
abbrev pub explained_if : Bool → Outcome → Outcome
explained_if explains outcome = if explains then explained outcome else outcome
