-- The reply to a line: the sequential object's reply to its request, or its fault, which leaves the
-- object. The newest rules are those of every line.
use Rattle.std.specs.Prelude.{ℕ, Bool, true, false, if◌then◌else◌, List, length, Option, Some}
use Rattle.std.specs.Prelude.{None, is_some, Result, Ok, Err, ◌+◌}
use Rattle.osn_days.specs.Rules.{newest_rules}
use Rattle.osn_register.specs.declared.edit.Edit.{Edit}
use Rattle.osn_register.specs.declared.query.Query.{Query}
use Rattle.osn_register.specs.declared.refusal.Refusal.{Refusal}
use Rattle.osn_register.specs.Lawful.{source_given}
use Rattle.osn_core.specs.Sequential as object
use Rattle.osn_core.specs.Sequential.{ObjectState, stage_refusal, publish_refusal, reply_at}
use Rattle.osn_service.specs.declared.outcome.Outcome.{Outcome}
use Rattle.osn_service.specs.declared.outcome.Outcome.TheVariants.{Staged, Published, Refused}
use Rattle.osn_service.specs.declared.outcome.Outcome.TheVariants.{Fault, UnknownMember}
use Rattle.osn_service.specs.declared.outcome.Outcome.TheVariants.{Replied}
use Rattle.osn_request.specs.declared.request.Request.{Request}
use Rattle.osn_request.specs.declared.request.Request.TheVariants.{Stage, Publish, Ask}
use Rattle.osn_request.specs.declared.wire_fault.WireFault.{WireFault}
use Rattle.osn_request.specs.declared.wire_fault.WireFault.TheVariants.{ReadOnly, NeedsUpgrade}
use Rattle.osn_request.specs.Version.{newest_version}
use Rattle.osn_request.specs.Field.{◌>>=◌}
use Rattle.osn_request.specs.Request.{object_of, request}
use Rattle.osn_request.specs.Unknown.{unknown_in}
use Rattle.osn_service.specs.Outcome.{explained_if}
use Rattle.osn_service.specs.declared.rules.ServeRules.{ServeRules}

-- the rules of a service that takes edits from this many readers, also those that give a source.
-- All lines are answered, no reply has a message, and members that a request doesn't have are
-- ignored
abbrev pub editing : ℕ → ServeRules
editing readers = record {
  readers = readers;
  read_only = false;
  takes_sources = true;
  stop_at_refusal = false;
  explains = false;
  strict_members = false;
}

abbrev pub unless_refused : Option Refusal → Outcome → Outcome
unless_refused None outcome = outcome
unless_refused (Some f) outcome = Refused f

abbrev pub stage_outcome : ObjectState → Edit → Outcome
stage_outcome s e = unless_refused (stage_refusal newest_rules s e) (Staged (length s.pending + 1))

abbrev pub publish_outcome : ObjectState → Outcome
publish_outcome s = unless_refused (publish_refusal s) (Published (length s.batches + 1))

abbrev pub ask_outcome : ObjectState → ℕ → Query → Outcome
ask_outcome s reader q = Replied reader (reply_at newest_rules s.limits s.batches q)

-- the reply to a request, and the state that it leaves
abbrev pub request_outcome : ObjectState → Request → Outcome
request_outcome s (Stage e) = stage_outcome s e
request_outcome s Publish = publish_outcome s
request_outcome s (Ask reader q) = ask_outcome s reader q

abbrev pub request_after : ObjectState → Request → ObjectState
request_after s (Stage e) = object.stage_after newest_rules s e
request_after s Publish = object.publish_after s
request_after s (Ask reader q) = s

abbrev pub outcome_of : ObjectState → Result Request WireFault → Outcome
outcome_of s (Ok r) = request_outcome s r
outcome_of s (Err f) = Fault f

abbrev pub state_after : ObjectState → Result Request WireFault → ObjectState
state_after s (Ok r) = request_after s r
state_after s (Err f) = s

-- a request as a service takes it that refuses edits and publishes
abbrev pub reading : Request → Result Request WireFault
reading (Stage e) = Err ReadOnly
reading Publish = Err ReadOnly
reading (Ask reader q) = Ok (Ask reader q)

-- a request as a service takes it that refuses edits which give a source
abbrev pub without_source : Request → Result Request WireFault
without_source (Stage e) = if is_some (source_given e) then Err NeedsUpgrade else Ok (Stage e)
without_source Publish = Ok Publish
without_source (Ask reader q) = Ok (Ask reader q)

-- a line's request, by whether it may only read, and whether an edit may give a source
abbrev pub allowed_request : Bool → Bool → Result Request WireFault → Result Request WireFault
allowed_request true takes_sources r = r >>= reading
allowed_request false true r = r
allowed_request false false r = r >>= without_source

-- what a line requests
abbrev pub line_request : ServeRules → List ℕ → Result Request WireFault
line_request rules line =
    allowed_request rules.read_only rules.takes_sources (request newest_version rules.readers line)

-- the first member of a line that its request doesn't have, if such a member is refused
abbrev pub refused_member : ServeRules → List ℕ → Option (List ℕ)
refused_member rules line =
    if rules.strict_members then unknown_in (object_of line) else None

-- a line with a member that is refused is refused for it, whatever else is wrong with it
abbrev pub outcome_unless : Option (List ℕ) → Outcome → Outcome
outcome_unless None outcome = outcome
outcome_unless (Some name) outcome = UnknownMember name

abbrev pub after_unless : Option (List ℕ) → ObjectState → ObjectState → ObjectState
after_unless None s t = t
after_unless (Some name) s t = s

-- the reply to a line, and the state that it leaves
abbrev pub line_outcome : ServeRules → ObjectState → List ℕ → Outcome
line_outcome rules s line =
    explained_if rules.explains
    (outcome_unless (refused_member rules line) (outcome_of s (line_request rules line)))

abbrev pub line_after : ServeRules → ObjectState → List ℕ → ObjectState
line_after rules s line =
    after_unless (refused_member rules line) s (state_after s (line_request rules line))
