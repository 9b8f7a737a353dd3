-- The steps in the lines of a schedule, which has no head. They are the steps of one editor and of
-- a number of readers, in the order of the lines. This project's profile.
use Rattle.std.specs.Prelude.{ℕ, List, [], ◌∷◌, ◌++◌, codes, Option, Some, Result, Ok, Err}
use Rattle.serde_json.specs.Data.{Data}
use Rattle.osn_days.specs.Keyword.{meaning}
use Rattle.osn_core.specs.declared.step.Step.{Step}
use Rattle.osn_core.specs.declared.step.Step.TheVariants as steps
use Rattle.osn_request.specs.declared.member.Member.TheVariants as members
use Rattle.osn_request.specs.declared.request.op.Op.{Op}
use Rattle.osn_request.specs.declared.request.op.Op.TheVariants as ops
use Rattle.osn_request.specs.declared.wire_fault.WireFault.{WireFault}
use Rattle.osn_request.specs.declared.wire_fault.WireFault.TheVariants.{UnknownOp, UnknownStep}
use Rattle.osn_request.specs.EditRequest.{edit_of}
use Rattle.osn_request.specs.Field.{◌>>=◌, or_fault, text_at, whole_at}
use Rattle.osn_request.specs.Op.{op_of}
use Rattle.osn_request.specs.QueryRequest.{query_of, reader_in}
use Rattle.osn_request.specs.declared.version.Version.{Version}
use Rattle.osn_request.specs.Version.{newest_version}
use Rattle.osn_files.specs.declared.fault.LineFault.{LineFault}
use Rattle.osn_files.specs.declared.step_line.StepKind.{StepKind}
use Rattle.osn_files.specs.declared.step_line.StepKind.TheVariants as kinds
use Rattle.osn_files.specs.Turns.{on_read, in_turn}

-- the kind of step of a word
abbrev pub kind_named : List ℕ → Option StepKind
kind_named = meaning (
    (codes "look", kinds.Look)
    ∷ (codes "pin", kinds.Pin)
    ∷ (codes "check", kinds.Check)
    ∷ (codes "answer", kinds.Answer)
    ∷ (codes "leave", kinds.Leave)
    ∷ (codes "stage", kinds.Stage)
    ∷ (codes "publish", kinds.Publish)
    ∷ (codes "claim", kinds.Claim)
    ∷ (codes "absorb", kinds.Absorb)
    ∷ [])

-- the kind of step of an object
abbrev pub kind_of : Data → Result StepKind WireFault
kind_of d = text_at members.Step d >>= λ word. or_fault UnknownStep (kind_named word)

-- the look of an object whose op is this one
abbrev pub look_by : ℕ → Data → Op → Result Step WireFault
look_by readers d (ops.Edit op) = Err UnknownOp
look_by readers d ops.Publish = Err UnknownOp
look_by readers d (ops.Query op) =
    query_of readers op d >>= λ asked. Ok (steps.Look asked.0 asked.1)

-- the look of an object
abbrev pub look_of : ℕ → Data → Result Step WireFault
look_of readers d = op_of d >>= look_by readers d

-- the edit that an object stages whose op is this one
abbrev pub stage_by : Version → Data → Op → Result Step WireFault
stage_by v d (ops.Edit op) = edit_of v op d >>= λ e. Ok (steps.Stage e)
stage_by v d ops.Publish = Err UnknownOp
stage_by v d (ops.Query op) = Err UnknownOp

-- the edit that an object stages, as a step
abbrev pub stage_of : Version → Data → Result Step WireFault
stage_of v d = op_of d >>= stage_by v d

-- the reader of an object
abbrev pub reader_of : ℕ → Data → Result ℕ WireFault
reader_of readers d = whole_at members.Reader d >>= reader_in readers

-- the step of an object that is of this kind
abbrev pub step_by : Version → ℕ → Data → StepKind → Result Step WireFault
step_by v readers d kinds.Look = look_of readers d
step_by v readers d kinds.Pin = reader_of readers d >>= λ r. Ok (steps.Pin r)
step_by v readers d kinds.Check = reader_of readers d >>= λ r. Ok (steps.Check r)
step_by v readers d kinds.Answer = reader_of readers d >>= λ r. Ok (steps.Answer r)
step_by v readers d kinds.Leave = reader_of readers d >>= λ r. Ok (steps.Leave r)
step_by v readers d kinds.Stage = stage_of v d
step_by v readers d kinds.Publish = Ok steps.Publish
step_by v readers d kinds.Claim = Ok steps.Claim
step_by v readers d kinds.Absorb = Ok steps.Absorb

-- the step of an object
abbrev pub step_in : Version → ℕ → Data → Result Step WireFault
step_in v readers d = kind_of d >>= step_by v readers d

-- the steps, with that of a line's object, which is read by the rules of a version
abbrev pub with_step : ℕ → Version → List Step → Data → Result (List Step) LineFault
with_step readers version done d =
    on_read (step_in version readers d) (λ step. Ok (done ++ step ∷ []))

-- the steps of a schedule's lines, or the first fault and the number of its line, counted from 1
abbrev pub schedule : ℕ → List (List ℕ) → Result (List Step) (ℕ × LineFault)
schedule readers = in_turn (with_step readers) 1 (Some newest_version) []
