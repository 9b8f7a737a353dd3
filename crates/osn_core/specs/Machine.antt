-- The machine: what each step gives, and what it leaves, from control and the sequential object.
use Rattle.std.specs.Prelude.{ℕ, Bool, true, false, ◌-◌, ◌==◌, ◌&&◌, nat_le, if◌then◌else◌, List}
use Rattle.std.specs.Prelude.{[], ◌∷◌, length, take, Option, Some, None}
use Rattle.osn_days.specs.Rules.{Rules}
use Rattle.osn_register.specs.declared.limits.Limits.{Limits}
use Rattle.osn_register.specs.declared.refusal.Refusal.{Refusal}
use Rattle.osn_register.specs.declared.refusal.Refusal.TheVariants.{BadCount}
use Rattle.osn_register.specs.Query.{names_territory}
use Rattle.osn_register.specs.Answer.{takes_memory}
use Rattle.osn_core.specs.declared.phase.Phase.{Phase}
use Rattle.osn_core.specs.declared.phase.Phase.TheVariants.{Ready, Draining}
use Rattle.osn_core.specs.declared.reader.ReaderState.{ReaderState}
use Rattle.osn_core.specs.declared.reader.ReaderState.TheVariants.{Entered, Answered}
use Rattle.osn_core.specs.declared.step.Step.{Step}
use Rattle.osn_core.specs.declared.step.Step.TheVariants.{Look, Pin, Check, Answer, Leave, Stage}
use Rattle.osn_core.specs.declared.step.Step.TheVariants.{Publish, Claim, Absorb}
use Rattle.osn_core.specs.declared.step.Out.{Out}
use Rattle.osn_core.specs.declared.step.Out.TheVariants as Says
use Rattle.osn_core.specs.Sequential.{ObjectState, empty_object, reply_at, stage_out, stage_after}
use Rattle.osn_core.specs.Sequential.{publish_out, publish_after, publish_refusal}
use Rattle.osn_core.specs.Control.{Control, first_control, reader_at, Move, stays, look, pin, check}
use Rattle.osn_core.specs.Control.{leave, out_at, readers_after, is_marked, claim_out}
use Rattle.osn_core.specs.Control.{phase_claimed, absorb_out, phase_absorbed, lag_absorbed}

-- why a core is not made: its readers are 1 to 64
abbrev pub readers_refusal : ℕ → Option Refusal
readers_refusal readers = if nat_le 1 readers && nat_le readers 64 then None else Some BadCount

pub record CoreState : Type 0 where
  pub object : ObjectState
  pub control : Control

abbrev pub first_core : Limits → ℕ → CoreState
first_core limits readers = record { object = empty_object limits; control = first_control readers }

-- a reader that has entered gets the sequential object's reply under the editions of that time
abbrev pub answer : Rules → ObjectState → ℕ → ReaderState → Move
answer p s reader (Entered query side edition) = record {
  out = Says.Replied reader (reply_at p s.limits (take edition s.batches) query);
  at = Answered side edition;
}
answer p s reader at = stays at

-- what a step of a reader does with the reader's state. A step of the editor does nothing with it
abbrev pub move_of : Rules → CoreState → Step → ReaderState → Move
move_of p c (Look reader query) at = look c.control.side query at
move_of p c (Pin reader) at = pin at
move_of p c (Check reader) at = check c.control.side (length c.object.batches) at
move_of p c (Answer reader) at = answer p c.object reader at
move_of p c (Leave reader) at = leave at
move_of p c step at = stays at

-- a stage and a publish are taken in Ready alone
abbrev pub out_in : Phase → Out → Out
out_in Ready out = out
out_in phase out = Says.NotNow

abbrev pub reader_out : Rules → CoreState → Step → ℕ → Out
reader_out p c step reader = out_at (move_of p c step) (reader_at c.control.readers reader)

abbrev pub out_of : Rules → CoreState → Step → Out
out_of p c (Look reader query) = reader_out p c (Look reader query) reader
out_of p c (Pin reader) = reader_out p c (Pin reader) reader
out_of p c (Check reader) = reader_out p c (Check reader) reader
out_of p c (Answer reader) = reader_out p c (Answer reader) reader
out_of p c (Leave reader) = reader_out p c (Leave reader) reader
out_of p c (Stage edit) = out_in c.control.phase (stage_out p c.object edit)
out_of p c Publish = out_in c.control.phase (publish_out c.object)
out_of p c Claim =
    claim_out (is_marked (1 - c.control.side) c.control.readers) c.control.phase
out_of p c Absorb = absorb_out (c.control.lag == 0) c.control.phase

-- whether a step that gives this takes memory. One that is not enabled or is refused takes none.
-- Neither does a look that notes no code, an answer that takes none, or a standby that lacks
-- nothing
abbrev pub step_takes_memory : Step → Out → Bool
step_takes_memory step Says.NotNow = false
step_takes_memory step (Says.Refused f) = false
step_takes_memory step Says.Ready = false
step_takes_memory (Look reader query) out = names_territory query
step_takes_memory (Pin reader) out = false
step_takes_memory (Check reader) out = false
step_takes_memory (Leave reader) out = false
step_takes_memory Claim out = false
step_takes_memory step (Says.Replied reader reply) = takes_memory reply.answer
step_takes_memory step out = true

abbrev pub core_in : Phase → CoreState → CoreState → CoreState
core_in Ready new old = new
core_in phase new old = old

-- a publish that is not refused: the standby becomes the live side, and lacks the batch
abbrev pub with_published : Option Refusal → CoreState → CoreState
with_published None c = record {
  object = publish_after c.object;
  control = record c.control {
    side = 1 - c.control.side;
    phase = Draining;
    lag = length c.object.pending;
  };
}
with_published (Some f) c = c

abbrev pub with_move : Rules → CoreState → Step → ℕ → CoreState
with_move p c step reader = record c {
  control = record c.control {
    readers = readers_after (move_of p c step) (reader_at c.control.readers reader)
        c.control.readers reader;
  };
}

abbrev pub core_after : Rules → CoreState → Step → CoreState
core_after p c (Look reader query) = with_move p c (Look reader query) reader
core_after p c (Pin reader) = with_move p c (Pin reader) reader
core_after p c (Check reader) = with_move p c (Check reader) reader
core_after p c (Answer reader) = with_move p c (Answer reader) reader
core_after p c (Leave reader) = with_move p c (Leave reader) reader
core_after p c (Stage edit) =
    core_in c.control.phase (record c { object = stage_after p c.object edit }) c
core_after p c Publish =
    core_in c.control.phase (with_published (publish_refusal c.object) c) c
core_after p c Claim = record c {
  control = record c.control {
    phase = phase_claimed (is_marked (1 - c.control.side) c.control.readers) c.control.phase;
  };
}
core_after p c Absorb = record c {
  control = record c.control {
    phase = phase_absorbed (c.control.lag == 0) c.control.phase;
    lag = lag_absorbed c.control.lag c.control.phase;
  };
}

-- the outs of a list of steps
abbrev pub outs_of : Rules → CoreState → List Step → List Out
outs_of p c [] = []
outs_of p c (step ∷ steps) = out_of p c step ∷ outs_of p (core_after p c step) steps
