-- The text of a replay, and why there is none.
use Rattle.std.specs.Prelude.{◌≡◌, ◌⊎◌, ℕ, List, None}
use Rattle.std.specs.List.{flat_map}
use Rattle.osn_days.specs.Rules.{newest_rules}
use Rattle.osn_register.specs.Refusal.{IsRefusalOrNoMemory}
use Rattle.osn_register.specs.declared.limits.Limits.{Limits}
use Rattle.osn_register.specs.declared.refusal.Refusal.{Refusal}
use Rattle.osn_core.specs.declared.step.Step.{Step}
use Rattle.osn_core.specs.Machine.{first_core, outs_of, readers_refusal}
use Rattle.osn_lines.specs.Streams.{Input}
use Rattle.osn_files.specs.Schedule.{schedule}
use Rattle.osn_files.specs.declared.fault.FileFault.{FileFault}
use Rattle.osn_files.specs.declared.fault.Role.TheVariants.{Schedule}
use Rattle.osn_service.specs.OutText.{out_line}
use Rattle.osn_report.specs.Files.{Makes, IsFileFault}
use Rattle.osn_report.specs.declared.fault.CommandFault.{CommandFault}
use Rattle.osn_report.specs.declared.fault.CommandFault.TheVariants.{File, NoMemory, Refused}

-- a line for what each of the steps gives, from the first state on
abbrev pub replay_text : Limits → ℕ → List Step → List ℕ
replay_text limits readers steps =
    flat_map out_line (outs_of newest_rules (first_core limits readers) steps)

-- the text of steps, whose number of readers is lawful
abbrev pub StepsGive : Limits → ℕ → List Step → List ℕ → Type 0
StepsGive limits readers steps text =
    (readers_refusal readers ≡ None) × (text ≡ replay_text limits readers steps)

-- why there is none: the number of readers is refused, or memory ran out
abbrev pub StepsFail : ℕ → CommandFault → Type 0
StepsFail readers fault =
    ((refusal : Refusal) × IsRefusalOrNoMemory (readers_refusal readers) refusal
    × (fault ≡ Refused refusal))
    ⊎ (fault ≡ NoMemory)

-- the text of the command is that of the steps of its schedule
abbrev pub Replays : Limits → ℕ → Input → List ℕ → Type 0
Replays limits readers file text =
    (steps : List Step) × Makes (schedule readers) file.bytes steps
    × StepsGive limits readers steps text

-- why there is none: the schedule is refused; or it has steps, and they have no text
abbrev pub ReplayFails : ℕ → Input → CommandFault → Type 0
ReplayFails readers file fault =
    ((why : FileFault) × IsFileFault Schedule (schedule readers) file why × (fault ≡ File why))
    ⊎ ((steps : List Step) × Makes (schedule readers) file.bytes steps × StepsFail readers fault)
