-- What is written to standard error if there is no plan. This project's profile.
use Rattle.std.specs.Prelude.{ℕ, List, ◌++◌, codes}
use Rattle.osn_lines.specs.Streams.{Output}
use Rattle.osn_register_text.specs.declared.plan_fault.PlanFault.{PlanFault}
use Rattle.osn_register_text.specs.declared.plan_fault.PlanFault.TheVariants as faults
use Rattle.osn_register.specs.Refusal.{refusal_name, refusal_number}
use Rattle.osn_register.specs.declared.refusal.Refusal.{Refusal}
use Rattle.osn_report.specs.Fault.{refusal_end}
use Rattle.osn_report.specs.Hint.{limit_hint}
use Rattle.osn_report.specs.Messages.{EndsBy, ReportsIfMade}
use Rattle.osn_report.specs.declared.fault.CommandFault.TheVariants as command_faults
use Rattle.osn_report.specs.declared.status.Status.{Status}
use Rattle.osn_report.specs.declared.status.Status.TheVariants as statuses
use Rattle.osn_lines.specs.Escape.{escaped_text}

-- what to do about a name that the text changes
unfoldable pub renamed_help : List ℕ → List ℕ → List ℕ
renamed_help name new_name = codes "\nhelp: write "
    ++ (escaped_text name ++ (codes " again, or give "
    ++ (escaped_text new_name ++ codes " a code of its own\n")))

-- the lines on a name that the text of this path changes: the code of the territory, its name and
-- the one that the text has
abbrev pub renamed_line : List ℕ → List ℕ → List ℕ → List ℕ → List ℕ
renamed_line path code name new_name = codes "oldstyle: "
    ++ (escaped_text path
    ++ (codes ": "
    ++ (escaped_text code
    ++ (codes ": a name can't be changed: it is "
    ++ (escaped_text name
    ++ (codes ", and the text has " ++ (escaped_text new_name ++ renamed_help name new_name)))))))

-- the line on an edit that is refused, of the territory of this code that the text of this path
-- has, and how more is allowed if that is at a limit
abbrev pub refused_line : List ℕ → List ℕ → Refusal → List ℕ
refused_line path code refusal = codes "oldstyle: "
    ++ (escaped_text path
    ++ (codes ": "
    ++ (escaped_text code
    ++ (codes ": "
    ++ refusal_end (refusal_number refusal) (refusal_name refusal ++ limit_hint refusal)))))

-- it was reported why there is no plan to what the text of this path says
abbrev pub ReportsPlanFault : List ℕ → Output → PlanFault → Status → Type 0
ReportsPlanFault path e (faults.Renamed code name new_name) status =
    ReportsIfMade e statuses.Refused (renamed_line path code name new_name) status
ReportsPlanFault path e (faults.Refused code refusal) status =
    ReportsIfMade e statuses.Refused (refused_line path code refusal) status
ReportsPlanFault path e faults.NoMemory status = EndsBy e command_faults.NoMemory status
