-- The text that completes words, printed.
use Rattle.std.specs.Prelude.{◌≡◌, List, ℕ, Option, Some, None}
use Rattle.osn_invocation.specs.Completions.{completions, shell_named}
use Rattle.osn_invocation.specs.declared.shell.Shell.{Shell}
use Rattle.osn_lines.specs.Streams.{Output}
use Rattle.osn_report.specs.Printing.{PrintsIfMade}
use Rattle.osn_report.specs.Messages.{ReportsMisuse}
use Rattle.osn_report.specs.declared.misuse.Misuse.TheVariants as misuses
use Rattle.osn_report.specs.declared.status.Status.{Status}

-- the text of this shell was printed; for no shell, the word was reported
abbrev pub PrintsFor : Option Shell → List ℕ → Output → Output → Status → Type 0
PrintsFor (Some shell) word o e status = PrintsIfMade (completions shell) o e status
PrintsFor None word o e status = (o.new ≡ o.old) × ReportsMisuse e misuses.Shell word status

-- how the command ends: it printed the text of the shell of this word, or reported that no shell
-- has it
abbrev pub PrintsCompletions : List ℕ → Output → Output → Status → Type 0
PrintsCompletions word o e status = PrintsFor (shell_named word) word o e status
