-- What to do if something is refused, for which standard error has a hint. This project's profile.
use Rattle.std.specs.Prelude.{ℕ, List, [], codes}
use Rattle.osn_register.specs.declared.refusal.Refusal.{Refusal}
use Rattle.osn_register.specs.declared.refusal.Refusal.TheVariants.{TooManyLands, TooManyChanges}
use Rattle.osn_register.specs.declared.refusal.Refusal.TheVariants.{TooManyExceptions, JournalFull}
use Rattle.osn_register.specs.declared.refusal.Refusal.TheVariants.{EditionsFull}
use Rattle.osn_files.specs.declared.fault.LineFault.{LineFault}
use Rattle.osn_files.specs.declared.fault.LineFault.TheVariants.{Wire, Register}

-- the option that allows more of whatever is refused at a limit
abbrev pub limit_hint : Refusal → List ℕ
limit_hint TooManyLands = codes " (--limits lands=N allows more)"
limit_hint TooManyChanges = codes " (--limits changes=N allows more)"
limit_hint TooManyExceptions = codes " (--limits exceptions=N allows more)"
limit_hint JournalFull = codes " (--limits edits=N allows more)"
limit_hint EditionsFull = codes " (--limits editions=N allows more)"
limit_hint refusal = []

abbrev pub line_hint : LineFault → List ℕ
line_hint (Wire fault) = []
line_hint (Register refusal) = limit_hint refusal
