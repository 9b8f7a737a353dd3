-- Why a source was not read to its end.
use Rattle.std.specs.Prelude.{◌≡◌, ℕ, Bool, List, Option}
use Rattle.osn_lines.specs.Faults.{IsReadFault}
use Rattle.osn_lines.specs.declared.whole.ReadAllFault.{ReadAllFault}
use Rattle.osn_lines.specs.declared.whole.ReadAllFault.TheVariants.{NoMemory, ReadFault}

-- memory ran out and the source is as sound as it was, or it failed or is too long. Given are
-- whether it had failed before and has now, and what it had left
abbrev pub WhyNotRead : ReadAllFault → Bool → Bool → Option (List ℕ) → Type 0
WhyNotRead NoMemory old new input = new ≡ old
WhyNotRead ReadFault old new input = IsReadFault new input
