-- How an edition keeps its state.
use Rattle.std.specs.Prelude.{◌≡◌}
use Rattle.std.specs.Arc.{arc_value}
use Rattle.osn_days.specs.Rules.{newest_rules}
use Rattle.osn_core.specs.Sequential.{territories_of}
use Rattle.osn_live.specs.declared.edition.Edition.TheInside.{Inside}
use Rattle.osn_live.specs.Running.{EditionState, edition_of}

abbrev pub edition_in : Inside → EditionState
edition_in e = edition_of e.limits e.certificate

-- the register is that of the batches
abbrev pub HasRegister : Inside → Type 0
HasRegister e = arc_value e.register ≡
    record {
      limits = e.limits;
      territories =
          territories_of newest_rules e.limits e.certificate.batches;
    }
