-- The laws of a table, whatever its text.
use Rattle.osn_letters.specs.Law.{AreKitRecords}
use Rattle.osn_letters.specs.Parts.{MayEachTableBeCut}

pub record AreTableLaws : Type 0 where
  -- the records of a table are those that the kit reads, if no record has a fault
  pub kit : AreKitRecords
  -- a table may be cut between its records and written in parts, each after the header
  pub cut : MayEachTableBeCut
