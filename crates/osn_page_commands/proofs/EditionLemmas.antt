-- What a command has done with an edition, or why it has none.
use Rattle.std.proofs.Common.{◌≡◌, ℕ, Option, Some, inl, inr}
use Rattle.osn_core.specs.Sequential.{ObjectState}
use Rattle.osn_lines.specs.Streams.{Output}
use Rattle.osn_report.specs.declared.status.Status.{Status}
use Rattle.osn_core.specs.Edition.{EditionModel, IsEditionFault, edition_of}
use Rattle.osn_page_commands.specs.Editions.{OnEdition, ReportsEditionFault}
use Rattle.osn_core.specs.declared.edition.EditionFault.{EditionFault}
use Rattle.osn_core.specs.declared.edition.EditionFault.TheVariants.{TooLate, NoMemory}

module _ (number : Option ℕ) (s : ObjectState) (Does : EditionModel → Type 0) (o e : Output)
    (status : Status) where
  -- the object has the edition, and the command was done with it
  pub on_edition : (edition : EditionModel) → edition_of number s ≡ Some edition → Does edition
      → OnEdition number s Does o e status
  on_edition edition is h = inr (rw is h)

  -- there is none, which was reported
  pub on_no_edition : (fault : EditionFault) → IsEditionFault number s fault → o.new ≡ o.old
      → ReportsEditionFault fault e status → OnEdition number s Does o e status
  on_no_edition (TooLate late newest) is same message =
      inr (rw (is.2, is.0, ← is.1) (same, message))
  on_no_edition NoMemory is same message = inl (is, same, message)
