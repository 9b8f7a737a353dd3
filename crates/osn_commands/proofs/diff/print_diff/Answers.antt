use Rattle.std.proofs.Common.{◌≡◌, None, Some, length, refl}
use Rattle.osn_commands.specs.Diff.{missing_edition}
use Rattle.osn_commands.proofs.diff.print_diff.Goals as goal

pub returns-in-Some : goal.returns-in-Some
returns-in-Some g c =
    let is : missing_edition (length c.args.object.now.batches) c.args.from c.args.to
    ≡ Some c.in-Some.number = cc in
    rw is (refl, rw c.batches-newest.ensures.value at c.report_edition_fault.ensures)

pub returns-in-None : goal.returns-in-None
returns-in-None g c =
    let is : missing_edition (length c.args.object.now.batches) c.args.from c.args.to ≡ None = cc in
    rw is c.print_between.ensures
