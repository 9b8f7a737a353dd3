use Rattle.std.proofs.Common.{rules}
use Rattle.osn_written.proofs.listing.Listing.new.Goals as goal

pub returns : goal.returns
returns g c = search rules
