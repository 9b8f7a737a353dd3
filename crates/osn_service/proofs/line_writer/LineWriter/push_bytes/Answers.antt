use Rattle.std.proofs.Common.{is_ok}
use Rattle.osn_service.proofs.LineLemmas.{goes_on}
use Rattle.osn_service.proofs.line_writer.LineWriter.push_bytes.Goals as goal

pub invariant_of-self : goal.invariant_of-self
invariant_of-self c =
    let line = c.self.inside in
    let now =
    goes_on line.start line.bytes.items c.extend_from_slice.new.self.items c.args.bytes.now
    (is_ok c.extend_from_slice.result) c.self.invariant.within c.self.invariant.utf8 c.requires
    c.extend_from_slice.ensures.items in
    record { within = now.0; utf8 = now.1 }
