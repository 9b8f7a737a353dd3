use Rattle.std.proofs.Common.{[], ◌∷◌, is_ok, refl}
use Rattle.json.proofs.Printed.Utf8.{IsUtf8-are_ascii}
use Rattle.osn_service.proofs.LineLemmas.{goes_on}
use Rattle.osn_service.proofs.line_writer.LineWriter.push_quotation_mark.Goals as goal

pub invariant_of-self : goal.invariant_of-self
invariant_of-self c =
    let line = c.self.inside in
    let now =
    goes_on line.start line.bytes.items c.push.new.self.items (34 ∷ []) (is_ok c.push.result)
    c.self.invariant.within c.self.invariant.utf8 (IsUtf8-are_ascii (34 ∷ []) refl)
    c.push.ensures.items in
    record { within = now.0; utf8 = now.1 }

pub invariant_of-self-2 : goal.invariant_of-self-2
invariant_of-self-2 c =
    let line = c.self.inside in
    let now =
    goes_on line.start line.bytes.items c.push.new.self.items (34 ∷ []) (is_ok c.push.result)
    c.self.invariant.within c.self.invariant.utf8 (IsUtf8-are_ascii (34 ∷ []) refl)
    c.push.ensures.items in
    record { within = now.0; utf8 = now.1 }
