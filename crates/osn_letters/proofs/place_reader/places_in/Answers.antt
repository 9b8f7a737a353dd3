use Rattle.std.proofs.Common.{[], None, false, ◌∙◌, ap, sym}
use Rattle.osn_letters.specs.Places.{entries_of}
use Rattle.osn_letters.specs.Records.{at_start, records_from}
use Rattle.osn_letters.proofs.LetterFacts.{err_of_fault}
use Rattle.osn_letters.proofs.PlaceFaultFacts.{unread_fault}
use Rattle.osn_letters.proofs.place_reader.places_in.Goals as goal

pub returns-in_err-take_all-clause-unread : goal.returns-in_err-take_all-clause-unread
returns-in_err-take_all-clause-unread c =
    let fault = c.in_err-take_all.field-0.0 in
    err_of_fault _ c.from_residual.result fault c.from_residual.ensures.1
    (unread_fault c.args.text.now fault (λ known.
    ap (λ t. entries_of [] (records_from (at_start false None) t)) (sym c.unmarked.ensures)
    ∙ sym (c.new-reader.ensures.entries c.unmarked.result.now)
    ∙ c.in_err-take_all.ensures.refuses known))
