use Rattle.std.proofs.Common.{◌≡◌, Result, Ok, Err, OnOk, refl, ap, sym, ◌∙◌}
use Rattle.serde_json.specs.Data.{string}
use Rattle.osn_computus.specs.FigureTexts.{epact_text}
use Rattle.osn_request.specs.Json.{whole}
use Rattle.osn_service.specs.ReplyText as spec
use Rattle.osn_request.proofs.WriteLemmas.{at_last}
use Rattle.osn_service.proofs.LineLemmas.{whole_reply}
use Rattle.osn_service.proofs.reply.answer.write_reply.Goals as goal

-- what holds of a result that is good
ok_clause : {T E P : Type 0} (fields : Result T E) (x : T) (r : Result T E)
    → fields ≡ Ok x → fields ≡ r → OnOk r P → P
ok_clause fields x (Ok y) was is h = h
ok_clause fields x (Err e) was is h = let none : Err e ≡ Ok x = sym is ∙ was in cc

pub returns-clause-text : goal.returns-clause-text
returns-clause-text c =
    let reply =
    whole_reply c.args.out.now.text c.match-reply.out.text c.end_reply.new.out.text c.args.reader
    c.args.reply.now.edition in
    at_last c.end_reply.result c.end_reply.ensures.text
    (λ e. elim c.match-reply.branch [
      | goal.in-Reading w ↦
          rw w.in-Reading.is (reply _ _
          (ap (λ l. spec.reading_data l w.as_slice-in-Reading.result.now) w.as_slice.ensures
          ∙ ap (λ l. spec.reading_data w.in-Reading.found l) w.as_slice-in-Reading.ensures)
          (ap (λ v. v.text) w.out-is
          ∙ ok_clause _ _ _ c.in_ok-fields.was w.fields-is w.write_reading-fields.ensures.text) e)
      | goal.in-OnDay w ↦
          rw w.in-OnDay.is (reply _ (spec.on_day_data w.in-OnDay.found w.in-OnDay.period) refl
          (ap (λ v. v.text) w.out-is
          ∙ ok_clause _ _ _ c.in_ok-fields.was w.fields-is w.write_on_day-fields.ensures.text) e)
      | goal.in-Easters w ↦
          rw w.in-Easters.is (reply _ _
          (ap (λ l. spec.easters_data l w.in-Easters.listed w.in-Easters.source)
          w.as_slice-in-Easters.ensures)
          (ap (λ v. v.text) w.out-is
          ∙ ok_clause _ _ _ c.in_ok-fields.was w.fields-is w.write_easters-fields.ensures.text) e)
      | goal.in-Figures w ↦
          let f = w.in-Figures in
          let gregorian =
          spec.reckoning_data f.gregorian_easter (string (epact_text f.gregorian_epact))
          f.gregorian_letters in
          let julian =
          spec.reckoning_data f.julian_easter (whole f.julian_epact) f.julian_letters in
          rw f.is (reply _ (spec.figures_data f.year f.golden f.indiction gregorian julian) refl
          (ap (λ v. v.text) w.out-is
          ∙ ok_clause _ _ _ c.in_ok-fields.was w.fields-is w.write_figures-fields.ensures.text) e)
      | goal.in-Lands w ↦
          rw w.in-Lands.is (reply _ _
          (ap (λ l. spec.territories_data l) w.as_slice-in-Lands.ensures) (ap (λ v. v.text) w.out-is
          ∙ ok_clause _ _ _ c.in_ok-fields.was w.fields-is w.write_territories-fields.ensures.text)
          e)
      | goal.in-Periods w ↦
          rw w.in-Periods.is (reply _ _
          (ap (λ l. spec.periods_data l) w.as_slice-in-Periods.ensures)
          (ap (λ v. v.text) w.out-is
          ∙ ok_clause _ _ _ c.in_ok-fields.was w.fields-is w.write_periods-fields.ensures.text) e)
      | goal.in-Exceptions w ↦
          rw w.in-Exceptions.is (reply _ _
          (ap (λ l. spec.exceptions_data l) w.as_slice-in-Exceptions.ensures)
          (ap (λ v. v.text) w.out-is
          ∙ ok_clause _ _ _ c.in_ok-fields.was w.fields-is w.write_exceptions-fields.ensures.text)
          e)
      | goal.in-Changes w ↦
          rw w.in-Changes.is (reply _ _
          (ap (λ l. spec.changes_data l) w.as_slice-in-Changes.ensures)
          (ap (λ v. v.text) w.out-is
          ∙ ok_clause _ _ _ c.in_ok-fields.was w.fields-is w.write_changes-fields.ensures.text) e)
      | goal.in-Feasts w ↦
          rw w.in-Feasts.is (reply _ _
          (ap (λ l. spec.feasts_data l) w.as_slice-in-Feasts.ensures)
          (ap (λ v. v.text) w.out-is
          ∙ ok_clause _ _ _ c.in_ok-fields.was w.fields-is w.write_feasts-fields.ensures.text) e)
      | goal.in-Converted w ↦
          rw w.in-Converted.is (reply _ _
          (ap (λ l. spec.converted_data l) w.as_slice-in-Converted.ensures)
          (ap (λ v. v.text) w.out-is
          ∙ ok_clause _ _ _ c.in_ok-fields.was w.fields-is
          w.write_converted-fields.ensures.text) e)
      | goal.in-Written w ↦
          rw w.in-Written.is (reply _ (spec.written_data w.in-Written.written) refl
          (ap (λ v. v.text) w.out-is
          ∙ ok_clause _ _ _ c.in_ok-fields.was w.fields-is w.write_written-fields.ensures.text) e)
    ])
