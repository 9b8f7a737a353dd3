use Rattle.std.proofs.Common.{◌++◌, ◌∙◌, sym, append_assoc}
use Rattle.std.proofs.lemmas.List.{at_drop_all}
use Rattle.osn_request.proofs.WriteLemmas.{at_last}
use Rattle.osn_service.proofs.reply.write_json.write_list.Invariants.{rest_text}
use Rattle.osn_service.proofs.reply.write_json.write_list.Goals as goal

pub returns-clause-text : goal.returns-clause-text
returns-clause-text g c =
    at_last c.push-3.result c.push-3.ensures.text
    (λ e. e
    ∙ (sym (at_drop_all
    (λ l. c.loop-item.out.text ++ rest_text g.J.WriteJson.json_value c.loop-item.later l)
    c.args.values.now c.loop-item.item-index c.loop-item-test.false)
    ∙ (c.loop-item.invariant.text
    ∙ rw (c.in_ok-push-2.ensures.text, c.in_ok-push.ensures.text) (simp append_assoc))))
