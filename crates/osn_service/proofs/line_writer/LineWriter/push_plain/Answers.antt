use Rattle.std.proofs.Common.{◌++◌, [], ◌∷◌, ap, sym, ◌∙◌, append_assoc}
use Rattle.osn_request.proofs.WriteLemmas.{at_last}
use Rattle.osn_service.proofs.line_writer.LineWriter.push_plain.Goals as goal

pub returns-clause-text : goal.returns-clause-text
returns-clause-text c =
    let text = c.args.self.now.text in
    let bytes = c.args.bytes.now in
    at_last c.push_quotation_mark-2.result c.push_quotation_mark-2.ensures.text
    (λ e. rw (
      e,
      c.in_ok-push_bytes.ensures.text,
      c.in_ok-push_quotation_mark.ensures.text,
    )
    (append_assoc (text ++ 34 ∷ []) bytes (34 ∷ [])
    ∙ (append_assoc text (34 ∷ []) (bytes ++ 34 ∷ [])
    ∙ ap (λ l. text ++ 34 ∷ (l ++ 34 ∷ [])) (sym c.requires.plain))))
