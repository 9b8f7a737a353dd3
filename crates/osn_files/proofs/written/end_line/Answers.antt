use Rattle.std.proofs.Common.{[], ◌∷◌, ◌++◌, ap, ◌∙◌, append_assoc}
use Rattle.json.specs.Print.{print}
use Rattle.serde_json.specs.Written.{compact_text}
use Rattle.serde_json.proofs.Texts.{print-outline}
use Rattle.osn_files.specs.JournalText.{line_text}
use Rattle.osn_files.proofs.written.end_line.Goals as goal

pub returns : goal.returns
unfolding line_text
returns c = λ d h.
    let inner = c.into_inner-bytes in
    c.in_ok-push.ensures.items
    ∙ (ap (λ t. t ++ 10 ∷ []) (inner.ensures.items
    ∙ ap (λ t. c.args.out.before ++ t) (ap print h ∙ print-outline d))
    ∙ append_assoc c.args.out.before (compact_text d) (10 ∷ []))
