use Rattle.std.proofs.Common.{◌≡◌, ◌∙◌, ap, codes, map, refl}
use Rattle.std.proofs.lemmas.Result.{IfOk-weaker}
use Rattle.itertools.specs.Consumer.{joined}
use Rattle.osn_letters.specs.Remarks.{remark_words}
use Rattle.osn_letters.proofs.JoinFacts.{joined_is, joined_now}
use Rattle.osn_letters.proofs.remark.remark_text.Goals as goal

pub returns : goal.returns
returns c = IfOk-weaker c.join.result _ _ (λ s h.
    let all = c.iter.ensures.runs h.0 h.0.seen in
    let items : map (λ y. y.now) h.0.items ≡ c.args.remarks.now =
    all.4 h.2 ∙ (ap (λ i. i.rest.now) h.1 ∙ c.iter.ensures.rest) in
    h.3 (λ r. remark_words r.now) (λ x. refl)
    ∙ (joined_now remark_words (codes "; ") h.0.items
    ∙ (ap (joined remark_words (codes "; ")) items
    ∙ joined_is remark_words (codes "; ") c.args.remarks.now)))
    c.join.ensures.text
