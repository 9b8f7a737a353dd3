use Rattle.std.proofs.Common.{rules, ◌≡◌, ◌∙◌, ◌++◌, ap, map, filter, Bool}
use Rattle.std.proofs.lemmas.Result.{IfOk-weaker}
use Rattle.osn_letters.specs.Remarks.{applying}
use Rattle.osn_letters.specs.declared.remark.Remark.{Remark}
use Rattle.osn_letters.proofs.JoinFacts.{chained_now, filter_now}
use Rattle.osn_letters.proofs.remark.applying.Goals as goal

pub returns : goal.returns
returns c =
    let remark : Bool × Remark → Remark = λ r. r.1 in
    let applies : Bool × Remark → Bool = λ r. r.0 in
    IfOk-weaker c.collect.result _ _ (λ v made.
    let h = made tt in
    let passed = c.map.ensures.runs h.0 h.0.seen h.1 in
    let all = c.filter.ensures.runs passed.0 passed.0.seen passed.1 in
    let whole = all.2.0 ∙ (passed.2.0 ∙ h.2) in
    let both = c.chain.ensures.runs all.0 all.0.seen all.1 in
    let chained = both.2.2 in
    let ends = chained.2 whole in
    let first = c.iter.ensures.runs both.0 both.0.seen in
    let second = c.iter-2.ensures.runs both.2.0 both.2.0.seen in
    let listed : map (λ y. y.now) all.0.items ≡ c.args.on_days.now ++ c.args.beside.now =
    chained_now all.0.items both.0.items both.2.0.items _ _ chained.1
    (first.4 ends.0 ∙ (ap (λ i. i.rest.now) both.1 ∙ c.iter.ensures.rest))
    (second.4 ends.1 ∙ (ap (λ i. i.rest.now) (both.2.1 ∙ c.chain.ensures.second)
    ∙ c.iter-2.ensures.rest)) in
    let items : h.0.items ≡ applying (c.args.on_days.now ++ c.args.beside.now) =
    passed.2.3 (λ y. remark y.now) (search rules)
    ∙ (ap (map (λ y. remark y.now)) (all.2.4 (λ y. applies y.now) (search rules))
    ∙ (filter_now remark applies all.0.items
    ∙ ap (λ rs. map remark (filter applies rs)) listed)) in
    h.3.0 ∙ items)
    c.collect.ensures.runs
