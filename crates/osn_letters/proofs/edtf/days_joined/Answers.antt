use Rattle.std.proofs.Common.{rules, ◌≡◌, ◌∙◌, codes, List, ℕ, map, ap, refl}
use Rattle.std.proofs.lemmas.Result.{IfOk-weaker}
use Rattle.itertools.specs.Consumer.{joined}
use Rattle.osn_territory.specs.declared.dating.DatedDay.{DatedDay}
use Rattle.osn_letters.specs.Edtf as spec
use Rattle.osn_letters.specs.declared.edtf.SignedDay.{SignedDay}
use Rattle.osn_letters.proofs.JoinFacts.{join_by_map, map_now}
use Rattle.osn_letters.proofs.edtf.days_joined.Goals as goal

pub returns : goal.returns
returns c =
    let signed : DatedDay → SignedDay = λ day. record { day = day.day; sign = c.args.sign } in
    let word : SignedDay → List ℕ = λ x. spec.edtf_day x.sign.now x.day in
    IfOk-weaker c.join.result _ _ (λ s h.
    let q = c.map.ensures.runs h.0 h.0.seen h.1 in
    let taken = c.iter.ensures.runs q.0 q.0.seen in
    let all : map (λ y. y.now) q.0.items ≡ c.args.days.now =
    taken.4 (q.2.0 ∙ h.2) ∙ (ap (λ i. i.rest.now) q.1 ∙ c.iter.ensures.rest) in
    let items : h.0.items ≡ map signed c.args.days.now =
    q.2.3 (λ y. signed y.now) (search rules)
    ∙ (map_now signed q.0.items ∙ ap (map signed) all) in
    h.3 word (λ x. refl)
    ∙ ap (joined word (codes ",")) items
    ∙ join_by_map word signed (codes ",") c.args.days.now) c.join.ensures.text
