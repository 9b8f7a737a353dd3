use Rattle.std.proofs.Common.{◌≡◌, ◌+◌, ◌∙◌, ap, Err, false, List, Ok, refl, subst, sym}
use Rattle.std.proofs.Common.{true, ℕ}
use Rattle.osn_core.specs.Sequential.{ObjectState}
use Rattle.osn_journal.specs.RoundInside.{Answers, IsEarlyEnd, IsOver}
use Rattle.osn_journal.specs.declared.follower_fault.FollowerFault.TheVariants.{Serve}
use Rattle.osn_journal.proofs.AllRoundsLemmas.{GoesOn-round, IsEarlyEnd-round, IsOver-round}
use Rattle.osn_journal.proofs.RoundLemmas.{not_received}
use Rattle.osn_journal.proofs.follower.answer_next.Goals as goal
use Rattle.osn_journal.proofs.follower.answer_next.Goals.{then-served-via-then-served}
use Rattle.osn_journal.proofs.follower.answer_next.Goals.{then-served-via-else-served+then-requests}

pub returns-in-Err-clause-err : goal.returns-in-Err-clause-err
returns-in-Err-clause-err g c =
    let old = g.W.Sink.contents c.args.sink.now in
    subst (λ (n : ℕ). IsEarlyEnd c.args.rules (g.A.Arrivals.arrived c.args.arrivals.now)
    (g.A.Arrivals.arrived c.receive.new.arrivals) old old c.args.follower.now
    (record { lines = n; cause = c.in-Err.cause })) (sym c.receive.ensures.lines)
    (not_received c.args.rules c.args.follower.now old _ _ c.in-Err.cause c.in-Err.ensures.err)

pub returns-then-served-clause-goes_on : goal.returns-then-served-clause-goes_on
returns-then-served-clause-goes_on g c =
    let old = g.W.Sink.contents c.args.sink.now in
    let now = g.W.Sink.contents c.answer.new.sink in
    let f = c.args.follower.now in
    let m = c.receive.new.follower in
    let come = c.in-Ok.ensures.ok in
    let done = c.in-Ok-answer.served in
    let last : done.refused ≡ false → c.in-Ok.requests.is_last ≡ true =
    λ whole.
    elim c.then-served.branch [
      | then-served-via-then-served w ↦ absurd (cc)
      | then-served-via-else-served+then-requests w ↦ w.if-requests.true
    ] in
    subst (λ (n : ℕ). IsOver c.args.rules (g.A.Arrivals.arrived c.args.arrivals.now)
    (g.A.Arrivals.arrived c.receive.new.arrivals) old now f
    (record { lines = n + done.lines; refused = done.refused })) (sym c.receive.ensures.lines)
    (IsOver-round c.args.rules f m m _ _ c.in-Ok.requests come refl refl old now done
    (λ whole. sym come.last ∙ last whole)
    (subst (λ (text : List ℕ). Answers c.args.rules m.journal.object text old now (Ok done))
    c.deref.ensures.value c.in-Ok-answer.ensures.answers))

pub returns-in-Ok-answer-clause-goes_on : goal.returns-in-Ok-answer-clause-goes_on
returns-in-Ok-answer-clause-goes_on g c =
    let old = g.W.Sink.contents c.args.sink.now in
    let now = g.W.Sink.contents c.answer.new.sink in
    let f = c.args.follower.now in
    let m = c.receive.new.follower in
    let done = c.in-Ok-answer.served in
    let come = c.in-Ok.ensures.ok in
    let j = m.journal in
    GoesOn-round c.args.rules f m
    (record {
      journal = record {
        limits = j.limits;
        version = j.version;
        lines = j.lines;
        object = c.answer.new.object;
      };
      requests = m.requests;
      lines = m.lines + done.lines;
    })
    _ _ c.in-Ok.requests come
    (ap (λ (o : ObjectState). record {
      limits = j.limits;
      version = j.version;
      lines = j.lines;
      object = o;
    }) c.answer.ensures.same)
    refl old now done (ap (λ n. n + done.lines) c.receive.ensures.lines) c.if-served.false
    (subst (λ (text : List ℕ). Answers c.args.rules m.journal.object text old now (Ok done))
    c.deref.ensures.value c.in-Ok-answer.ensures.answers)

pub returns-clause-err : goal.returns-clause-err
returns-clause-err g c =
    let old = g.W.Sink.contents c.args.sink.now in
    let now = g.W.Sink.contents c.answer.new.sink in
    let f = c.args.follower.now in
    let m = c.receive.new.follower in
    let end = c.in-Err-answer.end in
    subst (λ (n : ℕ). IsEarlyEnd c.args.rules (g.A.Arrivals.arrived c.args.arrivals.now)
    (g.A.Arrivals.arrived c.receive.new.arrivals) old now f
    (record { lines = n + end.lines; cause = Serve end.cause })) (sym c.receive.ensures.lines)
    (IsEarlyEnd-round c.args.rules f m m _ _ c.in-Ok.requests c.in-Ok.ensures.ok refl refl old
    now (record { lines = 0; refused = false }) end.lines end.cause
    (subst (λ (text : List ℕ). Answers c.args.rules m.journal.object text old now (Err end))
    c.deref.ensures.value c.in-Err-answer.ensures.answers))
