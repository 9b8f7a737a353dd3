use Rattle.std.proofs.Common.{ap, false, refl, Some, subst, Err}
use Rattle.std.specs.declared.convert.Infallible.{Infallible}
use Rattle.osn_lines.specs.Bytes.{rest_of}
use Rattle.osn_lines.specs.Streams.{input_of, output_of}
use Rattle.osn_service.specs.Serves.{ServesStore}
use Rattle.osn_journal.proofs.AnswerLemmas.{answers_err, answers_ok, few_err, few_ok, same_err}
use Rattle.osn_journal.proofs.AnswerLemmas.{same_ok}
use Rattle.osn_journal.proofs.LineLemmas.{lines-few}
use Rattle.osn_journal.proofs.follower.answer.Goals as goal

pub returns-in-Ok-clause-same : goal.returns-in-Ok-clause-same
returns-in-Ok-clause-same g c =
    let i = input_of (λ b. Some (rest_of b)) (λ b. false) c.new.result c.serve_store.new.source in
    let o = output_of g.W.Sink.contents g.W.Sink.has_failed g.W.Sink.holds_back c.args.sink.now
    c.serve_store.new.sink in
    same_ok c.args.rules c.args.object.now c.requires.read_only c.serve_store.new.store
    c.args.text.now i o (ap Some c.new.ensures) refl c.requires.few c.in-Ok.served
    c.in-Ok.ensures.serves

pub returns-in-Ok-clause-few : goal.returns-in-Ok-clause-few
returns-in-Ok-clause-few g c =
    let i = input_of (λ b. Some (rest_of b)) (λ b. false) c.new.result c.serve_store.new.source in
    let o = output_of g.W.Sink.contents g.W.Sink.has_failed g.W.Sink.holds_back c.args.sink.now
    c.serve_store.new.sink in
    few_ok c.args.rules c.args.object.now c.requires.read_only c.serve_store.new.store
    c.args.text.now i o (ap Some c.new.ensures) refl c.requires.few c.in-Ok.served
    c.in-Ok.ensures.serves lines-few

pub returns-in-Ok-clause-answers : goal.returns-in-Ok-clause-answers
returns-in-Ok-clause-answers g c =
    let i = input_of (λ b. Some (rest_of b)) (λ b. false) c.new.result c.serve_store.new.source in
    let o = output_of g.W.Sink.contents g.W.Sink.has_failed g.W.Sink.holds_back c.args.sink.now
    c.serve_store.new.sink in
    answers_ok c.args.rules c.args.object.now c.requires.read_only c.serve_store.new.store
    c.args.text.now i o (ap Some c.new.ensures) refl c.requires.few c.in-Ok.served
    c.in-Ok.ensures.serves

pub returns-in-Serve-clause-same : goal.returns-in-Serve-clause-same
returns-in-Serve-clause-same g c =
    let i = input_of (λ b. Some (rest_of b)) (λ b. false) c.new.result c.serve_store.new.source in
    let o = output_of g.W.Sink.contents g.W.Sink.has_failed g.W.Sink.holds_back c.args.sink.now
    c.serve_store.new.sink in
    same_err c.args.rules c.args.object.now c.requires.read_only c.serve_store.new.store
    c.args.text.now i o (ap Some c.new.ensures) refl c.requires.few c.in-Err.field-0.lines
    c.in-Serve.cause
    (subst (λ k. ServesStore {F = Infallible} c.args.rules c.args.object.now c.serve_store.new.store
    i
    o (Err (record { lines = c.in-Err.field-0.lines; cause = k }))) c.in-Serve.is
    c.in-Err.ensures.serves)

pub returns-in-Serve-clause-few : goal.returns-in-Serve-clause-few
returns-in-Serve-clause-few g c =
    let i = input_of (λ b. Some (rest_of b)) (λ b. false) c.new.result c.serve_store.new.source in
    let o = output_of g.W.Sink.contents g.W.Sink.has_failed g.W.Sink.holds_back c.args.sink.now
    c.serve_store.new.sink in
    few_err c.args.rules c.args.object.now c.requires.read_only c.serve_store.new.store
    c.args.text.now i o (ap Some c.new.ensures) refl c.requires.few c.in-Err.field-0.lines
    c.in-Serve.cause
    (subst (λ k. ServesStore {F = Infallible} c.args.rules c.args.object.now c.serve_store.new.store
    i
    o (Err (record { lines = c.in-Err.field-0.lines; cause = k }))) c.in-Serve.is
    c.in-Err.ensures.serves) lines-few

pub returns-in-Serve-clause-answers : goal.returns-in-Serve-clause-answers
returns-in-Serve-clause-answers g c =
    let i = input_of (λ b. Some (rest_of b)) (λ b. false) c.new.result c.serve_store.new.source in
    let o = output_of g.W.Sink.contents g.W.Sink.has_failed g.W.Sink.holds_back c.args.sink.now
    c.serve_store.new.sink in
    answers_err c.args.rules c.args.object.now c.requires.read_only c.serve_store.new.store
    c.args.text.now i o (ap Some c.new.ensures) refl c.requires.few c.in-Err.field-0.lines
    c.in-Serve.cause
    (subst (λ k. ServesStore {F = Infallible} c.args.rules c.args.object.now c.serve_store.new.store
    i
    o (Err (record { lines = c.in-Err.field-0.lines; cause = k }))) c.in-Serve.is
    c.in-Err.ensures.serves)
