use Rattle.std.proofs.Common.{◌≡◌, ◌∙◌, true, false, refl, sym, Some}
use Rattle.std.proofs.lemmas.Bool.{false≢true}
use Rattle.std.proofs.lemmas.Result.{err_from_is_err_and}
use Rattle.osn_lines.proofs.InputLemmas.{if_err_at}
use Rattle.osn_service.specs.SessionInside.{session_state}
use Rattle.osn_service.proofs.SessionLemmas.{Served-answered, Stopped-unwritten, Stopped-refused}
use Rattle.osn_service.proofs.SessionLemmas.{Stopped-unanswered}
use Rattle.osn_service.proofs.session.SessionLineTaker.take.Goals as goal
use Rattle.osn_service.proofs.session.SessionLineTaker.take.Goals.{else-is_refusal-via-else-is_refusal}
use Rattle.osn_service.proofs.session.SessionLineTaker.take.Goals.{else-is_refusal-via-then-is_refusal+else-self}

pub returns-in_err-make_room-clause-stop : goal.returns-in_err-make_room-clause-stop
returns-in_err-make_room-clause-stop g c =
    let err = err_from_is_err_and c.from_residual.result c.from_residual.ensures.1 in
    let room = c.in_err-make_room.ensures in
    if_err_at _ c.from_residual.result err.0 _ err.1 err.2
    (λ whole is initial before h. Stopped-unwritten _ _ _ _ _ _ _ initial c.args.self.now _ before h
    (record { rules = refl; store = refl; sink = refl }) (Some whole)
    c.in_err-make_room.field-0.0 (λ _ k. k)
    (record { some = room.err; object = refl; reason = room.reason }) (λ _ k. k))

pub returns-in_err-is_refusal-clause-stop : goal.returns-in_err-is_refusal-clause-stop
returns-in_err-is_refusal-clause-stop g c =
    let result = c.from_residual-in_err-is_refusal.result in
    let err = err_from_is_err_and result c.from_residual-in_err-is_refusal.ensures.1 in
    let room = c.in_ok-make_room.ensures in
    let mid = session_state g.W.Sink.contents g.W.Sink.has_failed g.S.Store.state
    c.args.self.now.store.now c.make_room.new.sink c.make_room.new.buffer in
    if_err_at _ result err.0 c.in_err-is_refusal.field-0.0 err.1 err.2
    (λ whole is initial before h. Stopped-unanswered _ _ _ _ _ _ _ initial c.args.self.now _ before
    h
    (record { rules = refl; store = refl; sink = refl }) mid whole
    (record { settles = room.ok; object = refl; sound = room.sound }) room.room
    c.in_err-is_refusal.field-0.0
    (c.in_err-is_refusal.ensures whole is))

pub returns-then-self-clause-stop : goal.returns-then-self-clause-stop
returns-then-self-clause-stop g c whole is initial before h =
    let room = c.in_ok-make_room.ensures in
    let mid = session_state g.W.Sink.contents g.W.Sink.has_failed g.S.Store.state
    c.args.self.now.store.now c.make_room.new.sink c.make_room.new.buffer in
    Stopped-refused _ _ _ _ _ _ _ initial c.args.self.now _ before h
    (record { rules = refl; store = refl; sink = refl }) mid whole
    (record { settles = room.ok; object = refl; sound = room.sound }) room.room
    (c.in_ok-is_refusal.ensures whole is) c.if-is_refusal.true c.if-self.true

pub returns-clause-takes : goal.returns-clause-takes
returns-clause-takes g c whole is initial before h =
    let room = c.in_ok-make_room.ensures in
    let mid = session_state g.W.Sink.contents g.W.Sink.has_failed g.S.Store.state
    c.args.self.now.store.now c.make_room.new.sink c.make_room.new.buffer in
    let goes_on : c.args.self.now.rules.stop_at_refusal ≡ true → c.in_ok-is_refusal.is_refusal
    ≡ false =
    elim c.else-is_refusal.branch [
      | else-is_refusal-via-then-is_refusal+else-self w ↦
          λ asked. absurd (false≢true (sym w.if-self.false ∙ asked))
      | else-is_refusal-via-else-is_refusal w ↦ λ _. w.if-is_refusal.false
    ] in
    Served-answered _ _ _ _ _ _ _ initial c.args.self.now _ before h
    (record { rules = refl; store = refl; sink = refl }) mid whole
    (record { settles = room.ok; object = refl; sound = room.sound }) room.room
    (c.in_ok-is_refusal.ensures whole is) goes_on
