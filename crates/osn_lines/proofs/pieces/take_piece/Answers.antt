use Rattle.std.proofs.Common.{◌++◌, List, ℕ, take, drop, length, arith, ap, refl}
use Rattle.std.specs.Prelude.{⊤}
use Rattle.std.proofs.lemmas.List.{take_rest, length-drop}
use Rattle.std.proofs.lemmas.Result.{err_from_is_err_and}
use Rattle.osn_lines.specs.Faults.{MatchFault}
use Rattle.osn_lines.specs.Inside.{IsUnended, IsTaken, IsStopped}
use Rattle.osn_lines.proofs.InputLemmas.{if_err_at, MatchFault-weaker}
use Rattle.osn_lines.proofs.TakeLemmas.{IsTaken-nothing, IsTaken-next, IsTaken-rest, IsStopped-next}
use Rattle.osn_lines.proofs.TakeLemmas.{IsUnended-more}
use Rattle.osn_lines.proofs.pieces.take_piece.Goals as goal

pub loop-index-init : goal.loop-index-init
loop-index-init g c = record {
  within = omega arith;
  count = omega arith;
  progress = λ part h. IsTaken-nothing _ _ part c.args.partial_line.now _ h;
}

pub loop-index-preserved : goal.loop-index-preserved
loop-index-preserved g c =
    let piece = c.args.piece.now in
    let from = c.loop-index.from in
    let index = c.in-Some.index in
    let found = c.in-Some.ensures in
    let rest = take_rest piece from in
    record {
      within = omega (arith, found.0.high, ap length rest, length-drop from piece);
      count = omega arith;
      progress = λ part h.
          IsTaken-next _ _ _ _ part piece _ _ c.loop-index.partial_line
          c.take_line.new.partial_line _ _ from
          index (c.loop-index.invariant.progress part h) c.in_ok-take_line.ensures.takes
          (record {
            is_hay = rest;
            is_end = ap (λ k. take k (drop from piece)) (omega arith);
            before = found.0.before;
            within = found.0.high;
            feed = found.1;
          })
          c.in_ok-take_line.ensures.empty;
    }

pub returns-in_err-take_line-clause-fault : goal.returns-in_err-take_line-clause-fault
returns-in_err-take_line-clause-fault g c =
    let after = g.T.LineTaker.after in
    let stopped = g.T.LineTaker.stopped in
    let s = c.args.taker.now in
    let u = c.take_line.new.taker in
    let partial_line = c.args.partial_line.now in
    let piece = c.args.piece.now in
    let from = c.loop-index.from in
    let found = c.in-Some.ensures in
    let progress = c.loop-index.invariant.progress in
    let err = err_from_is_err_and c.from_residual.result c.from_residual.ensures.1 in
    let fault = c.in_err-take_line.field-0.0 in
    if_err_at
    (λ f. MatchFault f
    ((part : List ℕ) → IsUnended partial_line part →
    IsTaken after s u (part ++ piece) c.args.lines.now c.loop-index.lines (λ _. ⊤))
    ⊥
    (λ why. (part : List ℕ) → IsUnended partial_line part →
    IsStopped after stopped s u (part ++ piece) c.args.lines.now c.loop-index.lines why))
    c.from_residual.result err.0 fault err.1 err.2
    (MatchFault-weaker fault _ _ _ _ _ _
    (λ same part h.
    IsTaken-rest after s _ u part piece c.loop-index.partial_line _ _ from (λ _. ⊤)
    (progress part h)
    same (λ left x. tt))
    (λ k. absurd k)
    (λ why stops part h.
    IsStopped-next after stopped s _ u part piece _ _ c.loop-index.partial_line _ _ _ from
    c.in-Some.index why (progress part h) stops
    (record {
      is_hay = take_rest piece from;
      is_end = ap (λ k. take k (drop from piece))
          (omega arith);
      before = found.0.before;
      within = found.0.high;
      feed = found.1;
    })
    refl)
    c.in_err-take_line.ensures.fault)

pub returns-in-Ok-clause-takes : goal.returns-in-Ok-clause-takes
returns-in-Ok-clause-takes g c = λ part h.
    let piece = c.args.piece.now in
    let from = c.loop-index.from in
    IsTaken-rest _ _ _ _ part piece c.loop-index.partial_line _ _ from _
    (c.loop-index.invariant.progress part h) refl
    (λ left k. IsUnended-more c.loop-index.partial_line c.add.new.self _ (drop from piece) left
    (take_rest piece from) c.in-Ok.ensures c.in_default.ensures k)

pub returns-in-Err-clause-fault : goal.returns-in-Err-clause-fault
returns-in-Err-clause-fault g c = λ part h.
    IsTaken-rest _ _ _ _ part c.args.piece.now c.loop-index.partial_line _ _ c.loop-index.from _
    (c.loop-index.invariant.progress part h) refl (λ left k. tt)
