use Rattle.std.proofs.Common.{◌≡◌, ◌<◌, ◌≤◌, ◌∙◌, [], ◌++◌, length, take, refl, sym, ap}
use Rattle.std.proofs.Common.{arith}
use Rattle.std.proofs.lemmas.List.{take_at, length-take, length-append}
use Rattle.std.proofs.lemmas.Result.{IfOk-weaker, IfErr-weaker}
use Rattle.osn_lines.specs.Inside.{IsUnended}
use Rattle.osn_lines.proofs.ByteLemmas.{Consumes-nothing, Consumes-then, Consumes-end}
use Rattle.osn_lines.proofs.ByteLemmas.{Consumes-keeps}
use Rattle.osn_lines.proofs.InputLemmas.{MatchFault-weaker, TakesAll-from, TakesEnded-from}
use Rattle.osn_lines.proofs.InputLemmas.{TakesFirst-from, TakesFirst-at_end, HasRead-from}
use Rattle.osn_lines.proofs.InputLemmas.{HasKeptUp-all, HasKeptUp-at_end, HasKeptUp-more, counts_on}
use Rattle.osn_lines.proofs.InputLemmas.{StopsAfter-at_end, StopsAfter-from}
use Rattle.osn_lines.proofs.TakeLemmas.{Takes-nothing, IsTaken-rests, IsTaken-then, IsStopped-then}
use Rattle.osn_lines.proofs.stream.take_lines.Goals as goal

pub loop-call-init : goal.loop-call-init
loop-call-init g c = record {
  room = omega (arith, c.in-Ok.ensures, c.room.ensures.some);
  buffer = omega (arith, c.in-Ok.ensures, c.room.ensures.most);
  few = omega arith;
  source = refl;
  progress = (
    [],
    omega arith,
    Consumes-nothing _,
    record {
      lines_taken = [];
      left = [];
      cuts = record { whole = λ more. refl };
      takes = Takes-nothing g.T.LineTaker.after c.args.taker.now;
      count = refl;
      rest = (c.new-partial_line.ensures, tt);
    },
  );
}

pub returns-in_default-read-clause-fault : goal.returns-in_default-read-clause-fault
returns-in_default-read-clause-fault g c =
    let inv = c.loop-call.invariant.progress in
    let after = g.T.LineTaker.after in
    let ready =
    IsTaken-rests after c.args.taker.now c.loop-call.taker c.before_read.new.self inv.0 0
    c.loop-call.lines (IsUnended c.loop-call.partial_line) inv.3
    c.in_default-before_read.ensures.ready in
    TakesEnded-from after _ _ _ _ inv.0 c.loop-call.partial_line _ ready
    (Consumes-keeps _ _ _ inv.0 inv.2 c.in_default-read.ensures.bytes)

pub returns-then-read-eq0-clause-takes : goal.returns-then-read-eq0-clause-takes
returns-then-read-eq0-clause-takes g c =
    let inv = c.loop-call.invariant.progress in
    let after = g.T.LineTaker.after in
    let s = c.args.taker.now in
    let t = c.before_read.new.self in
    let bytes = c.in-Ok-read.ensures.bytes in
    let some : 0 < length c.read.new.buffer =
    omega (
      arith,
      c.loop-call.invariant.buffer,
      ap length c.deref_mut.ensures.value,
      c.read.auto.buffer,
    ) in
    let consumed =
    Consumes-end _ _ _ inv.0 c.read.new.buffer c.in-Ok-read.read c.if-read-eq0.true inv.2
    bytes.0 in
    let ready =
    IsTaken-rests after s c.loop-call.taker t inv.0 0 c.loop-call.lines
    (IsUnended c.loop-call.partial_line) inv.3 c.in_default-before_read.ensures.ready in
    IfOk-weaker c.take_rest.result _ _
    (λ n h. TakesAll-from after s t c.take_rest.new.taker _ _ inv.0 c.loop-call.partial_line _ n
    ready
    consumed (bytes.1 c.if-read-eq0.true some) h)
    c.take_rest.ensures.takes

pub returns-then-read-eq0-clause-fault : goal.returns-then-read-eq0-clause-fault
returns-then-read-eq0-clause-fault g c =
    let inv = c.loop-call.invariant.progress in
    let after = g.T.LineTaker.after in
    let stopped = g.T.LineTaker.stopped in
    let s = c.args.taker.now in
    let t = c.before_read.new.self in
    let u = c.take_rest.new.taker in
    let bytes = c.in-Ok-read.ensures.bytes in
    let some : 0 < length c.read.new.buffer =
    omega (
      arith,
      c.loop-call.invariant.buffer,
      ap length c.deref_mut.ensures.value,
      c.read.auto.buffer,
    ) in
    let consumed =
    Consumes-end _ _ _ inv.0 c.read.new.buffer c.in-Ok-read.read c.if-read-eq0.true inv.2
    bytes.0 in
    let end = bytes.1 c.if-read-eq0.true some in
    let ready =
    IsTaken-rests after s c.loop-call.taker t inv.0 0 c.loop-call.lines
    (IsUnended c.loop-call.partial_line) inv.3 c.in_default-before_read.ensures.ready in
    IfErr-weaker c.take_rest.result _ _
    (λ last h. MatchFault-weaker last.cause _ _ _ _ _ _
    (λ same. TakesFirst-at_end after s t u _ _ inv.0 c.loop-call.partial_line _ last.lines ready
    consumed
    h.0 same)
    (λ k. absurd k)
    (λ why stops. StopsAfter-at_end after stopped s t u _ _ inv.0 c.loop-call.partial_line _
    last.lines
    why ready consumed end h.0 stops)
    h.1)
    c.take_rest.ensures.fault

pub returns-in-Err-take_piece-clause-fault : goal.returns-in-Err-take_piece-clause-fault
returns-in-Err-take_piece-clause-fault g c =
    let inv = c.loop-call.invariant.progress in
    let after = g.T.LineTaker.after in
    let stopped = g.T.LineTaker.stopped in
    let s = c.args.taker.now in
    let t = c.before_read.new.self in
    let u = c.take_piece.new.taker in
    let got = take c.in-Ok-read.read c.read.new.buffer in
    let full : length c.read.new.buffer ≡ c.loop-call.buffer.len =
    omega (
      arith,
      ap length c.deref_mut.ensures.value,
      c.read.auto.buffer,
      c.loop-call.buffer.ok.0,
    ) in
    let same : take c.in-Ok-read.read c.deref.result.now ≡ got =
    ap (take c.in-Ok-read.read) (c.deref.ensures.value
    ∙ take_at c.read.new.buffer _ c.loop-call.buffer.len full) in
    let consumed = Consumes-then _ _ _ inv.0 got inv.2 c.in-Ok-read.ensures.bytes.0 in
    let ready =
    IsTaken-rests after s c.loop-call.taker t inv.0 0 c.loop-call.lines
    (IsUnended c.loop-call.partial_line) inv.3 c.in_default-before_read.ensures.ready in
    MatchFault-weaker c.in-Err-take_piece.cause _ _ _ _ _ _
    (λ h. TakesFirst-from after s u _ _ (inv.0 ++ got) _ _
    (IsTaken-then after s t u inv.0 _ got c.loop-call.partial_line 0 _ _ _ ready same h) consumed)
    (λ k. absurd k)
    (λ why h. StopsAfter-from after stopped s u _ _ (inv.0 ++ got) _ why
    (IsStopped-then after stopped s t u inv.0 _ got c.loop-call.partial_line 0 _ _ why ready same h)
    consumed)
    c.in-Err-take_piece.ensures.fault

pub loop-call-preserved : goal.loop-call-preserved
loop-call-preserved g c =
    let inv = c.loop-call.invariant.progress in
    let after = g.T.LineTaker.after in
    let s = c.args.taker.now in
    let t = c.before_read.new.self in
    let u = c.take_piece.new.taker in
    let bytes = c.in-Ok-read.ensures.bytes in
    let read = c.in-Ok-read.read in
    let got = take read c.read.new.buffer in
    let full : length c.read.new.buffer ≡ c.loop-call.buffer.len =
    omega (
      arith,
      ap length c.deref_mut.ensures.value,
      c.read.auto.buffer,
      c.loop-call.buffer.ok.0,
    ) in
    let here : c.deref.result.now ≡ c.read.new.buffer =
    c.deref.ensures.value ∙ take_at c.read.new.buffer _ c.loop-call.buffer.len full in
    let same : take read c.deref.result.now ≡ got = ap (take read) here in
    let size : length got ≡ read =
    omega (arith, length-take read c.read.new.buffer, c.in-Ok-read.ensures.bound) in
    let ready =
    IsTaken-rests after s c.loop-call.taker t inv.0 0 c.loop-call.lines
    (IsUnended c.loop-call.partial_line) inv.3 c.in_default-before_read.ensures.ready in
    let all =
    IsTaken-then after s t u inv.0 _ got c.loop-call.partial_line 0 c.loop-call.lines _ _ ready same
    c.in_default-take_piece.ensures.takes in
    let size_now = ap length (sym c.deref.ensures.value ∙ here) in
    record {
      room = omega (arith, size_now, full, c.loop-call.invariant.room, c.loop-call.buffer.ok.0);
      buffer =
          omega (arith, size_now, full, c.loop-call.invariant.buffer, c.loop-call.buffer.ok.0);
      few =
          omega (
            arith,
            c.in_default-take_piece.ensures.count,
            ap length same,
            size,
            full,
            c.in-Ok-read.ensures.bound,
            c.loop-call.invariant.few,
            c.loop-call.invariant.buffer,
            c.loop-call.buffer.ok.0,
          );
      source = c.in-Ok-read.ensures.failed ∙ c.loop-call.invariant.source;
      progress = (
        inv.0 ++ got,
        omega (arith, inv.1, size, length-append inv.0 got, c.if-read-eq0.false),
        Consumes-then _ _ _ inv.0 got inv.2 bytes.0,
        all,
      );
    }

pub returns-clause-fault : goal.returns-clause-fault
returns-clause-fault g c =
    let inv = c.loop-call.invariant.progress in
    TakesEnded-from g.T.LineTaker.after _ _ _ _ inv.0 c.loop-call.partial_line _ inv.3 inv.2

pub returns-in-Err-clause-recent : goal.returns-in-Err-clause-recent
returns-in-Err-clause-recent g c =
    let inv = c.loop-call.invariant.progress in
    HasKeptUp-all _ _ _
    (HasRead-from g.T.LineTaker.after _ _ _ _ inv.0 c.loop-call.partial_line _ inv.3
    inv.2)

pub returns-in_default-read-clause-recent : goal.returns-in_default-read-clause-recent
returns-in_default-read-clause-recent g c =
    let inv = c.loop-call.invariant.progress in
    HasKeptUp-all _ _ _
    (HasRead-from g.T.LineTaker.after _ _ _ _ inv.0 c.loop-call.partial_line _ inv.3
    (Consumes-keeps _ _ _ inv.0 inv.2 c.in_default-read.ensures.bytes))

pub returns-then-read-eq0-clause-recent : goal.returns-then-read-eq0-clause-recent
returns-then-read-eq0-clause-recent g c =
    let inv = c.loop-call.invariant.progress in
    let consumed =
    Consumes-end _ _ _ inv.0 c.read.new.buffer c.in-Ok-read.read c.if-read-eq0.true inv.2
    c.in-Ok-read.ensures.bytes.0 in
    let before = HasRead-from g.T.LineTaker.after _ _ _ _ inv.0 c.loop-call.partial_line _ inv.3
    consumed
    in
    IfErr-weaker c.take_rest.result _ _
    (λ last h. HasKeptUp-at_end _ _ _ last.lines before h.0)
    c.take_rest.ensures.fault

pub returns-in-Err-take_piece-clause-recent : goal.returns-in-Err-take_piece-clause-recent
returns-in-Err-take_piece-clause-recent g c =
    let inv = c.loop-call.invariant.progress in
    let got = take c.in-Ok-read.read c.read.new.buffer in
    let few : length got ≤ 65536 =
    omega (
      arith,
      length-take c.in-Ok-read.read c.read.new.buffer,
      c.loop-call.invariant.buffer,
      ap length c.deref_mut.ensures.value,
      c.read.auto.buffer,
    ) in
    let le =
    counts_on c.in-Err-take_piece.cause c.loop-call.lines c.take_piece.new.lines
    (MatchFault-weaker c.in-Err-take_piece.cause _ _ _ _ _ _
    (λ h. omega (arith, (h inv.3.left inv.3.rest).count)) (λ k. k)
    (λ why h. omega (arith, (h inv.3.left inv.3.rest).count))
    c.in-Err-take_piece.ensures.fault) in
    HasKeptUp-more g.T.LineTaker.after _ _ _ _ inv.0 got c.loop-call.partial_line c.loop-call.lines
    _
    inv.3 (Consumes-then _ _ _ inv.0 got inv.2 c.in-Ok-read.ensures.bytes.0) few le

pub returns-clause-recent : goal.returns-clause-recent
returns-clause-recent g c =
    let inv = c.loop-call.invariant.progress in
    HasKeptUp-all _ _ _
    (HasRead-from g.T.LineTaker.after _ _ _ _ inv.0 c.loop-call.partial_line _ inv.3
    inv.2)
