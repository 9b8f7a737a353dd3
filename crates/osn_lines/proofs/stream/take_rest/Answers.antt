use Rattle.std.proofs.Common.{◌≡◌, ◌∙◌, List, [], ◌∷◌, Some, length, refl, sym, ap, arith, subst}
use Rattle.std.proofs.Common.{append-nil, ℕ}
use Rattle.osn_lines.specs.Lines.{lines}
use Rattle.osn_lines.specs.Takers.{Takes, Stops}
use Rattle.osn_lines.proofs.InputLemmas.{MatchFault-weaker}
use Rattle.osn_lines.proofs.LineLemmas.{lines-rest}
use Rattle.osn_lines.proofs.TakeLemmas.{Takes-nothing}
use Rattle.osn_lines.proofs.stream.take_rest.Goals as goal

pub returns-then-is_empty-clause-takes : goal.returns-then-is_empty-clause-takes
returns-then-is_empty-clause-takes g c part h =
    let none : part ≡ [] = c.is_empty.ensures.empty c.if-is_empty.true part h.0 in
    let no_lines : lines part ≡ [] = ap lines none in (
      subst (Takes g.T.LineTaker.after c.args.taker.now c.args.taker.now) (sym no_lines)
          (Takes-nothing g.T.LineTaker.after c.args.taker.now),
      omega (arith, ap length no_lines),
    )

pub returns-in-Ok-clause-takes : goal.returns-in-Ok-clause-takes
returns-in-Ok-clause-takes g c part h =
    let one = lines-rest part h.1 (c.is_empty.ensures.some c.if-is_empty.false part h.0) in (
      subst (Takes g.T.LineTaker.after c.args.taker.now c.take_line.new.taker) (sym one)
          (c.in-Ok.ensures.takes part h.0),
      omega (arith, ap length one),
    )

pub returns-in-Err-clause-fault : goal.returns-in-Err-clause-fault
returns-in-Err-clause-fault g c =
    let after = g.T.LineTaker.after in
    let stopped = g.T.LineTaker.stopped in
    let s = c.args.taker.now in
    let u = c.take_line.new.taker in (
      refl,
      MatchFault-weaker c.in-Err.cause _ _ _ _ _ _
          (λ k. k)
          (λ k. k)
          (λ why stops part h. (
            lines-rest part h.1 (c.is_empty.ensures.some c.if-is_empty.false part h.0)
                ∙ ap (λ l. l ∷ []) (append-nil part),
            subst (λ (l : List ℕ). Stops after stopped s u (Some l) why) (append-nil part)
                (stops part h.0),
          ))
          c.in-Err.ensures.fault,
    )
