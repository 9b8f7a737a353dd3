use Rattle.std.proofs.Common.{[], sym, subst}
use Rattle.osn_letters.specs.declared.letters.Letters.{Letters}
use Rattle.osn_letters.specs.LettersInside.{Wrote, text_after}
use Rattle.osn_letters.specs.TableInside.{written_of}
use Rattle.osn_letters.specs.WriterInside.{waiting}
use Rattle.osn_letters.proofs.LastFacts.{last_refused, last_taken, none_last}
use Rattle.osn_letters.proofs.LetterFacts.{err_of_fault, end_refused}
use Rattle.osn_letters.proofs.letters.Letters.take_last.Goals.{in-Some+in_ok-take, in_default}
use Rattle.osn_letters.proofs.letters.Letters.take_last.Goals as goal

pub returns-in_err-ended-clause-stops : goal.returns-in_err-ended-clause-stops
returns-in_err-ended-clause-stops c = err_of_fault _ c.from_residual.result c.in_err-ended.field-0.0
    c.from_residual.ensures.1
    (end_refused c.args.self.now c.in_err-ended.field-0.0 c.in_err-ended.ensures.fault)

pub returns-in_err-take-clause-stops : goal.returns-in_err-take-clause-stops
returns-in_err-take-clause-stops c = err_of_fault _ c.from_residual-in_err-take.result
    c.in_err-take.field-0.0 c.from_residual-in_err-take.ensures.1
    (last_refused c.args.self.now c.take.new.self c.finish.new.self c.in-Some.ended _
    c.in_err-take.field-0.0 c.separator-separator.ensures
    (rw c.in-Some.is at c.in_ok-ended.ensures.ends) c.in_err-take.ensures.refuses)

pub returns-clause-takes : goal.returns-clause-takes
returns-clause-takes c =
    let s = c.args.self.now in
    elim c.match-branch-2.branch [
      | in-Some+in_ok-take w ↦
          subst (λ (t : Letters). Wrote (waiting s.table.out) (waiting t.table.out)
          (text_after s []) (written_of t.table [])) (sym w.self-is)
          (last_taken s w.take.new.self c.finish.new.self w.in-Some.ended _
          w.separator-separator.ensures (rw w.in-Some.is at c.in_ok-ended.ensures.ends)
          w.in_ok-take.ensures.takes)
      | in_default w ↦
          subst (λ (t : Letters). Wrote (waiting s.table.out) (waiting t.table.out)
          (text_after s []) (written_of t.table [])) (sym w.self-is)
          (none_last s c.finish.new.self (rw w.in_default.is at c.in_ok-ended.ensures.ends))
    ]
