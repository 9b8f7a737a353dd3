use Rattle.std.proofs.Common.{◌≡◌, true, false, refl, rules, subst, take}
use Rattle.std.specs.Io.KnownBytes.{Appends}
use Rattle.osn_letters.specs.declared.fault.LettersFault.TheVariants.{NoMemory, WriteFault}
use Rattle.osn_letters.specs.LettersInside.{is_known}
use Rattle.osn_letters.specs.WriterInside.{waiting}
use Rattle.osn_letters.proofs.LetterFacts.{all_early, nothing_written, part_early, unknown_early}
use Rattle.osn_letters.proofs.stream.write_out.Goals as goal

pub returns-then-not-is_known-clause-early : goal.returns-then-not-is_known-clause-early
returns-then-not-is_known-clause-early g c =
    let unknown : is_known c.args.outcome ≡ false = search rules in
    unknown_early (g.W.Sink.contents c.args.sink.now) (waiting c.args.out.now) c.args.outcome
    unknown

pub returns-in_default-clause-early : goal.returns-in_default-clause-early
returns-in_default-clause-early g c = λ w waits. nothing_written _ w NoMemory refl

pub returns-in-Ok-write_all-clause-early : goal.returns-in-Ok-write_all-clause-early
returns-in-Ok-write_all-clause-early g c =
    let known : is_known c.args.outcome ≡ true = search rules in
    let text : c.deref.result.now ≡ waiting c.args.out.now = search rules in
    all_early _ _ (waiting c.args.out.now) c.args.outcome known
    (subst (Appends (g.W.Sink.contents c.args.sink.now) (g.W.Sink.contents c.write_all.new.sink))
    text c.in-Ok-write_all.ensures.ok)

pub returns-in-Err-clause-early : goal.returns-in-Err-clause-early
returns-in-Err-clause-early g c =
    let known : is_known c.args.outcome ≡ true = search rules in
    let text : c.deref.result.now ≡ waiting c.args.out.now = search rules in
    λ w waits.
    part_early _ _ (waiting c.args.out.now) c.in-Err.field-0 c.args.outcome WriteFault w known
    (subst (λ l. Appends (g.W.Sink.contents c.args.sink.now)
    (g.W.Sink.contents c.write_all.new.sink) (take c.in-Err.field-0 l)) text
    c.in-Err.ensures.err.1)
    refl waits
