use Rattle.std.proofs.Common.{◌≡◌, ◌<◌, [], inl, inr, rules, ◌∙◌, ◌++◌, length, take, refl, sym}
use Rattle.std.proofs.Common.{ap, subst}
use Rattle.std.proofs.Common.{arith}
use Rattle.std.proofs.Common.{length-append}
use Rattle.std.proofs.lemmas.List.{take_at, length-take}
use Rattle.std.proofs.lemmas.Result.{on_ok_weaker, IfErr-weaker, IfOk-weaker}
use Rattle.osn_days.specs.Rules.{newest_rules}
use Rattle.osn_lines.proofs.ByteLemmas.{Consumes-nothing, Consumes-then, Consumes-end, Consumes-keeps}
use Rattle.osn_letters.specs.declared.fault.LettersFault.TheVariants.{NoMemory}
use Rattle.osn_letters.specs.Faults.{is_write_fault}
use Rattle.osn_letters.specs.LettersInside.{Passes, tally_from, text_from}
use Rattle.osn_letters.specs.TableInside.{letters_tally}
use Rattle.osn_letters.specs.Table.{letters_written, basis}
use Rattle.osn_letters.proofs.CountFacts.{all_counted, read_counted}
use Rattle.osn_letters.proofs.LetterFacts.{err_of_fault}
use Rattle.osn_letters.proofs.StreamFacts.{nothing_early, passes_nothing}
use Rattle.osn_letters.proofs.StreamFacts.{end_whole, end_early}
use Rattle.osn_letters.proofs.StreamFacts.{read_early, read_passes, ends_weaker, end_long}
use Rattle.osn_letters.proofs.QuietFacts.{read_settled}
use Rattle.osn_letters.proofs.StreamFacts.{unread_ends, unread_fault}
use Rattle.osn_letters.proofs.StreamFacts.{read_long, input_long, both_ways, ends_by_fault}
use Rattle.osn_letters.proofs.RemarkFacts.{tally_of_rows}
use Rattle.osn_letters.proofs.stream.write_letters.Goals as goal

pub returns-in_default-clause-early : goal.returns-in_default-clause-early
returns-in_default-clause-early g c =
    nothing_early (letters_written
    (basis newest_rules c.args.register.now.territories c.args.edition
    c.args.settings)) _ _ NoMemory refl

pub returns-in_default-new-clause-early : goal.returns-in_default-new-clause-early
returns-in_default-new-clause-early g c =
    nothing_early (letters_written
    (basis newest_rules c.args.register.now.territories c.args.edition
    c.args.settings)) _ _ NoMemory refl

pub returns-then-read-eq0-clause-whole : goal.returns-then-read-eq0-clause-whole
returns-then-read-eq0-clause-whole g c =
    let all = letters_written (basis newest_rules c.args.register.now.territories c.args.edition
    c.args.settings) in
    let inv = c.loop-call.invariant.progress in
    let bytes = c.in-Ok-read.ensures.bytes in
    let some : 0 < length c.read.new.buffer =
    omega (
      arith,
      c.loop-call.invariant.buffer,
      ap length c.deref_mut.ensures.value,
      c.read.auto.buffer,
    ) in
    let consumed =
    Consumes-end _ _ _ inv.0 c.read.new.buffer c.in-Ok-read.read c.if-read-eq0.true inv.2
    bytes.0 in
    on_ok_weaker c.finish_and_write.result
    (λ h. end_whole all (text_from c.loop-call.letters) _ _ _ _ _ inv.0 consumed
    (bytes.1 c.if-read-eq0.true some) inv.3 h)
    c.finish_and_write.ensures.whole

pub returns-then-read-eq0-clause-tally : goal.returns-then-read-eq0-clause-tally
returns-then-read-eq0-clause-tally g c =
    let all = letters_tally (basis newest_rules c.args.register.now.territories c.args.edition
    c.args.settings) in
    let inv = c.loop-call.invariant.progress in
    let bytes = c.in-Ok-read.ensures.bytes in
    let some : 0 < length c.read.new.buffer =
    omega (
      arith,
      c.loop-call.invariant.buffer,
      ap length c.deref_mut.ensures.value,
      c.read.auto.buffer,
    ) in
    let consumed =
    Consumes-end _ _ _ inv.0 c.read.new.buffer c.in-Ok-read.read c.if-read-eq0.true inv.2
    bytes.0 in
    IfOk-weaker c.finish_and_write.result _ _
    (λ tally h. tally_of_rows _ _ tally (all_counted all (tally_from c.loop-call.letters) _ _ inv.0
    tally consumed (bytes.1 c.if-read-eq0.true some) inv.4 h))
    c.finish_and_write.ensures.tally

pub returns-then-read-eq0-clause-early : goal.returns-then-read-eq0-clause-early
returns-then-read-eq0-clause-early g c =
    let all = letters_written (basis newest_rules c.args.register.now.territories c.args.edition
    c.args.settings) in
    let inv = c.loop-call.invariant.progress in
    let bytes = c.in-Ok-read.ensures.bytes in
    let some : 0 < length c.read.new.buffer =
    omega (
      arith,
      c.loop-call.invariant.buffer,
      ap length c.deref_mut.ensures.value,
      c.read.auto.buffer,
    ) in
    let consumed =
    Consumes-end _ _ _ inv.0 c.read.new.buffer c.in-Ok-read.read c.if-read-eq0.true inv.2
    bytes.0 in
    IfErr-weaker c.finish_and_write.result _ _
    (λ fault h. end_early all (text_from c.loop-call.letters) _ _ _ _ _ inv.0 fault consumed
    (bytes.1 c.if-read-eq0.true some) inv.3 h)
    c.finish_and_write.ensures.early

pub returns-then-read-eq0-clause-sink : goal.returns-then-read-eq0-clause-sink
returns-then-read-eq0-clause-sink g c =
    let all = letters_written (basis newest_rules c.args.register.now.territories c.args.edition
    c.args.settings) in
    let inv = c.loop-call.invariant.progress in
    let bytes = c.in-Ok-read.ensures.bytes in
    let some : 0 < length c.read.new.buffer =
    omega (
      arith,
      c.loop-call.invariant.buffer,
      ap length c.deref_mut.ensures.value,
      c.read.auto.buffer,
    ) in
    let consumed =
    Consumes-end _ _ _ inv.0 c.read.new.buffer c.in-Ok-read.read c.if-read-eq0.true inv.2
    bytes.0 in
    both_ways _ _ c.finish_and_write.result
    (on_ok_weaker c.finish_and_write.result (λ same. same ∙ c.loop-call.invariant.sink)
    c.finish_and_write.ensures.sound)
    (IfErr-weaker c.finish_and_write.result _ _
    (λ fault h. ends_weaker (is_write_fault fault) _ _ _ _ _ c.loop-call.invariant.sink
    (end_long all (text_from c.loop-call.letters) _ _ _ _ inv.0 consumed
    (bytes.1 c.if-read-eq0.true some) inv.3)
    h)
    c.finish_and_write.ensures.reason)

pub returns-in_err-take_and_write-clause-early : goal.returns-in_err-take_and_write-clause-early
returns-in_err-take_and_write-clause-early g c =
    let all = letters_written (basis newest_rules c.args.register.now.territories c.args.edition
    c.args.settings) in
    let inv = c.loop-call.invariant.progress in
    let read = c.in-Ok-read.read in
    let got = take read c.read.new.buffer in
    let full : length c.read.new.buffer ≡ c.loop-call.buffer.len =
    omega (
      arith,
      ap length c.deref_mut.ensures.value,
      c.read.auto.buffer,
      c.loop-call.buffer.ok.0,
    ) in
    let same : take read c.deref.result.now ≡ got =
    ap (take read) (c.deref.ensures.value
    ∙ take_at c.read.new.buffer _ c.loop-call.buffer.len full) in
    let fault = c.in_err-take_and_write.field-0.0 in
    err_of_fault _ c.from_residual.result fault c.from_residual.ensures.1
    (read_early all (text_from c.loop-call.letters) _ _ _ _ _ inv.0 got _ fault same
    (Consumes-then _ _ _ inv.0 got inv.2 c.in-Ok-read.ensures.bytes.0) inv.3
    c.in_err-take_and_write.ensures.early)

pub returns-in_err-take_and_write-clause-sink : goal.returns-in_err-take_and_write-clause-sink
returns-in_err-take_and_write-clause-sink g c =
    let all = letters_written (basis newest_rules c.args.register.now.territories c.args.edition
    c.args.settings) in
    let inv = c.loop-call.invariant.progress in
    let read = c.in-Ok-read.read in
    let got = take read c.read.new.buffer in
    let full : length c.read.new.buffer ≡ c.loop-call.buffer.len =
    omega (
      arith,
      ap length c.deref_mut.ensures.value,
      c.read.auto.buffer,
      c.loop-call.buffer.ok.0,
    ) in
    let same : take read c.deref.result.now ≡ got =
    ap (take read) (c.deref.ensures.value
    ∙ take_at c.read.new.buffer _ c.loop-call.buffer.len full) in
    let fault = c.in_err-take_and_write.field-0.0 in
    ends_by_fault _ _ c.from_residual.result fault c.from_residual.ensures.1
    (ends_weaker (is_write_fault fault) _ _ _ _ _ c.loop-call.invariant.sink
    (read_long all (text_from c.loop-call.letters) _ _ _ _ inv.0 got _ same
    (Consumes-then _ _ _ inv.0 got inv.2 c.in-Ok-read.ensures.bytes.0) inv.3)
    c.in_err-take_and_write.ensures.reason)

pub returns-in_default-read-clause-source : goal.returns-in_default-read-clause-source
returns-in_default-read-clause-source g c =
    let all = letters_written (basis newest_rules c.args.register.now.territories c.args.edition
    c.args.settings) in
    let inv = c.loop-call.invariant.progress in (
      inl (search rules),
      λ fault_is. read_settled all c.loop-call.letters _ _ _ _ inv.0
          (Consumes-keeps _ _ _ inv.0 inv.2 c.in_default-read.ensures.bytes) inv.3,
    )

pub returns-then-read-eq0-clause-source : goal.returns-then-read-eq0-clause-source
returns-then-read-eq0-clause-source g c =
    unread_ends _ _ _ _ c.finish_and_write.result
    (c.in-Ok-read.ensures.failed ∙ c.loop-call.invariant.source)
    c.finish_and_write.ensures.unread

pub returns-in_err-take_and_write-clause-source :
    goal.returns-in_err-take_and_write-clause-source
returns-in_err-take_and_write-clause-source g c =
    ends_by_fault _ _ c.from_residual.result c.in_err-take_and_write.field-0.0
    c.from_residual.ensures.1
    (unread_fault _ _ _ _ c.in_err-take_and_write.field-0.0
    (c.in-Ok-read.ensures.failed ∙ c.loop-call.invariant.source)
    c.in_err-take_and_write.ensures.unread)

pub returns-clause-source : goal.returns-clause-source
returns-clause-source g c =
    let all = letters_written (basis newest_rules c.args.register.now.territories c.args.edition
    c.args.settings) in
    let inv = c.loop-call.invariant.progress in (
      inr (input_long _ _ inv.0 4294967295 (omega (arith, inv.1, c.loop-call-test.false)) inv.2),
      λ fault_is. read_settled all c.loop-call.letters _ _ _ _ inv.0 inv.2 inv.3,
    )

pub loop-call-init : goal.loop-call-init
loop-call-init g c =
    let all = letters_written (basis newest_rules c.args.register.now.territories c.args.edition
    c.args.settings) in
    let sink = g.W.Sink.contents c.args.sink.now in
    record {
      buffer = c.in-Ok.ensures;
      few = omega (arith, c.in-Ok-new.ensures.line);
      ready = c.in-Ok-new.ensures.ready;
      empty = c.in-Ok-new.ensures.empty;
      source = refl;
      sink = refl;
      progress = (
        [],
        omega arith,
        Consumes-nothing (g.R.Source.remaining c.args.source.now),
        λ more. subst (Passes sink sink (all more)) (sym (c.in-Ok-new.ensures.text more))
            (passes_nothing sink (all more)),
        λ more. sym (c.in-Ok-new.ensures.tally more),
      );
    }

pub loop-call-preserved : goal.loop-call-preserved
loop-call-preserved g c =
    let all = letters_written (basis newest_rules c.args.register.now.territories c.args.edition
    c.args.settings) in
    let inv = c.loop-call.invariant.progress in
    let read = c.in-Ok-read.read in
    let got = take read c.read.new.buffer in
    let full : length c.read.new.buffer ≡ c.loop-call.buffer.len =
    omega (
      arith,
      ap length c.deref_mut.ensures.value,
      c.read.auto.buffer,
      c.loop-call.buffer.ok.0,
    ) in
    let here : c.deref.result.now ≡ c.read.new.buffer =
    c.deref.ensures.value ∙ take_at c.read.new.buffer _ c.loop-call.buffer.len full in
    let same : take read c.deref.result.now ≡ got = ap (take read) here in
    let size : length got ≡ read =
    omega (arith, length-take read c.read.new.buffer, c.in-Ok-read.ensures.bound) in
    record {
      buffer =
          ap length (sym c.deref.ensures.value ∙ here)
          ∙ omega (arith, full, c.loop-call.invariant.buffer, c.loop-call.buffer.ok.0);
      few =
          omega (
            arith,
            c.in_ok-take_and_write.ensures.line,
            ap length same,
            size,
            full,
            c.in-Ok-read.ensures.bound,
            c.loop-call.invariant.few,
            c.loop-call.invariant.buffer,
            c.loop-call.buffer.ok.0,
          );
      ready = c.in_ok-take_and_write.ensures.ready;
      empty = c.in_ok-take_and_write.ensures.empty;
      source = c.in-Ok-read.ensures.failed ∙ c.loop-call.invariant.source;
      sink = c.in_ok-take_and_write.ensures.sound ∙ c.loop-call.invariant.sink;
      progress = (
        inv.0 ++ got,
        omega (arith, inv.1, size, length-append inv.0 got, c.if-read-eq0.false),
        Consumes-then _ _ _ inv.0 got inv.2 c.in-Ok-read.ensures.bytes.0,
        read_passes all (text_from c.loop-call.letters)
            (text_from c.take_and_write.new.letters) _ _ _ inv.0 got _ same inv.3
            c.in_ok-take_and_write.ensures.passes,
        read_counted (letters_tally
            (basis newest_rules c.args.register.now.territories c.args.edition
            c.args.settings)) (tally_from c.loop-call.letters)
            (tally_from c.take_and_write.new.letters) inv.0 got _ same inv.4
            c.in_ok-take_and_write.ensures.counts,
      );
    }
