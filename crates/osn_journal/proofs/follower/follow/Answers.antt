use Rattle.std.proofs.Common.{◌++◌, ◌∙◌, ap, arith, drop, Err, length, Ok, Option}
use Rattle.std.proofs.Common.{refl}
use Rattle.std.proofs.Common.{subst, sym, [], MatchOption, length-append}
use Rattle.std.proofs.lemmas.List.{length-drop, length-take}
use Rattle.std.proofs.lemmas.Result.{err_from_is_err_and}
use Rattle.osn_lines.specs.Streams.{output_of}
use Rattle.osn_register.specs.declared.limits.Limits.{Limits}
use Rattle.osn_service.specs.declared.fault.ServeFault.TheVariants.{ReadFault}
use Rattle.osn_service.specs.declared.service.Served.{Served}
use Rattle.osn_journal.specs.FollowerInside.{IsJournalOf}
use Rattle.osn_journal.specs.Follows.{Follows}
use Rattle.osn_journal.specs.RoundInside.{GoesOn, IsOver}
use Rattle.osn_journal.specs.Outcomes.{following}
use Rattle.osn_journal.specs.declared.follower_fault.FollowerFault.TheVariants.{Serve}
use Rattle.osn_journal.proofs.OutcomeLemmas.{Arrive-nothing}
use Rattle.osn_journal.proofs.RoundLemmas.{read_fault}
use Rattle.osn_journal.proofs.AllRoundsLemmas.{Follows-after, IsFollowing-none}
use Rattle.osn_journal.proofs.AllRoundsLemmas.{next_invariant}
use Rattle.osn_journal.proofs.follower.follow.Goals as goal

pub loop-call-init : goal.loop-call-init
loop-call-init g c =
    let initial = g.W.Sink.contents c.args.sink.now in
    record {
      buffer = c.in-Ok.ensures;
      few = omega (arith, ap length c.new-2.ensures);
      lines = omega arith;
      limits = c.new.ensures.limits;
      following = (
        [],
        [],
        Arrive-nothing (g.A.Arrivals.arrived c.args.arrivals.now),
        IsFollowing-none (following c.args.rules) initial
            (record { journal = c.new.result; requests = c.new-2.result; lines = 0 })
            (subst (λ (l : Limits). IsJournalOf l [] c.new.result) (sym c.new.ensures.limits)
            c.new.ensures.journal)
            c.new-2.ensures refl,
      );
    }

pub returns-in_err-served-clause-follows : goal.returns-in_err-served-clause-follows
returns-in_err-served-clause-follows g c =
    let rules = following c.args.rules in
    let before = g.A.Arrivals.arrived c.args.arrivals.now in
    let mid = g.A.Arrivals.arrived c.loop-call.arrivals in
    let after = g.A.Arrivals.arrived c.answer_next.new.arrivals in
    let o = output_of g.W.Sink.contents g.W.Sink.has_failed g.W.Sink.holds_back c.args.sink.now
    c.answer_next.new.sink in
    let inv = c.loop-call.invariant.following in
    let end = c.in_err-served.ensures.err in
    let err = err_from_is_err_and c.from_residual.result c.from_residual.ensures.1 in
    subst (λ r. Follows rules c.args.limits before after o r) (sym (err.1 ∙ ap Err err.2))
    (Follows-after rules c.args.limits before mid after o (g.W.Sink.contents c.loop-call.sink)
    c.loop-call.follower inv.0 end.0 inv.1 (Err c.in_err-served.field-0.0)
    c.loop-call.invariant.limits inv.3 inv.2 end.1 end.2)

pub returns-in-Some-clause-follows : goal.returns-in-Some-clause-follows
returns-in-Some-clause-follows g c =
    let rules = following c.args.rules in
    let before = g.A.Arrivals.arrived c.args.arrivals.now in
    let mid = g.A.Arrivals.arrived c.loop-call.arrivals in
    let after = g.A.Arrivals.arrived c.answer_next.new.arrivals in
    let old = g.W.Sink.contents c.loop-call.sink in
    let now = g.W.Sink.contents c.answer_next.new.sink in
    let o = output_of g.W.Sink.contents g.W.Sink.has_failed g.W.Sink.holds_back c.args.sink.now
    c.answer_next.new.sink in
    let f = c.loop-call.follower in
    let inv = c.loop-call.invariant.following in
    let end : IsOver rules mid after old now f c.in-Some.served =
    subst (λ (r : Option Served). MatchOption r
    (GoesOn rules mid after old now f c.answer_next.new.follower)
    (IsOver rules mid after old now f)) c.in-Some.is c.in_ok-served.ensures.goes_on in
    Follows-after rules c.args.limits before mid after o old f inv.0 end.0 inv.1
    (Ok c.in-Some.served) c.loop-call.invariant.limits inv.3 inv.2 end.1 end.2

pub loop-call-preserved : goal.loop-call-preserved
loop-call-preserved g c =
    let rules = following c.args.rules in
    let before = g.A.Arrivals.arrived c.args.arrivals.now in
    let mid = g.A.Arrivals.arrived c.loop-call.arrivals in
    let after = g.A.Arrivals.arrived c.answer_next.new.arrivals in
    let old = g.W.Sink.contents c.loop-call.sink in
    let now = g.W.Sink.contents c.answer_next.new.sink in
    let f = c.loop-call.follower in
    let inv = c.loop-call.invariant.following in
    let new_buffer = c.answer_next.new.buffer in
    let held = c.loop-call.buffer in
    let end : GoesOn rules mid after old now f c.answer_next.new.follower =
    subst (λ (r : Option Served). MatchOption r
    (GoesOn rules mid after old now f c.answer_next.new.follower)
    (IsOver rules mid after old now f)) c.in_default-2.is c.in_ok-served.ensures.goes_on in
    record {
      buffer = omega (
        arith,
        length-take held.len (new_buffer ++ drop (length new_buffer) held.items),
        length-append new_buffer (drop (length new_buffer) held.items),
        length-drop (length new_buffer) held.items,
        held.ok.0,
        c.loop-call.invariant.buffer,
        c.answer_next.ensures.buffer,
      );
      few = c.in_ok-served.ensures.few;
      lines = omega (arith, c.loop-call.invariant.lines, c.answer_next.ensures.room);
      limits = end.2 ∙ c.loop-call.invariant.limits;
      following =
          next_invariant rules before mid after (g.W.Sink.contents c.args.sink.now) old now f
          c.answer_next.new.follower inv.0 inv.1 inv.2 inv.3 end;
    }

pub returns-clause-follows : goal.returns-clause-follows
returns-clause-follows g c =
    let rules = following c.args.rules in
    let before = g.A.Arrivals.arrived c.args.arrivals.now in
    let mid = g.A.Arrivals.arrived c.loop-call.arrivals in
    let old = g.W.Sink.contents c.loop-call.sink in
    let o = output_of g.W.Sink.contents g.W.Sink.has_failed g.W.Sink.holds_back c.args.sink.now
    c.loop-call.sink in
    let f = c.loop-call.follower in
    let inv = c.loop-call.invariant.following in
    Follows-after rules c.args.limits before mid mid o old f inv.0 [] inv.1
    (Err (record { lines = f.lines; cause = Serve ReadFault })) c.loop-call.invariant.limits inv.3
    inv.2 (Arrive-nothing mid) (read_fault rules f old)
