use Rattle.std.proofs.Common.{◌++◌, ◌∙◌, sym, subst, List, ℕ}
use Rattle.osn_lines.specs.LastLineFeed.{ended_bytes}
use Rattle.osn_journal.specs.FollowerInside.{GivesSameLines}
use Rattle.osn_journal.proofs.FrontLemmas.{ended-added, few-added, long_of, not_long, rest-added}
use Rattle.osn_journal.proofs.LineLemmas.{rest-pass, no_line-pass}
use Rattle.osn_journal.proofs.line_front.LineFront.read.Goals as goal
use Rattle.osn_journal.proofs.line_front.LineFront.read.Goals.{else-len-gt-LONGEST_LINE-via-then-len-gt-LONGEST_LINE+else-ended_length-eq0}
use Rattle.osn_journal.proofs.line_front.LineFront.read.Goals.{else-len-gt-LONGEST_LINE-via-else-len-gt-LONGEST_LINE}

pub returns-then-ended_length-eq0-clause-lines : goal.returns-then-ended_length-eq0-clause-lines
returns-then-ended_length-eq0-clause-lines c = λ pending_bytes h.
    subst (λ (l : List ℕ). GivesSameLines l (ended_bytes (pending_bytes ++ c.args.more.now)))
    (sym c.new.ensures.items)
    (no_line-pass pending_bytes c.args.more.now c.args.self.now h
    (sym c.ended_length.ensures.value ∙ c.if-ended_length-eq0.true))

pub returns-then-ended_length-eq0-clause-rest : goal.returns-then-ended_length-eq0-clause-rest
returns-then-ended_length-eq0-clause-rest c = λ pending_bytes h.
    rest-pass pending_bytes c.args.more.now c.args.self.now h
    (sym c.ended_length.ensures.value ∙ c.if-ended_length-eq0.true)
    (long_of c.args.self.now _ c.len.ensures c.if-len-gt-LONGEST_LINE.true)

pub returns-clause-few : goal.returns-clause-few
returns-clause-few c =
    few-added c.args.self.now c.add.new.self c.args.more.now c.add.result c.add.ensures.rest
    c.requires.few
    (λ long none.
    elim c.else-len-gt-LONGEST_LINE.branch [
      | else-len-gt-LONGEST_LINE-via-then-len-gt-LONGEST_LINE+else-ended_length-eq0 w ↦
          absurd (w.if-ended_length-eq0.false (w.ended_length.ensures.value ∙ none))
      | else-len-gt-LONGEST_LINE-via-else-len-gt-LONGEST_LINE w ↦
          absurd (not_long c.args.self.now c.len.result c.len.ensures
          w.if-len-gt-LONGEST_LINE.false long)
    ])

pub returns-clause-lines : goal.returns-clause-lines
returns-clause-lines c =
    ended-added c.args.self.now c.add.new.self c.args.more.now (λ ended. ended.items) c.add.result
    c.add.ensures.ended

pub returns-clause-rest : goal.returns-clause-rest
returns-clause-rest c =
    rest-added c.args.self.now c.add.new.self c.args.more.now c.add.result c.add.ensures.rest
