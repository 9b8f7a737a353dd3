use Rattle.std.proofs.Common.{◌∙◌, sym, ap, arith, if◌then◌else◌}
use Rattle.osn_files.specs.declared.last_line.LastLine.TheVariants.{LacksFeed, Unfinished}
use Rattle.osn_files.proofs.LastLineLemmas.{none_ended, long_lacks, found_last}
use Rattle.osn_files.proofs.last_line.state_of.Goals as goal

pub returns-then-is_empty : goal.returns-then-is_empty
returns-then-is_empty c =
    none_ended c.args.line.now c.args.lines (sym c.is_empty.ensures ∙ c.if-is_empty.true)

pub returns-then-line-gt-LONGEST_LINE : goal.returns-then-line-gt-LONGEST_LINE
returns-then-line-gt-LONGEST_LINE c =
    long_lacks c.args.line.now c.args.lines (omega (arith, c.if-line-gt-LONGEST_LINE.true))

pub returns-then-branch : goal.returns-then-branch
returns-then-branch c =
    found_last c.args.line.now c.args.lines _ _ (sym c.is_empty.ensures ∙ c.if-is_empty.false)
    c.in_ok-is_unfinished.ensures
    (ap (λ t. if t then Unfinished else LacksFeed) (sym c.if-branch.true))

pub returns : goal.returns
returns c =
    found_last c.args.line.now c.args.lines _ _ (sym c.is_empty.ensures ∙ c.if-is_empty.false)
    c.in_ok-is_unfinished.ensures
    (ap (λ t. if t then Unfinished else LacksFeed) (sym c.if-branch.false))
