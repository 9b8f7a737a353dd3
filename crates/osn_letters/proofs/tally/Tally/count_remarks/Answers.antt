use Rattle.std.proofs.Common.{◌∙◌}
use Rattle.osn_letters.proofs.TallyFacts.{remark_taken}
use Rattle.osn_letters.proofs.tally.Tally.count_remarks.Goals as goal

pub loop-remark-preserved : goal.loop-remark-preserved
loop-remark-preserved c = record {
  counts =
      remark_taken c.args.self.now.by_remark _ _ c.args.remarks.now c.loop-remark.remark-index _ _
      c.loop-remark-test.true c.loop-remark.invariant.counts c.words.ensures
      c.in_ok-count_words.ensures.words;
  rows = c.count_words.ensures.rows ∙ c.loop-remark.invariant.rows;
  remarked = c.count_words.ensures.remarked ∙ c.loop-remark.invariant.remarked;
}
