use Rattle.std.proofs.Common.{rules, ap, sym}
use Rattle.osn_letters.proofs.TallyFacts.{words_counted}
use Rattle.osn_letters.proofs.tally.Tally.count_words.Goals as goal

pub returns-clause-words : goal.returns-clause-words
returns-clause-words c =
    words_counted c.args.self.now.by_remark _ _ c.args.words _
    (ap (λ t. t.by_remark) (sym c.self.view_is)) c.in_ok-insert.ensures.entries (search rules)
