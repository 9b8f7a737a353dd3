use Rattle.std.proofs.Common.{◌≡◌, take}
use Rattle.osn_letters.specs.TallyInside.{with_remarks}
use Rattle.osn_letters.proofs.tally.Tally.count_remarks.Given as goal

-- the remarks so far were counted
abbrev pub invariant-loop-remark : goal.invariant-loop-remark
invariant-loop-remark l =
    record {
      counts : l.self.by_remark
          ≡ with_remarks l.initial.self.by_remark (take l.remark-index l.remarks);
      rows : l.self.rows ≡ l.initial.self.rows;
      remarked : l.self.remarked ≡ l.initial.self.remarked;
    }
