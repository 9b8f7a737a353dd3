use Rattle.std.proofs.Common.{ap}
use Rattle.osn_file_commands.proofs.EditLemmas.{territories_on, lawful_between}
use Rattle.osn_file_commands.proofs.audit_follower.RegisterCursor.at.Goals as goal

pub admit_batches-requires : goal.admit_batches-requires
admit_batches-requires c =
    lawful_between c.args.self.register.limits c.args.batches.now c.args.self.edition
    c.args.edition c.args.self.register.territories c.requires.from c.requires.at.territories
    c.requires.lawful

pub returns-clause-register : goal.returns-clause-register
returns-clause-register c =
    let one = c.in_ok-admit_batches.ensures in
    record {
      there = c.requires.there;
      same = ap (λ r. r.limits) one;
      territories = territories_on c.args.self.register.limits c.args.batches.now
          c.args.self.edition
          c.args.edition c.args.self.register.territories _ c.requires.from
          c.requires.at.territories (ap (λ r. r.territories) one);
    }
