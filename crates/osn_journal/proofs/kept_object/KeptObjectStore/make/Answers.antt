use Rattle.osn_journal.proofs.StoreLemmas.{Makes-changed, Faults-changed}
use Rattle.osn_journal.proofs.kept_object.KeptObjectStore.make.Goals as goal

pub returns-in-Stage-clause-ok : goal.returns-in-Stage-clause-ok
returns-in-Stage-clause-ok g c =
    Makes-changed g.K.KeptFile.contents g.K.KeptFile.synced g.K.KeptFile.fault c.args.change
    c.args.self.now _ c.requires c.stage.result (rw c.in-Stage.is c.stage.ensures)

pub returns-in-Stage-clause-err : goal.returns-in-Stage-clause-err
returns-in-Stage-clause-err g c =
    Faults-changed g.K.KeptFile.contents g.K.KeptFile.synced g.K.KeptFile.fault c.args.change
    c.args.self.now _ c.requires c.stage.result (rw c.in-Stage.is c.stage.ensures)

pub returns-in-Publish-clause-ok : goal.returns-in-Publish-clause-ok
returns-in-Publish-clause-ok g c =
    Makes-changed g.K.KeptFile.contents g.K.KeptFile.synced g.K.KeptFile.fault c.args.change
    c.args.self.now _ c.requires c.publish.result (rw c.in-Publish.is c.publish.ensures)

pub returns-in-Publish-clause-err : goal.returns-in-Publish-clause-err
returns-in-Publish-clause-err g c =
    Faults-changed g.K.KeptFile.contents g.K.KeptFile.synced g.K.KeptFile.fault c.args.change
    c.args.self.now _ c.requires c.publish.result (rw c.in-Publish.is c.publish.ensures)
