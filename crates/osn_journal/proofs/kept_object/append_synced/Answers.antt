use Rattle.osn_journal.specs.KeptJournal.{file_of}
use Rattle.osn_journal.proofs.AppendLemmas.{synced_or_failed}
use Rattle.osn_journal.proofs.kept_object.append_synced.Goals as goal

pub returns : goal.returns
returns g c =
    let append = c.in_ok-append.ensures in
    let sync = c.sync.ensures in
    let file = file_of g.K.KeptFile.contents g.K.KeptFile.synced g.K.KeptFile.fault in
    synced_or_failed c.args.line.now c.sync.result (file c.args.keeper.now)
    (file c.append.new.self) (file c.sync.new.self)
    (record { journal = append.ok; disk = append.disk; sound = append.fault }) sync.same sync.ok
    sync.err sync.fault
