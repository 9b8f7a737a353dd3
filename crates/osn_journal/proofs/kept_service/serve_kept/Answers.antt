use Rattle.std.proofs.Common.{rules}
use Rattle.osn_lines.specs.Streams.{input_of}
use Rattle.osn_journal.specs.declared.kept_object.KeptObject.{KeptObject}
use Rattle.osn_journal.proofs.StoreLemmas.{KeepsFile-begun}
use Rattle.osn_journal.proofs.VersionLemmas.{KeepsEdits-sourceless}
use Rattle.osn_journal.proofs.kept_service.serve_kept.Goals as goal

pub returns-clause-keeps : goal.returns-clause-keeps
returns-clause-keeps g c =
    let initial : KeptObject g.row.K.Denot =
    record { alloc = c.args.alloc; object = c.args.object; keeper = c.args.keeper } in
    let input =
    input_of g.R.Source.remaining g.R.Source.has_failed c.args.source.now c.serve_store.new.source
    in
    let kept =
    KeepsFile-begun g.K.KeptFile.contents g.K.KeptFile.synced g.K.KeptFile.fault c.args.rules
    initial
    c.serve_store.new.store input c.serve_store.result c.serve_store.ensures.keeps in
    search rules

pub returns-clause-edits : goal.returns-clause-edits
returns-clause-edits g c =
    let kept =
    KeepsEdits-sourceless c.args.rules c.args.object.now c.serve_store.new.store.object.now
    c.serve_store.ensures.sources in
    search rules
