use Rattle.std.proofs.Common.{Ok, sym, ◌∙◌}
use Rattle.std.proofs.lemmas.Result.{IfOk-weaker}
use Rattle.osn_serve_commands.proofs.KeepLemmas.{object_refused, some_loaded, some_said}
use Rattle.osn_serve_commands.proofs.loaded_journal.kept_object.Goals as goal

pub returns-clause-object : goal.returns-clause-object
returns-clause-object c =
    IfOk-weaker c.load_with_version.result _ _
    (λ read h. some_loaded c.args.limits _ c.args.lines.now (Ok read.0) c.new-2.ensures
    (sym c.is_empty.ensures ∙ c.if-is_empty.false) h)
    c.load_with_version.ensures.file.made

pub returns-clause-version : goal.returns-clause-version
returns-clause-version c =
    IfOk-weaker c.load_with_version.result _ _
    (λ read h. some_said read.1 _ c.args.lines.now c.new-2.ensures
    (sym c.is_empty.ensures ∙ c.if-is_empty.false) h)
    c.load_with_version.ensures.version

pub returns-clause-err : goal.returns-clause-err
returns-clause-err c =
    object_refused c.args.limits c.args.lines.now (λ read. read.0) c.load_with_version.result _ _
    c.new-2.ensures (sym c.is_empty.ensures ∙ c.if-is_empty.false) c.load_with_version.ensures.file
