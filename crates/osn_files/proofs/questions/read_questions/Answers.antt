use Rattle.std.proofs.Common.{◌∙◌, sym, ap, Ok}
use Rattle.osn_files.proofs.QuestionListLemmas.{questions-made}
use Rattle.osn_files.proofs.FileLemmas.{ReadsFile-ok, ReadsFile-err, same_fault}
use Rattle.osn_files.proofs.questions.read_questions.Goals as goal

pub returns-in_err-lists : goal.returns-in_err-lists
returns-in_err-lists g c =
    ReadsFile-err c.from_residual.ensures.1 c.in_err-lists.ensures.file
    (λ ls. same_fault _ _ (questions-made _ _ ls c.newest.ensures c.new-none.ensures))

pub returns : goal.returns
returns g c =
    ReadsFile-ok c.in_ok-lists.ensures.file
    (λ ls is. sym (questions-made _ _ ls c.newest.ensures c.new-none.ensures)
    ∙ (is ∙ ap Ok (sym c.into_inner.ensures)))
