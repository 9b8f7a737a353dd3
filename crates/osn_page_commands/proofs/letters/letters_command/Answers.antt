use Rattle.std.proofs.Common.{refl, inl}
use Rattle.osn_report.proofs.FileLemmas.{file_fault}
use Rattle.osn_page_commands.proofs.letters.letters_command.Goals as goal

pub returns-in-Err : goal.returns-in-Err
returns-in-Err g c =
    inl (
      c.in-Err.fault,
      file_fault c.in-Err.fault c.in-Err.ensures.file,
      (refl, c.report_at.ensures),
    )
