use Rattle.std.proofs.Common.{sym, subst, IsUtf8}
use Rattle.osn_files.proofs.LawFacts.{load-journal_text_of}
use Rattle.osn_files.proofs.Utf8Facts.{IsUtf8-journal_text_of}
use Rattle.osn_files.proofs.written.journal_text_of.Goals as goal

pub from_utf8_unchecked-requires : goal.from_utf8_unchecked-requires
from_utf8_unchecked-requires c =
    subst IsUtf8 (sym c.in_ok-bytes.ensures.text)
    (IsUtf8-journal_text_of c.args.version c.args.object.now c.in_ok-bytes.ensures.sound)

pub returns-in_err-bytes-clause-law : goal.returns-in_err-bytes-clause-law
returns-in_err-bytes-clause-law c =
    load-journal_text_of c.args.version c.args.object.now c.journal_bytes.ensures.sound

pub returns-clause-law : goal.returns-clause-law
returns-clause-law c =
    load-journal_text_of c.args.version c.args.object.now c.journal_bytes.ensures.sound
