use Rattle.osn_service.proofs.LineLemmas.{print_one}
use Rattle.osn_service.proofs.line_writer.quoted_bytes.Goals as goal

pub returns : goal.returns
returns c =
    rw (
      c.into_inner.ensures.items,
      c.in_ok-string.ensures.ok,
      c.in_ok-string.ensures.room.0,
      c.new-writer.ensures.tokens,
      c.new-writer.ensures.before,
      c.new.ensures.items,
    ) (print_one c.args.text.now)
