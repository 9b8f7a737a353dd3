use Rattle.json.proofs.Printed.Utf8.{IsUtf8-quoted}
use Rattle.osn_service.proofs.line_writer.LineWriter.push_quoted.Goals as goal

pub push_bytes-requires : goal.push_bytes-requires
push_bytes-requires c =
    rw (c.as_slice.ensures.value, c.in_ok-bytes.ensures) (IsUtf8-quoted c.args.text.now c.utf8.text)
