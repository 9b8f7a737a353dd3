use Rattle.std.proofs.Common.{string_bytes, ◌+◌, ◌-◌, take, drop, length}
use Rattle.osn_grammar.proofs.Scanned.{one_taken, slice_left}
use Rattle.osn_grammar.proofs.scan.take_at.Goals as goal

pub returns : goal.returns
returns c =
    let s = c.args.characters.now in
    let next = c.args.place + 1 in
    one_taken c.take.result s (take (length s - next) (drop next s)) c.args.place
    c.index-characters-place.result c.args.tokens.now.items c.take.new.tokens.items
    (string_bytes c.args.word.now) (string_bytes c.take.new.word) c.requires
    c.index-characters-place.is (slice_left s next) c.take.ensures.tokens c.take.ensures.word
