use Rattle.std.proofs.Common.{◌≡◌, to_z, of_z, w64}
use Rattle.std.proofs.lemmas.Int.{to_z-of_z}
use Rattle.osn_register_text.specs.Line.{no_easter_words}
use Rattle.osn_register_text.proofs.line.push_no_easter.Goals as goal

pub returns : goal.returns
unfolding no_easter_words
returns c =
    let year : to_z w64 (of_z w64 c.args.year) ≡ c.args.year =
    to_z-of_z w64 c.args.year c.ranges.year in
    rw year at c.write.ensures.bytes
