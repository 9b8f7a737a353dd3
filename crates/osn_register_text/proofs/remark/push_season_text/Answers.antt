use Rattle.std.proofs.Common.{◌≡◌, to_z, of_z, w64}
use Rattle.std.proofs.lemmas.Int.{to_z-of_z}
use Rattle.osn_register_text.specs.Remark.{season_text}
use Rattle.osn_register_text.proofs.remark.push_season_text.Goals as goal

pub returns : goal.returns
unfolding season_text
returns c =
    let year : to_z w64 (of_z w64 c.args.year) ≡ c.args.year =
    to_z-of_z w64 c.args.year c.ranges.year in
    rw year at c.write.ensures.bytes
