use Rattle.std.proofs.Common.{◌≡◌, append_assoc, to_z, of_z, w64}
use Rattle.std.proofs.lemmas.Int.{to_z-of_z}
use Rattle.std.proofs.lemmas.Result.{on_ok_weaker}
use Rattle.osn_register_text.proofs.remark.push_easter_notes.Goals as goal

pub returns : goal.returns
returns c =
    let year : to_z w64 (of_z w64 c.args.year) ≡ c.args.year =
    to_z-of_z w64 c.args.year c.ranges.year in
    let number : to_z w64 (of_z w64 c.args.number) ≡ c.args.number =
    to_z-of_z w64 c.args.number c.ranges.number in
    let known = rw number at c.in-Some.ensures in
    on_ok_weaker c.push_season.result
    (λ e. let same = rw year at e in
    rw (same, c.in_ok-push_weekday.ensures, ← known) (simp append_assoc))
    c.push_season.ensures
