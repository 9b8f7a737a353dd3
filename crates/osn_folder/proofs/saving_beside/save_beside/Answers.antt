use Rattle.std.proofs.Common.{string_bytes}
use Rattle.osn_folder.proofs.BesideLemmas.{left_beside, saved_beside}
use Rattle.osn_folder.proofs.saving_beside.save_beside.Goals as goal

pub returns-in-Ok-clause-ok : goal.returns-in-Ok-clause-ok
returns-in-Ok-clause-ok g c =
    saved_beside c.args.path.now (string_bytes c.in_ok-place.place) c.as_str.result.now
    c.as_str-2.result.now (string_bytes c.in_ok-backup.backup) c.args.text.now _ _ _ _
    c.as_str.ensures.value c.as_str-2.ensures.value c.in_ok-place.ensures.ok
    c.in_ok-backup.ensures.ok c.in-Ok.ensures.ok c.in-Ok.ensures.safe c.save_at.ensures.sure

pub returns-clause-err : goal.returns-clause-err
returns-clause-err g c =
    left_beside c.args.path.now (string_bytes c.in_ok-place.place) c.as_str.result.now
    c.as_str-2.result.now (string_bytes c.in_ok-backup.backup) c.as_str-in-Err.result.now
    c.args.text.now c.in-Err.fault _ _ _ _ _ c.as_str.ensures.value c.as_str-2.ensures.value
    c.as_str-in-Err.ensures.value c.in_ok-place.ensures.ok c.in_ok-backup.ensures.ok
    c.in-Err.ensures.err c.in-Err.ensures.crash c.save_at.ensures.sure c.give_up.ensures
