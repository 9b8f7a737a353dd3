-- The registers that replies are compared with.
use Rattle.std.specs.Prelude.{◌≡◌, ◌≤◌, List, length, map}
use Rattle.std.specs.List.{All}
use Rattle.osn_register.specs.declared.edit.Edit.{Edit}
use Rattle.osn_register.specs.declared.limits.Limits.{Limits}
use Rattle.osn_files.specs.Questions.{most_readers}
use Rattle.osn_file_commands.specs.declared.audit_followers.Followers.TheInside.{Inside}
use Rattle.osn_file_commands.specs.declared.audit_followers.Place.{Place}
use Rattle.osn_file_commands.specs.InsideFollower.{IsAt}
use Rattle.osn_file_commands.specs.AuditState.{AuditState}

-- a reader's last edition is one of the object, and the reader's own register is not after it
pub record IsPlace (limits : Limits) (batches : List (List Edit)) (p : Place) : Type 0 where
  pub there : p.last ≤ length batches
  pub at : IsAt limits batches p.own
  pub from : p.own.edition ≤ p.last

-- each register is at an edition of the object
pub record AreFollowing (fs : Inside) : Type 0 where
  pub count : length fs.places.items ≡ most_readers
  pub latest : IsAt fs.object.limits fs.object.batches fs.latest
  pub each : All (IsPlace fs.object.limits fs.object.batches) fs.places.items

abbrev pub audit_state : Inside → AuditState
audit_state fs =
    record { object = fs.object; last = map (λ p. p.last) fs.places.items }
