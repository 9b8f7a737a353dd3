-- The two copies of the core: which register each side shows, whatever the step before.
use Rattle.std.specs.Prelude.{ℕ, ◌≡◌, ◌==◌, if◌then◌else◌, List, [], take, Option}
use Rattle.std.specs.Prelude.{Some}
use Rattle.osn_days.specs.Rules.{Rules}
use Rattle.osn_register.specs.Plain.{EntryModel, after_edits}
use Rattle.osn_core.specs.declared.phase.Phase.{Phase}
use Rattle.osn_core.specs.declared.phase.Phase.TheVariants.{Ready}
use Rattle.osn_core.specs.declared.reader.ReaderState.{ReaderState}
use Rattle.osn_core.specs.declared.reader.ReaderState.TheVariants.{Entered}
use Rattle.osn_core.specs.declared.reader.ReaderState.TheVariants.{Answered}
use Rattle.osn_core.specs.Sequential.{ObjectState, joined, territories_of, draft_territories}
use Rattle.osn_core.specs.Sequential.{without_last}
use Rattle.osn_core.specs.Machine.{CoreState}

-- the territories of the published edits, without the last ones
abbrev pub published_but_last : Rules → ObjectState → ℕ → List EntryModel
published_but_last p s lag = after_edits p s.limits [] (without_last lag (joined s.batches))

-- the territories of the standby. In Ready it has all edits, published and pending. Otherwise it
-- lacks the last published edits, as many as the lag
abbrev pub standby_territories : Rules → ObjectState → ℕ → Phase → List EntryModel
standby_territories p s lag Ready = draft_territories p s
standby_territories p s lag phase = published_but_last p s lag

-- the territories that a side shows
abbrev pub side_territories : Rules → CoreState → ℕ → List EntryModel
side_territories p c side =
    if side == c.control.side then territories_of p c.object.limits c.object.batches
    else standby_territories p c.object c.control.lag c.control.phase

-- the territories of the first batches
abbrev pub edition_territories : Rules → ObjectState → ℕ → List EntryModel
edition_territories p s edition = territories_of p s.limits (take edition s.batches)

-- a reader that is in a side, entered or answered, sees in it the editions that it entered with
abbrev pub IsSeenBy : Rules → ObjectState → ℕ → List EntryModel → Option ReaderState → Type 0
IsSeenBy p s side territories (Some (Entered query entered edition)) =
    entered ≡ side → territories ≡ edition_territories p s edition
IsSeenBy p s side territories (Some (Answered entered edition)) =
    entered ≡ side → territories ≡ edition_territories p s edition
IsSeenBy p s side territories at = Unit {0}
