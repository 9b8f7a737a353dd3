-- The messages on refusals: what the register allows. This project's profile.
use Rattle.std.specs.Prelude.{ℕ, List, ◌++◌, codes}
use Rattle.osn_register.specs.declared.refusal.Refusal.{Refusal}
use Rattle.osn_register.specs.declared.refusal.Refusal.TheVariants as refusals

-- the text on a refusal
abbrev pub refusal_message : Refusal → List ℕ
refusal_message refusals.BadCode = codes
    "a code has 2 to 8 capital letters or digits, the first a letter"
refusal_message refusals.BadName = codes "a name has 1 to 64 bytes, and no control character"
refusal_message refusals.UnknownLand = codes "an edit names a territory that the register has"
refusal_message refusals.LandExists = codes "a code belongs to one territory"
refusal_message refusals.DayOffLine = codes "a day is 1 to 3652059"
refusal_message refusals.ChangeExists = codes "a territory has at most one change on a day"
refusal_message refusals.NoSuchChange = codes "a change is on a day on which a period starts"
refusal_message refusals.OpeningPeriod = codes
    "a change is later than day 1, on which the territory begins"
refusal_message refusals.YearOffRange = codes "a year is 1 to 9999"
refusal_message refusals.ExceptionExists = codes "a year has at most one listed Easter"
refusal_message refusals.NoSuchException = codes "only a year with a listed Easter can lose it"
refusal_message refusals.TooManyLands = codes
    "the register has no room for another territory (--limits lands=N allows more)"
refusal_message refusals.TooManyChanges = codes
    "the register has no room for another change there (--limits changes=N allows more)"
refusal_message refusals.TooManyExceptions =
    codes "the register has no room for another listed Easter there "
    ++ codes "(--limits exceptions=N allows more)"
refusal_message refusals.NothingPending = codes "an edition has at least one edit"
refusal_message refusals.JournalFull = codes "the journal has no room for another edit"
refusal_message refusals.EditionsFull = codes "the journal has no room for another edition"
refusal_message refusals.BadDate = codes "a month is 1 to 12 and a day 1 to 31"
refusal_message refusals.StyleNeedsJulian = codes
    "years from Easter require the Julian calendar and the Julian rule"
refusal_message refusals.NoMemory = codes "the call may be tried again"
refusal_message refusals.BadCount = codes "there are 1 to 64 readers"

-- the text on the refusal of a query, by what was published: the year of two queries may be 0 or
-- 10000
abbrev pub query_message : Refusal → List ℕ
query_message refusals.UnknownLand = codes
    "no published territory has this code: the query lands lists them"
query_message refusals.YearOffRange = codes
    "a year is 1 to 9999, and that of read and convert 0 to 10000"
query_message refusal = refusal_message refusal
