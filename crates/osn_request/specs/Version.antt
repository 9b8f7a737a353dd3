-- The versions, each named by its number in the head of a journal or a script, and what each has:
-- this project's profile.
use Rattle.std.specs.Prelude.{ℕ, ℤ, pos, negsuc, ◌==◌, if◌then◌else◌, Option, Some, None}
use Rattle.std.specs.Prelude.{Bool, true, false}
use Rattle.osn_days.specs.Rules.{Rules, first_rules, newest_rules}
use Rattle.osn_request.specs.declared.version.Version.{Version}
use Rattle.osn_request.specs.declared.version.Version.TheVariants.{First, Second, Fourth}

abbrev pub version_number : Version → ℕ
version_number First = 1
version_number Second = 2
version_number Fourth = 4

-- the version of a number
abbrev pub version_numbered : ℤ → Option Version
version_numbered (pos n) =
    if n == version_number First then Some First
    else (if n == version_number Second then Some Second
    else (if n == version_number Fourth then Some Fourth else None))
version_numbered (negsuc n) = None

-- the version by which requests, questions and schedules are read
abbrev pub newest_version : Version
newest_version = Fourth

-- the version that is written if no source is given, and with which a new kept file begins
abbrev pub plain_version : Version
plain_version = Second

-- the rules of each version
abbrev pub rules_of : Version → Rules
rules_of First = first_rules
rules_of Second = newest_rules
rules_of Fourth = newest_rules

-- whether an edit may give a source in a line of this version
abbrev pub has_sources : Version → Bool
has_sources First = false
has_sources Second = false
has_sources Fourth = true
