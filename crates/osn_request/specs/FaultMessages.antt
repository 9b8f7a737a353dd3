-- The messages on faults of a line: what a line, or one of its members, has to be. This project's
-- profile.
use Rattle.std.specs.Prelude.{ℕ, List, ◌++◌, codes}
use Rattle.osn_request.specs.declared.member.Member.{Member}
use Rattle.osn_request.specs.declared.member.Member.TheVariants as members
use Rattle.osn_request.specs.declared.wire_fault.WireFault.{WireFault}
use Rattle.osn_request.specs.declared.wire_fault.WireFault.TheVariants as faults

-- the text on a member that is missing, of another type, or not one of its words
abbrev pub member_message : Member → List ℕ
member_message members.Op = codes "op is a text: the name of an edit or of a query, or publish"
member_message members.Code = codes "code is a text: the code of a territory, such as GB"
member_message members.Name = codes "name is a text: the name of a territory"
member_message members.Calendar = codes "calendar is julian, gregorian or swedish"
member_message members.Style = codes
    "style is january, annunciation, nativity, september, pisan or easter"
member_message members.Rule = codes "rule is julian or gregorian"
member_message members.Source = codes
    "source is a text of 1 to 1000 bytes with no control character, or is left out"
member_message members.Reader = codes "reader is a whole number, such as 1"
member_message members.Year = codes "year is a whole number, such as 1731"
member_message members.Month = codes "month is a whole number, such as 2 for February"
member_message members.Day = codes "day is a whole number"
member_message members.Date = codes "date is a text, such as 11 February 1731"
member_message members.Weekday = codes "weekday is the English name of a weekday, or is left out"
member_message members.Journal = codes "journal is the whole number 1, 2 or 4"
member_message members.Step = codes "step is a text: the name of a step"
member_message members.Ask = codes "ask is an object: the request of a query"
member_message members.Reply = codes "reply is an object: the reply to the query"
member_message members.Edition = codes "edition is a whole number from 0"

-- the text on a member that a request doesn't have
abbrev pub unknown_member_message : List ℕ
unknown_member_message = codes "the request has no member of this name (--strict-members)"

-- the text on a fault
abbrev pub fault_message : WireFault → List ℕ
fault_message faults.LineTooLong = codes "a line has at most 65536 bytes"
fault_message faults.NotJson = codes
    "a line is one JSON object in UTF-8, and this one is not JSON"
fault_message faults.NotObject = codes
    "a line is one JSON object, and this one is another value"
fault_message (faults.BadField member) = member_message member
fault_message faults.UnknownOp =
    codes "op is add_land, add_change, alter_change, drop_change, add_exception, "
    ++ (codes "drop_exception or publish, or the query read, day, easter, figures, lands, "
    ++ codes "periods, exceptions, changes, feasts, convert or written")
fault_message faults.UnknownReader = codes
    "a reader is 1 to the number of readers (--readers N)"
fault_message faults.BadHead = codes "the first line says a version of journals: 1, 2 or 4"
fault_message faults.UnknownStep = codes
    "step is look, pin, check, answer, leave, stage, publish, claim or absorb"
fault_message faults.NotAQuery = codes "a question is a query, and no edit or publish"
fault_message faults.WrongReply = codes "the reply is not that to the query at its edition"
fault_message faults.UnknownEdition = codes "the journal has fewer editions"
fault_message faults.EditionFell = codes "a reader's editions never get earlier"
fault_message faults.ReadOnly = codes
    "this service answers queries, and takes no edit and no publish"
fault_message faults.NeedsUpgrade = codes
    "the journal has no sources: serve --keep with --upgrade saves it as version 4"
