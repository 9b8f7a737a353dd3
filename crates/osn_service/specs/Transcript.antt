-- The line of a transcript: what a reader asked, and the reply. The members of an object are in
-- ascending order of their names. This project's profile.
use Rattle.std.specs.Prelude.{ℕ, List, codes, Option, Some, None}
use Rattle.serde_json.specs.Data.{Data, string, object, member, no_members}
use Rattle.osn_register.specs.declared.query.Query.{Query}
use Rattle.osn_register.specs.declared.query.Query.TheVariants.{Read, DayIn, Easter, YearFigures}
use Rattle.osn_register.specs.declared.query.Query.TheVariants.{Lands, Periods, Exceptions, Changes}
use Rattle.osn_register.specs.declared.query.Query.TheVariants.{Feasts, Convert, Written}
use Rattle.osn_core.specs.declared.step.Reply.{Reply}
use Rattle.osn_days.specs.declared.weekday.Weekday.{Weekday}
use Rattle.osn_days.specs.CalendarWords.{calendar_word}
use Rattle.osn_days.specs.Weekday.{weekday_name}
use Rattle.osn_request.specs.Json.{whole, signed}
use Rattle.osn_service.specs.ReplyText.{replied_data, line_of}

-- a query about a date by the text of the date, and by a weekday if one is given
abbrev pub query_date_data : ℕ → List ℕ → List ℕ → Option Weekday → Data
query_date_data reader code text None = object (
    member (codes "code") (string code)
    (member (codes "date") (string text)
    (member (codes "op") (string (codes "written"))
    (member (codes "reader") (whole reader)
    no_members))))
query_date_data reader code text (Some weekday) = object (
    member (codes "code") (string code)
    (member (codes "date") (string text)
    (member (codes "op") (string (codes "written"))
    (member (codes "reader") (whole reader)
    (member (codes "weekday") (string (weekday_name weekday))
    no_members)))))

-- a query with the members of its row, what it asks for, and who asks
abbrev pub query_data : ℕ → Query → Data
query_data reader (Read code year month day) = object (
    member (codes "code") (string code)
    (member (codes "day") (signed day)
    (member (codes "month") (signed month)
    (member (codes "op") (string (codes "read"))
    (member (codes "reader") (whole reader)
    (member (codes "year") (signed year)
    no_members))))))
query_data reader (DayIn code day) = object (
    member (codes "code") (string code)
    (member (codes "day") (signed day)
    (member (codes "op") (string (codes "day"))
    (member (codes "reader") (whole reader)
    no_members))))
query_data reader (Easter code year) = object (
    member (codes "code") (string code)
    (member (codes "op") (string (codes "easter"))
    (member (codes "reader") (whole reader)
    (member (codes "year") (signed year)
    no_members))))
query_data reader (YearFigures year) = object (
    member (codes "op") (string (codes "figures"))
    (member (codes "reader") (whole reader)
    (member (codes "year") (signed year)
    no_members)))
query_data reader Lands = object (
    member (codes "op") (string (codes "lands"))
    (member (codes "reader") (whole reader)
    no_members))
query_data reader (Periods code) = object (
    member (codes "code") (string code)
    (member (codes "op") (string (codes "periods"))
    (member (codes "reader") (whole reader)
    no_members)))
query_data reader (Exceptions code) = object (
    member (codes "code") (string code)
    (member (codes "op") (string (codes "exceptions"))
    (member (codes "reader") (whole reader)
    no_members)))
query_data reader (Changes code) = object (
    member (codes "code") (string code)
    (member (codes "op") (string (codes "changes"))
    (member (codes "reader") (whole reader)
    no_members)))
query_data reader (Feasts code year) = object (
    member (codes "code") (string code)
    (member (codes "op") (string (codes "feasts"))
    (member (codes "reader") (whole reader)
    (member (codes "year") (signed year)
    no_members))))
query_data reader (Convert code calendar year month day) = object (
    member (codes "calendar") (string (calendar_word calendar))
    (member (codes "code") (string code)
    (member (codes "day") (signed day)
    (member (codes "month") (signed month)
    (member (codes "op") (string (codes "convert"))
    (member (codes "reader") (whole reader)
    (member (codes "year") (signed year)
    no_members)))))))
query_data reader (Written code text date weekday) = query_date_data reader code text weekday

-- what a reader asked, and the reply
abbrev pub record_data : ℕ → Query → Reply → Data
record_data reader q reply = object (
    member (codes "ask") (query_data reader q)
    (member (codes "reply") (replied_data reader reply.edition reply.answer)
    no_members))

unfoldable pub transcript_line : ℕ → Query → Reply → List ℕ
transcript_line reader q reply = line_of (record_data reader q reply)
