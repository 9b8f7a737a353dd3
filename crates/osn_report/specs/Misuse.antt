-- What is printed about a wrong argument. This project's profile.
use Rattle.std.specs.Prelude.{ℕ, List, ◌++◌, codes}
use Rattle.std.specs.Fmt.{decimal}
use Rattle.osn_days.specs.CalendarWords.{calendar_word}
use Rattle.osn_days.specs.Weekday.{weekday_name}
use Rattle.osn_lines.specs.Escape.{escaped_text}
use Rattle.osn_written.specs.declared.written_date.DateFault.{DateFault}
use Rattle.osn_written.specs.declared.written_date.DateFault.TheVariants as faults
use Rattle.osn_written.specs.WrittenDate.{month_day_words}
use Rattle.osn_report.specs.declared.misuse.Misuse.{Misuse}
use Rattle.osn_report.specs.declared.misuse.Misuse.TheVariants.{Date, Weekday, OtherWeekday}
use Rattle.osn_report.specs.declared.misuse.Misuse.TheVariants.{Calendar, DayNumber, DoubleDate}
use Rattle.osn_report.specs.declared.misuse.Misuse.TheVariants.{JulianDayNumber, WhichDayNumber}
use Rattle.osn_report.specs.declared.misuse.Misuse.TheVariants.{WhichConversion, Year}
use Rattle.osn_report.specs.declared.misuse.Misuse.TheVariants.{NoSuchDate, Month, Limits}
use Rattle.osn_report.specs.declared.misuse.Misuse.TheVariants.{Separator, Order, Shell}
use Rattle.osn_report.specs.declared.misuse.Misuse.TheVariants.{OpenOrder, DateAndParts}
use Rattle.osn_report.specs.declared.misuse.Misuse.TheVariants.{PlaceAndColumn}
use Rattle.osn_report.specs.declared.misuse.Misuse.TheVariants.{PartWithoutYear, DayWithoutMonth}

abbrev pub both_calendars : List ℕ
both_calendars =
    codes "a day by both calendars has the two dates of one day, such as 3/13 June 1675, and "
    ++ codes "from 1 January to 24 March a double year, such as 3/13 Feb. 1674/5"

-- what a date asks for, if that is not said by its own dates
abbrev pub usual_text : DateFault → List ℕ
usual_text faults.Malformed =
    codes "a date is written 1731-02-11, \"11 February 1731\" or \"11 February 1731/2\", "
    ++ codes "with or without a weekday before it"
usual_text faults.LaterYear =
    codes "after the / comes the year that follows, in full or by its last digits, "
    ++ codes "such as 1731/2, 1731/32 or 1731/1732"
usual_text faults.Year = codes "a year is 0 to 10000"
usual_text faults.Month = codes "a month is 1 to 12"
usual_text faults.Day = codes "a day of a month is 1 to 31"
usual_text faults.NoDate = codes
    "it says that there is no date: write a day, such as \"11 February 1731\""
usual_text faults.NotOneDay = codes
    "the date is not written as a day: write it as in \"11 February 1731\""
usual_text faults.Qualifier = codes
    "about, ?, [ ], O.S. and the like say more than the day: write only the day"
usual_text faults.ShortYear =
    codes "a year of one or two digits needs leading zeros, such as 0045"
usual_text faults.OpenYear = codes
    "a year with an open digit may be any of several: write it in four digits, such as 1731 or 0173"
usual_text faults.DayOrMonth = codes
    "a date such as 11/2/1731 may be 11 February or 2 November: write the month by its name"
usual_text faults.BothCalendars = both_calendars
usual_text (faults.TwoDays old new written) = both_calendars
usual_text faults.NamedCalendar =
    codes "a day by both calendars names both of them or neither, such as "
    ++ codes "3 June O.S./13 June N.S. 1675"
usual_text faults.Feast = codes "this feast is not read: write its day"
usual_text faults.RomanNumeral =
    codes "a Roman numeral is read as the day beside a month's name, such as xi February 1731, "
    ++ codes "or as the month between two numbers; xx, MD and single letters are ordinary words "
    ++ codes "too: write it in digits"
usual_text faults.OpenPart =
    codes "early, mid, late and the halves are parts of a month, a year, a decade or a century, "
    ++ codes "and a winter spans two years: write the months, such as December 1675 to February "
    ++ codes "1676"

-- what a date asks for. For a day by both calendars: 3 June old style was 13 June new style, not 14
-- June
abbrev pub date_text : DateFault → List ℕ
date_text (faults.TwoDays old new written) =
    month_day_words old
    ++ (codes " old style was "
    ++ (month_day_words new ++ (codes " new style, not " ++ month_day_words written)))
date_text fault = usual_text fault

-- what the place of an argument asks for
abbrev pub misuse_text : Misuse → List ℕ
misuse_text (Date fault) = date_text fault
misuse_text Weekday = codes "a weekday is written by its English name, such as Friday"
misuse_text (OtherWeekday named) = codes "the date names "
    ++ (weekday_name named ++ codes ": write one weekday, or the same one twice")
misuse_text Calendar = codes
    "a calendar is gregorian, julian or swedish; after the word day or jdn, write a number"
misuse_text DayNumber = codes "a day number is 1 to 3652059"
misuse_text JulianDayNumber = codes
    "a Julian day number is 1721426 to 5373484, such as \"JDN 2353712\""
misuse_text (WhichDayNumber number) =
    decimal number
    ++ (codes " may be a day number or a Julian day number: write \"day "
    ++ (decimal number
    ++ (codes "\" or \"JDN " ++ (decimal number ++ codes "\" in its place, with the quotes"))))
misuse_text (WhichConversion number) =
    decimal number
    ++ (codes " may be a day number or a Julian day number: write oldstyle convert jdn "
    ++ (decimal number
    ++ (codes ", or oldstyle convert day \"day " ++ (decimal number ++ codes "\""))))
misuse_text DoubleDate = codes "a date with both years depends on a territory: use oldstyle read"
misuse_text (NoSuchDate calendar) = codes "the "
    ++ (calendar_word calendar ++ codes " calendar has no such date in the years 1 to 9999")
misuse_text Month = codes "a month is 1 to 12 or its name, such as September or Sept"
misuse_text Year = codes "a year is 1 to 9999 as the place counted it: for 1731/2 write 1731"
misuse_text Limits = codes
    "limits are some of lands=N,changes=N,exceptions=N,edits=N,editions=N, separated by commas"
misuse_text Separator = codes "a separator is comma, semicolon or tab"
misuse_text Order = codes "an order is dmy, for 11/2/1731 as 11 February, or mdy, for 2/11/1731"
misuse_text OpenOrder = codes "a date such as 11/2/1731 may be 11 February or 2 November: "
    ++ codes "write the month by its name, or use --order dmy or mdy"
misuse_text DateAndParts = codes
    "it can't be used with --year, --month or --day: leave it out, or leave them out"
misuse_text PartWithoutYear = codes "it requires --year: name the column of years too"
misuse_text DayWithoutMonth = codes "it requires --month: name the column of months too"
misuse_text PlaceAndColumn = codes "it can't be used with --place: leave out one of them"
misuse_text Shell = codes "a shell is bash, zsh or fish"

-- the line on standard error, which begins with the argument as it was typed
abbrev pub misuse_line : Misuse → List ℕ → List ℕ
misuse_line misuse argument =
    codes "oldstyle: " ++ (escaped_text argument ++ (codes ": " ++ (misuse_text misuse
    ++ codes "\n")))
