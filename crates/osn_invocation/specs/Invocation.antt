-- What a command line asks for, by what the grammar finds in its arguments.
use Rattle.std.specs.Prelude.{◌&&◌, ℕ, Bool, List, [], Option, Some, None, if◌then◌else◌}
use Rattle.std.specs.Prelude.{codes, length, map, nat_lt, option_map, unwrap_or}
use Rattle.std.specs.Char.{digit_value}
use Rattle.std.specs.List.{list_all}
use Rattle.std.specs.Option.{option_map_or}
use Rattle.std.specs.Str.{bytes_eq}
use Rattle.std.specs.Str.Parse.{digits_value, without_leading_plus}
use Rattle.clap.specs.Words.{Row, Text, count_of, first_of, matches_of, one_of, subcommand_of}
use Rattle.osn_invocation.specs.Grammar.{command_line}
use Rattle.osn_invocation.specs.declared.invocation.CommandWords.{CommandWords}
use Rattle.osn_invocation.specs.declared.invocation.CommandWords.TheVariants.{Serve, Replay, Desk}
use Rattle.osn_invocation.specs.declared.invocation.CommandWords.TheVariants.{Page, Audit, Convert}
use Rattle.osn_invocation.specs.declared.invocation.CommandWords.TheVariants.{Letters, Completions}
use Rattle.osn_invocation.specs.declared.invocation.CommandWords.TheVariants.{Editions, Diff, Plan}
use Rattle.osn_invocation.specs.declared.invocation.CommandWords.TheVariants.{Check, Publish}
use Rattle.osn_invocation.specs.declared.invocation.CommandWords.TheVariants as commands
use Rattle.osn_invocation.specs.declared.invocation.Invocation.{Invocation}
use Rattle.osn_invocation.specs.declared.letters.DateOptions.{DateOptions}
use Rattle.osn_invocation.specs.declared.letters.LettersOptions.{LettersOptions}
use Rattle.osn_invocation.specs.declared.invocation.PageRequest.{PageRequest}
use Rattle.osn_invocation.specs.declared.invocation.ServeOptions.{ServeOptions}
use Rattle.osn_invocation.specs.declared.invocation.PageRequest.TheVariants as pages

-- a page of what a journal published. An almanac is that of a territory's code and a year. The
-- reading of a date is by a code, the date, the weekday that it is said to be, and the order of its
-- three numbers. It says whether a date without a day is a refusal. A day is by a code and a date
-- or day number, a month by a code, a year and the month, and a year by a code and the year. The
-- periods are those of a code's territory, or the page lists all territories. The last word of
-- each, except an almanac, is whether the answer is printed in JSON
pub data PageRequestModel : Type 0 where
  almanac_words : Text → ℕ → PageRequestModel
  reading_words : Text → Text → Option Text → Option Text → Bool → Bool → PageRequestModel
  day_words : Text → Text → Bool → PageRequestModel
  month_words : Text → Text → Text → Bool → PageRequestModel
  year_words : Text → Text → Bool → PageRequestModel
  territory_words : Option Text → Bool → PageRequestModel

-- what the service is asked for besides files: whether a journal that is kept is first upgraded,
-- how many readers ask, whether edits and publishes are refused, whether the first line that is
-- refused is the last to be answered, whether a reply says for people why a line is refused, and
-- whether a member that a request doesn't have is refused
pub record ServiceModel : Type 0 where
  pub upgrade : Bool
  pub readers : ℕ
  pub read_only : Bool
  pub stop_at_refusal : Bool
  pub explains : Bool
  pub strict_members : Bool

-- the names of the columns that say the date, if they are named: that of whole dates, and those of
-- years, months and days
pub record DateModel : Type 0 where
  pub date : Option Text
  pub year : Option Text
  pub month : Option Text
  pub day : Option Text

-- what is asked for the letters of a table: the name of the column of places and the place of all
-- rows, if these are named; the names of the columns of the date and of weekdays, if they are
-- named; the file of the table of places, the separator of fields and the order of a date's three
-- numbers, if these are named; the edition, if one is named; whether a remark is a refusal; whether
-- the number of rows with each remark is printed at the end; whether added columns are replaced;
-- and whether the table goes on after a record that has a flaw
pub record LettersModel : Type 0 where
  pub place : Option Text
  pub place_of_all : Option Text
  pub date : DateModel
  pub weekday : Option Text
  pub places : Option Text
  pub separator : Option Text
  pub order : Option Text
  pub edition : Option Text
  pub strict : Bool
  pub summary : Bool
  pub replace : Bool
  pub keep_going : Bool

-- what a command is asked for. The service has a journal, where to save it, where to keep it, which
-- one it follows, and the rest. A replay has readers and a schedule, a desk a script and questions.
-- A page has a journal, the edition if one is named, and says which page. An audit has a journal
-- and a transcript. A conversion has a calendar and a date. Letters have a journal, the file of the
-- table if one is named, and the rest, and completions have a shell. The text of a register has a
-- journal, the edition if one is named, and the code of its one territory if one is named. A plan
-- has a journal, a text and whether edits are a refusal, the edition that it makes a journal, a
-- text and whether later editions don't hinder it, a check a text, and the list of editions a
-- journal. A difference has a journal and the words of two editions. Files are named by their paths
pub data CommandModel : Type 0 where
  serving : Option Text → Option Text → Option Text → Option Text → ServiceModel → CommandModel
  replaying : ℕ → Text → CommandModel
  working : Text → Text → CommandModel
  printing : Text → Option Text → PageRequestModel → CommandModel
  auditing : Text → Text → CommandModel
  converting : Text → Text → CommandModel
  reading_letters : Text → Option Text → LettersModel → CommandModel
  completing : Text → CommandModel
  listing : Text → CommandModel
  comparing : Text → Text → Text → CommandModel
  writing_text : Text → Option Text → Option Text → CommandModel
  checking : Text → CommandModel
  planning : Text → Text → Bool → CommandModel
  publishing : Text → Text → Bool → CommandModel

-- what a command line asks for: a command, and what its limits are said to be, if anything
pub record InvocationModel : Type 0 where
  pub limits : Option Text
  pub command : CommandModel

-- decimal digits, of a number below 2 ^ 32
abbrev pub is_number : Text → Bool
is_number digits = nat_lt 0 (length digits)
    && list_all (λ digit. nat_lt (digit_value digit) 10) digits
    && nat_lt (digits_value 10 digits) 4294967296

-- the number of a text, after an optional plus, or `other` if it is not a number
abbrev pub number_or : ℕ → Text → ℕ
number_or other text =
    if is_number (without_leading_plus text) then digits_value 10 (without_leading_plus text)
    else other

-- the number that was given, or `other`
abbrev pub number_of : ℕ → Text → List Row → ℕ
number_of other name given = option_map_or (number_or other) (one_of name given) other

-- the text of a required argument, or empty without it
abbrev pub text_of : Text → List Row → Text
text_of name given = unwrap_or (first_of name given) []

-- whether an option without a value was given
abbrev pub is_given : Text → List Row → Bool
is_given name given = nat_lt 0 (count_of name given)

-- what each command asks for, by what was found for its arguments
abbrev pub serve_command : List Row → CommandModel
serve_command given = serving (first_of (codes "journal") given) (first_of (codes "save") given)
    (first_of (codes "keep") given) (first_of (codes "follow") given) (record {
      upgrade = is_given (codes "upgrade") given;
      readers = number_of 8 (codes "readers") given;
      read_only = is_given (codes "read-only") given;
      stop_at_refusal = is_given (codes "stop-at-refusal") given;
      explains = is_given (codes "explain") given;
      strict_members = is_given (codes "strict-members") given;
    })

abbrev pub replay_command : List Row → CommandModel
replay_command given =
    replaying (number_of 8 (codes "readers") given) (text_of (codes "schedule") given)

abbrev pub desk_command : List Row → CommandModel
desk_command given = working (text_of (codes "script") given) (text_of (codes "questions") given)

abbrev pub audit_command : List Row → CommandModel
audit_command given =
    auditing (text_of (codes "journal") given) (text_of (codes "transcript") given)

abbrev pub convert_command : List Row → CommandModel
convert_command given =
    converting (text_of (codes "calendar") given) (text_of (codes "date") given)

abbrev pub completions_command : List Row → CommandModel
completions_command given = completing (text_of (codes "shell") given)

abbrev pub editions_command : List Row → CommandModel
editions_command given = listing (text_of (codes "journal") given)

abbrev pub diff_command : List Row → CommandModel
diff_command given =
    comparing (text_of (codes "journal") given) (text_of (codes "from") given)
    (text_of (codes "to") given)

abbrev pub text_command : List Row → CommandModel
text_command given =
    writing_text (text_of (codes "journal") given) (first_of (codes "edition") given)
    (first_of (codes "code") given)

abbrev pub check_command : List Row → CommandModel
check_command given = checking (text_of (codes "text") given)

abbrev pub plan_command : List Row → CommandModel
plan_command given =
    planning (text_of (codes "journal") given) (text_of (codes "text") given)
    (is_given (codes "strict") given)

abbrev pub publish_command : List Row → CommandModel
publish_command given =
    publishing (text_of (codes "journal") given) (text_of (codes "text") given)
    (is_given (codes "onto-newest") given)

-- the names of the columns that say the date
abbrev pub date_options : List Row → DateModel
date_options given = record {
  date = first_of (codes "date") given;
  year = first_of (codes "year") given;
  month = first_of (codes "month") given;
  day = first_of (codes "day") given;
}

abbrev pub letters_command : List Row → CommandModel
letters_command given = reading_letters (text_of (codes "journal") given)
    (first_of (codes "table") given) (record {
      place = first_of (codes "place") given;
      place_of_all = first_of (codes "in") given;
      date = date_options given;
      weekday = first_of (codes "weekday") given;
      places = first_of (codes "places") given;
      separator = first_of (codes "separator") given;
      order = first_of (codes "order") given;
      edition = first_of (codes "edition") given;
      strict = is_given (codes "strict") given;
      summary = is_given (codes "summary") given;
      replace = is_given (codes "replace") given;
      keep_going = is_given (codes "keep-going") given;
    })

-- a command that prints a page of a journal
abbrev pub page_command : List Row → PageRequestModel → CommandModel
page_command given =
    printing (text_of (codes "journal") given) (first_of (codes "edition") given)

-- which page each of these commands asks for
abbrev pub almanac_page : List Row → PageRequestModel
almanac_page given =
    almanac_words (text_of (codes "code") given) (number_of 0 (codes "year") given)

abbrev pub read_page : List Row → PageRequestModel
read_page given = reading_words (text_of (codes "code") given) (text_of (codes "date") given)
    (first_of (codes "weekday") given) (first_of (codes "order") given)
    (is_given (codes "strict") given) (is_given (codes "json") given)

abbrev pub day_page : List Row → PageRequestModel
day_page given = day_words (text_of (codes "code") given) (text_of (codes "date") given)
    (is_given (codes "json") given)

abbrev pub month_page : List Row → PageRequestModel
month_page given = month_words (text_of (codes "code") given) (text_of (codes "year") given)
    (text_of (codes "month") given) (is_given (codes "json") given)

abbrev pub year_page : List Row → PageRequestModel
year_page given = year_words (text_of (codes "code") given) (text_of (codes "year") given)
    (is_given (codes "json") given)

abbrev pub territory_page : List Row → PageRequestModel
territory_page given =
    territory_words (first_of (codes "code") given) (is_given (codes "json") given)

-- what a command asks for that prints a page, by its name
abbrev pub page_named : Text → List Row → Option CommandModel
page_named name given =
    if bytes_eq name (codes "almanac") then Some (page_command given (almanac_page given))
    else (if bytes_eq name (codes "read") then Some (page_command given (read_page given))
    else (if bytes_eq name (codes "day") then Some (page_command given (day_page given))
    else (if bytes_eq name (codes "month") then Some (page_command given (month_page given))
    else (if bytes_eq name (codes "year") then Some (page_command given (year_page given))
    else (if bytes_eq name (codes "territory") then Some (page_command given (territory_page given))
    else None)))))

-- what a command of the register's text asks for, or one that prints a page
abbrev pub text_or_page : Text → List Row → Option CommandModel
text_or_page name given =
    if bytes_eq name (codes "editions") then Some (editions_command given)
    else (if bytes_eq name (codes "diff") then Some (diff_command given)
    else (if bytes_eq name (codes "text") then Some (text_command given)
    else (if bytes_eq name (codes "check") then Some (check_command given)
    else (if bytes_eq name (codes "plan") then Some (plan_command given)
    else (if bytes_eq name (codes "publish") then Some (publish_command given)
    else page_named name given)))))

-- what a command asks for, by its name, if the program has a command of this name
abbrev pub command_named : Text → List Row → Option CommandModel
command_named name given =
    if bytes_eq name (codes "serve") then Some (serve_command given)
    else (if bytes_eq name (codes "replay") then Some (replay_command given)
    else (if bytes_eq name (codes "desk") then Some (desk_command given)
    else (if bytes_eq name (codes "audit") then Some (audit_command given)
    else (if bytes_eq name (codes "convert") then Some (convert_command given)
    else (if bytes_eq name (codes "letters") then Some (letters_command given)
    else (if bytes_eq name (codes "completions") then Some (completions_command given)
    else text_or_page name given))))))

-- the names of the commands of the command line
abbrev pub command_names : List Text
command_names = map (λ command. command.name) command_line.subs

-- what a command asks for. Each name of the command line is one of those above, as the contract of
-- `command_or_serve` says
unfoldable pub command_by : Text → List Row → CommandModel
command_by name given = unwrap_or (command_named name given) (serve_command given)

-- a command with what its limits are said to be
abbrev pub with_limits : List Row → CommandModel → InvocationModel
with_limits given command =
    record { limits = first_of (codes "limits") given; command = command }

-- without a command, what `serve` asks for
abbrev pub invocation_by : List Row → Option (Text × List Row) → InvocationModel
invocation_by given None = with_limits given (serve_command given)
invocation_by given (Some command) = with_limits command.1 (command_by command.0 command.1)

-- what the arguments ask for, by what the grammar finds in them
abbrev pub invocation_in : List Text → InvocationModel
invocation_in args =
    invocation_by (matches_of command_line args) (subcommand_of command_line args)

-- what a page request asks for, by the texts that its references point to
abbrev pub page_request : PageRequest → PageRequestModel
page_request (pages.Almanac code year) = almanac_words code.now year
page_request (pages.Read code date weekday order strict json) = reading_words code.now date.now
    (option_map (λ name. name.now) weekday) (option_map (λ word. word.now) order) strict json
page_request (pages.Day code date json) = day_words code.now date.now json
page_request (pages.Month code year month json) = month_words code.now year.now month.now json
page_request (pages.Year code year json) = year_words code.now year.now json
page_request (pages.Territory code json) = territory_words (option_map (λ code. code.now) code) json

abbrev pub service_model : ServeOptions → ServiceModel
service_model given = record {
  upgrade = given.upgrade;
  readers = given.readers;
  read_only = given.read_only;
  stop_at_refusal = given.stop_at_refusal;
  explains = given.explains;
  strict_members = given.strict_members;
}

abbrev pub date_model : DateOptions → DateModel
date_model given = record {
  date = option_map (λ name. name.now) given.date;
  year = option_map (λ name. name.now) given.year;
  month = option_map (λ name. name.now) given.month;
  day = option_map (λ name. name.now) given.day;
}

abbrev pub letters_model : LettersOptions → LettersModel
letters_model given = record {
  place = option_map (λ name. name.now) given.place;
  place_of_all = option_map (λ place. place.now) given.place_of_all;
  date = date_model given.date;
  weekday = option_map (λ name. name.now) given.weekday;
  places = option_map (λ path. path.now) given.places;
  separator = option_map (λ word. word.now) given.separator;
  order = option_map (λ word. word.now) given.order;
  edition = option_map (λ word. word.now) given.edition;
  strict = given.strict;
  summary = given.summary;
  replace = given.replace;
  keep_going = given.keep_going;
}

abbrev pub command_model : CommandWords → CommandModel
command_model (Serve given) =
    serving (option_map (λ path. path.now) given.journal) (option_map (λ path. path.now) given.save)
    (option_map (λ path. path.now) given.keep) (option_map (λ path. path.now) given.follow)
    (service_model given)
command_model (Replay readers schedule) = replaying readers schedule.now
command_model (Desk script questions) = working script.now questions.now
command_model (Page journal edition page) =
    printing journal.now (option_map (λ word. word.now) edition) (page_request page)
command_model (Audit journal transcript) = auditing journal.now transcript.now
command_model (Convert calendar date) = converting calendar.now date.now
command_model (Completions shell) = completing shell.now
command_model (Letters journal table options) =
    reading_letters journal.now (option_map (λ path. path.now) table) (letters_model options)
command_model (Editions journal) = listing journal.now
command_model (Diff journal from to) = comparing journal.now from.now to.now
command_model (commands.Text journal edition code) =
    writing_text journal.now (option_map (λ word. word.now) edition)
    (option_map (λ code. code.now) code)
command_model (Check text) = checking text.now
command_model (Plan journal text strict) = planning journal.now text.now strict
command_model (Publish journal text onto_newest) = publishing journal.now text.now onto_newest

abbrev pub model_of : Invocation → InvocationModel
model_of asked = record {
  limits = option_map (λ words. words.now) asked.limits;
  command = command_model asked.command;
}
