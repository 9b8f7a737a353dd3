-- The grammar of the command line, and what it finds in the arguments.
use Rattle.std.specs.Prelude.{◌≡◌, true, false, List, [], ◌∷◌, Some, codes, fold, pos}
use Rattle.clap.specs.Words.{App, Rule, Text, app_of, found_of, matches_of, new_app, new_rule}
use Rattle.clap.specs.Words.{rows_of, rule_of, subcommand_of, subcommand_rows_of, with_rule}
use Rattle.clap.specs.Words.{with_subcommand}
use Rattle.clap.specs.Simple.{on_top}
use Rattle.clap.specs.declared.builder.action.ArgAction.TheVariants.{Count}
use Rattle.clap.specs.declared.builder.arg.Arg.{Arg}
use Rattle.clap.specs.declared.builder.command.Command.{Command}
use Rattle.clap.specs.declared.builder.command.Command.TheViews.{out-Command}
use Rattle.clap.specs.declared.builder.value_parser.ValueParser.TheVariants.{Signed}
use Rattle.clap.specs.declared.parser.matches.ArgMatches.{ArgMatches}
use Rattle.osn_invocation.specs.declared.argument.Argument.{Argument}
use Rattle.osn_invocation.specs.declared.argument.Argument.TheVariants.{Required, Optional, Year}
use Rattle.osn_invocation.specs.declared.argument.Argument.TheVariants.{Valued, Flag, Readers}
use Rattle.osn_invocation.specs.declared.argument.Argument.TheVariants.{RequiredReaders, Journal}
use Rattle.osn_invocation.specs.declared.commands.CommandRow.{CommandRow}

-- ---- an argument

-- an option with a value, `--journal FILE`
abbrev pub value_option : Text → Rule
value_option name = record (new_rule name) { long = Some name; value_names = 1 }

-- an option without a value, `--read-only`
abbrev pub flag_option : Text → Rule
flag_option name = record (new_rule name) { long = Some name; action = Some Count }

-- the option `--journal FILE` of a command that has the argument JOURNAL
abbrev pub journal_option : Rule
journal_option = record (new_rule (codes "journal-file")) {
  long = Some (codes "journal");
  value_names = 1;
}

-- the option `--readers N`: N is 1 to 64
abbrev pub readers_option : Rule
readers_option = record (new_rule (codes "readers")) {
  long = Some (codes "readers");
  value_names = 1;
  parser = Some (Signed (pos 1) (pos 64));
}

-- an argument that is required
abbrev pub required_argument : Text → Rule
required_argument name = record (new_rule name) { value_names = 1; required = true }

-- an argument that may be left out
abbrev pub optional_argument : Text → Rule
optional_argument name = record (new_rule name) { value_names = 1 }

-- YEAR is 0 to 4294967295
abbrev pub year_argument : Rule
year_argument =
    record (required_argument (codes "year")) { parser = Some (Signed (pos 0) (pos 4294967295)) }

-- the rule of an argument of the table of commands
abbrev pub rule_of_argument : Argument → Rule
rule_of_argument (Required id shown help) = required_argument id.now
rule_of_argument (Optional id shown help) = optional_argument id.now
rule_of_argument (Year help) = year_argument
rule_of_argument (Valued id shown help) = value_option id.now
rule_of_argument (Journal help) = journal_option
rule_of_argument (Flag id help) = flag_option id.now
rule_of_argument (Readers help) = readers_option
rule_of_argument (RequiredReaders help) = record readers_option { required = true }

-- ---- the commands

-- a command with these arguments
abbrev pub command_with : Text → List Rule → App
command_with name rules = fold with_rule (new_app name) rules

-- the option `--limits LIMITS`
abbrev pub limits_option : Rule
limits_option = value_option (codes "limits")

-- the option `--json`
abbrev pub json_option : Rule
json_option = flag_option (codes "json")

-- the option `--edition N`
abbrev pub edition_option : Rule
edition_option = value_option (codes "edition")

-- the argument JOURNAL
abbrev pub journal_argument : Rule
journal_argument = required_argument (codes "journal")

-- `read JOURNAL CODE DATE [--weekday DAY] [--order ORDER] [--strict] [--json] [--edition N]
-- [--journal FILE] [--limits LIMITS]`
abbrev pub read_grammar : App
read_grammar = command_with (codes "read") (journal_argument ∷ required_argument (codes "code")
    ∷ required_argument (codes "date") ∷ value_option (codes "weekday") ∷ value_option
    (codes "order")
    ∷ flag_option (codes "strict") ∷ json_option ∷ edition_option ∷ journal_option
    ∷ limits_option ∷ [])

-- `convert CALENDAR DATE`
abbrev pub convert_grammar : App
convert_grammar = command_with (codes "convert")
    (required_argument (codes "calendar") ∷ required_argument (codes "date") ∷ [])

-- `day JOURNAL CODE DATE [--json] [--edition N] [--journal FILE] [--limits LIMITS]`
abbrev pub day_grammar : App
day_grammar = command_with (codes "day") (journal_argument ∷ required_argument (codes "code")
    ∷ required_argument (codes "date") ∷ json_option ∷ edition_option ∷ journal_option
    ∷ limits_option ∷ [])

-- `month JOURNAL CODE YEAR MONTH [--json] [--edition N] [--journal FILE] [--limits LIMITS]`
abbrev pub month_grammar : App
month_grammar = command_with (codes "month") (journal_argument ∷ required_argument (codes "code")
    ∷ required_argument (codes "year") ∷ required_argument
    (codes "month") ∷ json_option ∷ edition_option
    ∷ journal_option ∷ limits_option ∷ [])

-- `year JOURNAL CODE YEAR [--json] [--edition N] [--journal FILE] [--limits LIMITS]`
abbrev pub year_grammar : App
year_grammar = command_with (codes "year") (journal_argument ∷ required_argument (codes "code")
    ∷ required_argument (codes "year") ∷ json_option ∷ edition_option ∷ journal_option
    ∷ limits_option ∷ [])

-- `territory JOURNAL [CODE] [--json] [--edition N] [--journal FILE] [--limits LIMITS]`
abbrev pub territory_grammar : App
territory_grammar = command_with (codes "territory") (journal_argument ∷ optional_argument
    (codes "code")
    ∷ json_option ∷ edition_option ∷ journal_option ∷ limits_option ∷ [])

-- `letters JOURNAL [TABLE] [--place NAME] [--in PLACE] [--date NAME] [--year NAME] [--month NAME]
-- [--day NAME] [--weekday NAME] [--places FILE] [--separator NAME] [--order ORDER] [--strict]
-- [--summary] [--replace] [--keep-going] [--edition N] [--journal FILE] [--limits LIMITS]`
abbrev pub letters_grammar : App
letters_grammar = command_with (codes "letters") (journal_argument ∷ optional_argument
    (codes "table")
    ∷ value_option (codes "place") ∷ value_option (codes "in")
    ∷ value_option (codes "date") ∷ value_option (codes "year")
    ∷ value_option (codes "month") ∷ value_option (codes "day") ∷ value_option (codes "weekday")
    ∷ value_option (codes "places")
    ∷ value_option (codes "separator") ∷ value_option (codes "order")
    ∷ flag_option (codes "strict") ∷ flag_option (codes "summary") ∷ flag_option (codes "replace")
    ∷ flag_option (codes "keep-going") ∷ edition_option
    ∷ journal_option ∷ limits_option ∷ [])

-- `serve [--journal FILE] [--save FILE] [--keep FILE] [--upgrade] [--follow FILE] [--readers N]
-- [--read-only] [--stop-at-refusal] [--explain] [--strict-members] [--limits LIMITS]`
abbrev pub serve_grammar : App
serve_grammar = command_with (codes "serve") (value_option (codes "journal")
    ∷ value_option (codes "save") ∷ value_option (codes "keep") ∷ flag_option (codes "upgrade")
    ∷ value_option (codes "follow") ∷ readers_option ∷ flag_option (codes "read-only")
    ∷ flag_option (codes "stop-at-refusal") ∷ flag_option (codes "explain")
    ∷ flag_option (codes "strict-members") ∷ limits_option ∷ [])

-- `text JOURNAL [CODE] [--edition N] [--journal FILE] [--limits LIMITS]`
abbrev pub text_grammar : App
text_grammar = command_with (codes "text") (journal_argument ∷ optional_argument (codes "code")
    ∷ edition_option ∷ journal_option ∷ limits_option ∷ [])

-- `check TEXT [--limits LIMITS]`
abbrev pub check_grammar : App
check_grammar = command_with (codes "check") (required_argument (codes "text") ∷ limits_option ∷ [])

-- `plan JOURNAL TEXT [--strict] [--journal FILE] [--limits LIMITS]`
abbrev pub plan_grammar : App
plan_grammar = command_with (codes "plan") (journal_argument ∷ required_argument (codes "text")
    ∷ flag_option (codes "strict") ∷ journal_option ∷ limits_option ∷ [])

-- `publish JOURNAL TEXT [--onto-newest] [--journal FILE] [--limits LIMITS]`
abbrev pub publish_grammar : App
publish_grammar = command_with (codes "publish") (journal_argument ∷ required_argument
    (codes "text")
    ∷ flag_option (codes "onto-newest") ∷ journal_option ∷ limits_option ∷ [])

-- `editions JOURNAL [--journal FILE] [--limits LIMITS]`
abbrev pub editions_grammar : App
editions_grammar =
    command_with (codes "editions") (journal_argument ∷ journal_option ∷ limits_option ∷ [])

-- `diff JOURNAL FROM TO [--journal FILE] [--limits LIMITS]`
abbrev pub diff_grammar : App
diff_grammar = command_with (codes "diff") (journal_argument ∷ required_argument (codes "from")
    ∷ required_argument (codes "to") ∷ journal_option ∷ limits_option ∷ [])

-- `replay --readers N SCHEDULE [--limits LIMITS]`
abbrev pub replay_grammar : App
replay_grammar = command_with (codes "replay") (record readers_option { required = true }
    ∷ required_argument (codes "schedule") ∷ limits_option ∷ [])

-- `desk SCRIPT QUESTIONS [--limits LIMITS]`
abbrev pub desk_grammar : App
desk_grammar = command_with (codes "desk") (required_argument (codes "script")
    ∷ required_argument (codes "questions") ∷ limits_option ∷ [])

-- `almanac JOURNAL CODE YEAR [--edition N] [--journal FILE] [--limits LIMITS]`
abbrev pub almanac_grammar : App
almanac_grammar = command_with (codes "almanac") (journal_argument ∷ required_argument
    (codes "code")
    ∷ year_argument ∷ edition_option ∷ journal_option ∷ limits_option ∷ [])

-- `audit JOURNAL TRANSCRIPT [--journal FILE] [--limits LIMITS]`
abbrev pub audit_grammar : App
audit_grammar = command_with (codes "audit")
    (journal_argument ∷ required_argument
    (codes "transcript") ∷ journal_option ∷ limits_option ∷ [])

-- `completions SHELL`
abbrev pub completions_grammar : App
completions_grammar = command_with (codes "completions") (required_argument (codes "shell") ∷ [])

-- a command with one more argument of the table of commands
abbrev pub with_argument : App → Argument → App
with_argument command argument = with_rule command (rule_of_argument argument)

-- the command of a row of that table
abbrev pub command_of_row : CommandRow → App
command_of_row row = fold with_argument (new_app row.name.now) row.arguments.now

-- ---- the command line

-- the program, which has `--version`
abbrev pub program_grammar : App
program_grammar = on_top (λ s. record s { has_version = true }) (new_app (codes "oldstyle"))

-- a program with one more command
abbrev pub with_command : App → App → App
with_command program command = with_subcommand program command.top

-- the commands that say what a date means
abbrev pub date_commands : List App
date_commands =
    read_grammar ∷ convert_grammar ∷ day_grammar ∷ month_grammar ∷ year_grammar
    ∷ territory_grammar ∷ []

-- the commands for tables, the service and the register as a text
abbrev pub table_commands : List App
table_commands =
    letters_grammar ∷ serve_grammar ∷ text_grammar ∷ check_grammar ∷ plan_grammar
    ∷ publish_grammar ∷ []

-- the others
abbrev pub other_commands : List App
other_commands =
    editions_grammar ∷ diff_grammar ∷ replay_grammar ∷ desk_grammar ∷ almanac_grammar
    ∷ audit_grammar ∷ completions_grammar ∷ []

-- a program with these commands added
abbrev pub with_all : App → List App → App
with_all program commands = fold with_command program commands

-- the command line: the program with its commands, and `--help` and `help COMMAND`, which every
-- grammar has
abbrev pub command_line : App
command_line =
    with_all (with_all (with_all program_grammar date_commands) table_commands) other_commands

-- the argument has this rule, at its own command alone
abbrev pub IsArgument : Rule → Arg → Type 0
IsArgument rule arg = (rule_of arg ≡ rule) × (arg.global ≡ false)

-- the command has this grammar, and no argument of it is one of its commands' too
abbrev pub IsCommand : App → Command → Type 0
IsCommand grammar command =
    (app_of command ≡ grammar) × ((out-Command command).has_globals ≡ false)

-- the new command is the old one with these arguments added
abbrev pub HasArguments : Command → List Argument → Command → Type 0
HasArguments old arguments new = (out-Command old).has_globals ≡ false
    → IsCommand (fold with_argument (app_of old) arguments) new

-- the new program is the old one with these commands added
abbrev pub HasCommands : Command → List App → Command → Type 0
HasCommands old commands new = (out-Command old).has_globals ≡ false
    → IsCommand (with_all (app_of old) commands) new

-- what was found in the arguments is what the grammar finds
abbrev pub HasMatches : List Text → ArgMatches → Type 0
HasMatches args found = (rows_of (found_of found) ≡ matches_of command_line args)
    × (subcommand_rows_of found ≡ subcommand_of command_line args)
