-- How a shell completes command lines, by the grammar that is parsed. This project's profile.
use Rattle.std.specs.Prelude.{◌++◌, ◌∷◌, ◌&&◌, ◌||◌, Bool, true, false, if◌then◌else◌, [], codes}
use Rattle.std.specs.Prelude.{Option, Some, None}
use Rattle.std.specs.List.{flat_map, list_any}
use Rattle.std.specs.Str.{bytes_eq}
use Rattle.clap.specs.Words.{App, Rule, Text}
use Rattle.clap.specs.Simple.{Shape}
use Rattle.clap.specs.Walk.{action_of}
use Rattle.clap.specs.declared.builder.action.ArgAction.{ArgAction}
use Rattle.clap.specs.declared.builder.action.ArgAction.TheVariants.{Set, Append}
use Rattle.osn_invocation.specs.Grammar.{command_line}
use Rattle.osn_invocation.specs.declared.shell.Shell.{Shell}
use Rattle.osn_invocation.specs.declared.shell.Shell.TheVariants.{Bash, Zsh, Fish}
use Rattle.osn_invocation.specs.declared.shell_texts.TheConstants.{BASH_HEAD, BASH_END}
use Rattle.osn_invocation.specs.declared.shell_texts.TheConstants.{ZSH_HEAD, ZSH_END}
use Rattle.osn_invocation.specs.declared.shell_texts.TheConstants.{FISH_HEAD, FISH_END}

-- ---- a row of the grammar

-- an argument with this action takes a value
abbrev pub takes_value : ArgAction → Bool
takes_value Set = true
takes_value Append = true
takes_value other = false

-- the arguments whose value is the path of a file
abbrev pub is_file : Text → Bool
is_file id = list_any (bytes_eq id)
    (codes "journal" ∷ codes "journal-file" ∷ codes "save" ∷ codes "keep" ∷ codes "follow"
    ∷ codes "schedule" ∷ codes "script" ∷ codes "questions" ∷ codes "transcript" ∷ codes "text"
    ∷ codes "table" ∷ codes "places" ∷ [])

-- the arguments whose value is a territory: by its code, or by its name, which is not completed
abbrev pub is_place : Text → Bool
is_place id = bytes_eq id (codes "code") || bytes_eq id (codes "in")

abbrev pub weekdays : Text
weekdays = codes " Monday Tuesday Wednesday Thursday Friday Saturday Sunday"

abbrev pub months : Text
months =
    codes " January February March April May June July August September October November December"

-- the value is the name of a weekday or a month: in the command letters it is that of a column
abbrev pub is_weekday : Text → Text → Bool
is_weekday command id = bytes_eq id (codes "weekday") && bytes_eq command (codes "read")

abbrev pub is_month : Text → Text → Bool
is_month command id = bytes_eq id (codes "month") && bytes_eq command (codes "month")

-- what the value of the argument of this name of a command may be: FILE is the path of a file, CODE
-- the code of a territory, TEXT any text, and otherwise it is one of these words
abbrev pub values_named : Text → Text → Text
values_named command id =
    if is_file id then codes " FILE"
    else (if bytes_eq id (codes "order") then codes " dmy mdy"
    else (if bytes_eq id (codes "separator") then codes " comma semicolon tab"
    else (if bytes_eq id (codes "calendar") then codes " gregorian julian swedish day jdn"
    else (if bytes_eq id (codes "shell") then codes " bash zsh fish"
    else (if is_place id then codes " CODE"
    else (if is_weekday command id then weekdays
    else (if is_month command id then months else codes " TEXT")))))))

-- the values of an argument, or no text for an argument that takes no value
abbrev pub values_of : Text → Rule → Text
values_of command rule =
    if takes_value (action_of rule) then values_named command rule.id else []

-- the row of an argument of a command, by the option that names it or by its place alone
abbrev pub row_by : Text → Option Text → Text → Text
row_by command (Some name) values = codes "_oldstyle_row "
    ++ (command ++ (codes " --" ++ (name ++ (values ++ codes "\n"))))
row_by command None values =
    codes "_oldstyle_row " ++ (command ++ (codes " argument" ++ (values ++ codes "\n")))

unfoldable pub row_of : Text → Rule → Text
row_of command rule = row_by command rule.long (values_of command rule)

-- the row that names a command
unfoldable pub name_row : Text → Text
name_row command = codes "_oldstyle_row " ++ (command ++ codes "\n")

-- ---- the rows of a grammar

-- the rows of a command: the one that names it, and one for each of its arguments
unfoldable pub command_rows : Shape → Text
command_rows command = name_row command.name ++ flat_map (row_of command.name) command.rules

-- the rows of the program's own arguments, and those of each command
unfoldable pub grammar_rows : App → Text
grammar_rows grammar =
    flat_map (row_of grammar.top.name) grammar.top.rules ++ flat_map command_rows grammar.subs

-- ---- the text

-- the shell of a word
abbrev pub shell_named : Text → Option Shell
shell_named word =
    if bytes_eq word (codes "bash") then Some Bash
    else (if bytes_eq word (codes "zsh") then Some Zsh
    else (if bytes_eq word (codes "fish") then Some Fish else None))

-- the text before the rows: a function of the shell that takes a row
unfoldable pub head_of : Shell → Text
head_of Bash = BASH_HEAD.now
head_of Zsh = ZSH_HEAD.now
head_of Fish = FISH_HEAD.now

-- the text after them, which completes by them
unfoldable pub end_of : Shell → Text
end_of Bash = BASH_END.now
end_of Zsh = ZSH_END.now
end_of Fish = FISH_END.now

-- the text with which a shell completes the words: its rows are those of the grammar that is parsed
unfoldable pub completions : Shell → Text
completions shell = head_of shell ++ (grammar_rows command_line ++ end_of shell)
