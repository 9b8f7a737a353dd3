-- The grammar of a command that is built argument by argument.
use Rattle.std.proofs.Common.{◌≡◌, ◌∙◌, ◌||◌, ◌<◌, ◌+◌, ℕ, List, [], ◌∷◌, true, ap, ap₂, refl}
use Rattle.std.proofs.Common.{length, map, take, get_or}
use Rattle.std.proofs.lemmas.List.{map-append, take_more}
use Rattle.std.proofs.lemmas.List.Sums.{fold_more, fold-append}
use Rattle.clap.specs.Words.{AddsArg, AddsSubcommand, App, Rule, app_of, is_simple}
use Rattle.clap.specs.Words.{is_simple_and_free, with_rule, with_subcommand}
use Rattle.clap.specs.declared.builder.arg.Arg.{Arg}
use Rattle.clap.specs.declared.builder.command.Command.{Command}
use Rattle.clap.proofs.OnLiterals.{clap_on_literals}
use Rattle.osn_invocation.specs.declared.argument.Argument.{Argument}
use Rattle.osn_invocation.specs.declared.commands.CommandRow.{CommandRow}
use Rattle.osn_invocation.specs.Grammar.{HasArguments, HasCommands, IsArgument, IsCommand}
use Rattle.osn_invocation.specs.Grammar.{command_line}
use Rattle.osn_invocation.specs.Grammar.{command_of_row, rule_of_argument, with_argument}
use Rattle.osn_invocation.specs.Grammar.{with_command}

-- a command with one more argument
pub one_more_arg : (old new : Command) (arg : Arg) (grammar : App) (rule : Rule)
    → AddsArg old arg new → IsCommand grammar old → IsArgument rule arg
    → IsCommand (with_rule grammar rule) new
one_more_arg old new arg grammar rule added is word = (
  added.shape word.1 ∙ ap₂ with_rule is.0 word.0,
  added.globals ∙ ap₂ (λ a b. a || b) is.1 word.1,
)

-- a command with one more command below it
pub one_more_command : (old new sub : Command) (grammar below : App)
    → AddsSubcommand old sub new → IsCommand grammar old → IsCommand below sub
    → IsCommand (with_subcommand grammar below.top) new
one_more_command old new sub grammar below added is under = (
  added.shape under.1 ∙ ap₂ with_subcommand is.0 (ap (λ (a : App). a.top) under.0),
  added.globals ∙ ap₂ (λ a b. a || b) is.1 under.1,
)

-- and with one more of a list of arguments
pub next_argument : (first old new : Command) (arg : Arg) (arguments : List Argument) (i : ℕ)
    (d : Argument) → i < length arguments → AddsArg old arg new
    → IsArgument (rule_of_argument (get_or arguments i d)) arg
    → HasArguments first (take i arguments) old → HasArguments first (take (i + 1) arguments) new
next_argument first old new arg arguments i d lt added is has free =
    rw (fold_more with_argument (app_of first) arguments i d lt)
    (one_more_arg old new arg _ _ added (has free) is)

-- a program with one more of the commands of a list of rows
pub next_command : (first old new command : Command) (rows : List CommandRow) (i : ℕ)
    (d : CommandRow) → i < length rows → AddsSubcommand old command new
    → IsCommand (command_of_row (get_or rows i d)) command
    → HasCommands first (map command_of_row (take i rows)) old
    → HasCommands first (map command_of_row (take (i + 1) rows)) new
next_command first old new command rows i d lt added is has free =
    rw (
      take_more rows i d lt,
      map-append command_of_row (take i rows) (get_or rows i d ∷ []),
      fold-append with_command (app_of first) (map command_of_row (take i rows)) _,
    ) (one_more_command old new command _ _ added (has free) is)

-- the matches of this command line are known
pub is_exact : is_simple command_line ≡ true
unfolding clap_on_literals
is_exact = refl

-- the faults of this command line are known
pub is_checked : is_simple_and_free command_line ≡ true
unfolding clap_on_literals
is_checked = refl
