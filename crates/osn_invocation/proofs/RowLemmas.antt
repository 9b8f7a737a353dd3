-- The rows of the arguments of a command, and of the commands of a grammar.
use Rattle.std.proofs.Common.{◌≡◌, ◌++◌, ◌∙◌, List, ap, ap₂, append_assoc, map, sym}
use Rattle.std.specs.Borrow.{Bor}
use Rattle.std.specs.List.{flat_map}
use Rattle.std.proofs.lemmas.List.Folds.{flat_map-map}
use Rattle.clap.specs.Words.{Text, app_of, rule_of}
use Rattle.clap.specs.Simple.{shape_of}
use Rattle.clap.specs.declared.builder.arg.Arg.{Arg}
use Rattle.clap.specs.declared.builder.command.Command.{Command}
use Rattle.clap.specs.declared.builder.command.Command.TheViews.{out-Command}
use Rattle.osn_invocation.specs.Completions.{command_rows, grammar_rows, name_row, row_of}

-- the rows of arguments of a command, and of commands
abbrev arg_rows : Text → List Arg → Text
arg_rows name = flat_map (λ arg. row_of name (rule_of arg))

abbrev all_rows : List Command → Text
all_rows = flat_map (λ command. command_rows (shape_of command))

rows_of_rules : (name : Text) (args : List Arg)
    → flat_map (row_of name) (map rule_of args) ≡ arg_rows name args
rows_of_rules name args = flat_map-map (row_of name) rule_of args

-- a text that is written in two parts is the first part and then the second
in_two : (old mid new first second : Text) → mid ≡ old ++ first → new ≡ mid ++ second
    → new ≡ old ++ (first ++ second)
in_two old mid new first second before after =
    after ∙ ap (λ m. m ++ second) before ∙ append_assoc old first second

-- the rows of a command were written: the one that names it, and those of its arguments
pub command_written : (old mid new : Text) (command : Command) (name : Bor Text) (args : List Arg)
    → name ≡ (out-Command command).name → args ≡ (out-Command command).args.items
    → mid ≡ old ++ name_row name.now → new ≡ mid ++ arg_rows name.now args
    → new ≡ old ++ command_rows (shape_of command)
unfolding command_rows
command_written old mid new command name args named has first second =
    in_two old mid new (name_row name.now) (arg_rows name.now args) first second
    ∙ ap (λ rows. old ++ (name_row name.now ++ rows)) (sym (rows_of_rules name.now args))
    ∙ ap₂ (λ (n : Bor Text) (own : List Arg). old
    ++ (name_row n.now ++ flat_map (row_of n.now) (map rule_of own))) named has

-- the rows of a grammar were written: those of its own arguments, and those of its commands
pub grammar_written : (old mid new : Text) (grammar : Command) (name : Bor Text) (args : List Arg)
    (commands : List Command)
    → name ≡ (out-Command grammar).name → args ≡ (out-Command grammar).args.items
    → commands ≡ (out-Command grammar).subcommands.items
    → mid ≡ old ++ arg_rows name.now args → new ≡ mid ++ all_rows commands
    → new ≡ old ++ grammar_rows (app_of grammar)
unfolding grammar_rows
grammar_written old mid new grammar name args commands named has below first second =
    in_two old mid new (arg_rows name.now args) (all_rows commands) first second
    ∙ ap₂ (λ a b. old ++ (a ++ b)) (sym (rows_of_rules name.now args))
    (sym (flat_map-map command_rows shape_of commands))
    ∙ ap₂ (λ (n : Bor Text) (own : List Arg). old
    ++ (flat_map (row_of n.now) (map rule_of own)
    ++ flat_map command_rows (map shape_of commands))) named has
    ∙ ap (λ cs. old ++ (flat_map (row_of (out-Command grammar).name.now)
    (map rule_of (out-Command grammar).args.items)
    ++ flat_map command_rows (map shape_of cs))) below
