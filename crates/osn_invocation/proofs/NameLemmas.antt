-- Each name of a command of the command line is that of a command that the program has.
use Rattle.std.proofs.Common.{◌≡◌, Contains, List, None, false, refl, true}
use Rattle.std.specs.Prelude.{is_some}
use Rattle.std.specs.List.{list_all}
use Rattle.std.proofs.lemmas.List.Elements.{All-contains}
use Rattle.std.proofs.lemmas.List.Sums.{AllPass-from_list_all}
use Rattle.clap.specs.Words.{Row, Text}
use Rattle.clap.proofs.OnLiterals.{clap_on_literals}
use Rattle.osn_invocation.specs.Invocation.{command_named, command_names}

-- the program has a command of each name
all_named : (given : List Row)
    → list_all (λ name. is_some (command_named name given)) command_names ≡ true
unfolding clap_on_literals
all_named given = refl

-- each name of the command line asks for a command
pub is_named : (name : Text) (given : List Row) → Contains command_names name
    → command_named name given ≡ None → ⊥
is_named name given has none =
    let found = All-contains (λ name. is_some (command_named name given) ≡ true) command_names name
    (AllPass-from_list_all (λ name. is_some (command_named name given)) command_names
    (all_named given)) has in
    let nothing : false ≡ true = rw none at found in cc
