-- Which service the options of `serve` ask for, by the files that they name.
use Rattle.std.specs.Prelude.{Bool, true, false, List, ℕ, Option, Some, None, Result, Ok, Err}
use Rattle.std.specs.Prelude.{option_map}
use Rattle.osn_invocation.specs.declared.invocation.ServeOptions.{ServeOptions}
use Rattle.osn_report.specs.declared.fault.CommandFault.{CommandFault}
use Rattle.osn_report.specs.declared.fault.CommandFault.TheVariants.{FollowedWithOther}
use Rattle.osn_report.specs.declared.fault.CommandFault.TheVariants.{KeptWithOther}
use Rattle.osn_report.specs.declared.fault.CommandFault.TheVariants.{UpgradeWithoutKeep}
use Rattle.osn_serve_commands.specs.declared.mode.Mode.{Mode}
use Rattle.osn_serve_commands.specs.declared.mode.Mode.TheVariants.{Load, Keep, Upgrade, Follow}

-- which service is run: one in memory, with the journal to begin with and the file that the journal
-- is saved to, if they are named; one that keeps its journal in a file; the same, after the file
-- was upgraded; or one that follows the file that another run keeps. Files are named by their paths
pub data ModeModel : Type 0 where
  loading : Option (List ℕ) → Option (List ℕ) → ModeModel
  keeping : List ℕ → ModeModel
  upgrading : List ℕ → ModeModel
  following : List ℕ → ModeModel

abbrev pub mode_model : Mode → ModeModel
mode_model (Load journal save) =
    loading (option_map (λ path. path.now) journal) (option_map (λ path. path.now) save)
mode_model (Keep path) = keeping path.now
mode_model (Upgrade path) = upgrading path.now
mode_model (Follow path) = following path.now

-- the service that is asked for: by whether an upgrade is, and by the paths of a journal to keep,
-- of one to follow, of one to begin with and of a file to save to, if they are given. An upgrade
-- requires a journal to keep. One that is followed can't be used with another path, and one that is
-- kept can't either
abbrev pub mode_by : Bool → Option (List ℕ) → Option (List ℕ) → Option (List ℕ)
    → Option (List ℕ) → Result ModeModel CommandFault
mode_by true None follow journal save = Err UpgradeWithoutKeep
mode_by false None None journal save = Ok (loading journal save)
mode_by false None (Some path) None None = Ok (following path)
mode_by false (Some path) None None None = Ok (keeping path)
mode_by true (Some path) None None None = Ok (upgrading path)
mode_by upgrade keep (Some path) journal save = Err FollowedWithOther
mode_by upgrade (Some path) None journal save = Err KeptWithOther

abbrev pub mode_of_options : ServeOptions → Result ModeModel CommandFault
mode_of_options input =
    mode_by input.upgrade (option_map (λ path. path.now) input.keep)
    (option_map (λ path. path.now) input.follow) (option_map (λ path. path.now) input.journal)
    (option_map (λ path. path.now) input.save)
