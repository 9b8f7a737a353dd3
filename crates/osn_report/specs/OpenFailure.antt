-- What is printed about a file that could not be opened. This project's profile.
use Rattle.std.specs.Prelude.{ℕ, List, ◌++◌, codes}
use Rattle.osn_folder.specs.declared.fault.OpenFailed.{OpenFailed}
use Rattle.osn_folder.specs.declared.fault.OpenFailed.TheVariants.{NotFound, PermissionDenied}
use Rattle.osn_folder.specs.declared.fault.OpenFailed.TheVariants.{NoFolder, IsDirectory, Other}
use Rattle.osn_lines.specs.Escape.{escaped_text}

abbrev pub cause_text : OpenFailed → List ℕ
cause_text NotFound = codes "no such file"
cause_text NoFolder = codes "no such folder"
cause_text PermissionDenied = codes "permission denied"
cause_text IsDirectory = codes "is a directory"
cause_text Other = codes "read fault"

-- the line on the file of a path
abbrev pub open_failure_line : List ℕ → OpenFailed → List ℕ
open_failure_line path cause =
    codes "oldstyle: " ++ (escaped_text path ++ (codes ": " ++ (cause_text cause ++ codes "\n")))
