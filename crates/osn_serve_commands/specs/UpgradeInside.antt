-- What the parts that rewrite a journal have done.
use Rattle.std.specs.Prelude.{◌≡◌, ℕ, true, false, List, Option}
use Rattle.osn_register.specs.declared.limits.Limits.{Limits}
use Rattle.osn_core.specs.Sequential.{ObjectState}
use Rattle.osn_request.specs.Version.{has_sources, newest_version}
use Rattle.osn_request.specs.declared.version.Version.{Version}
use Rattle.osn_files.specs.JournalText.{journal_text_of}
use Rattle.osn_serve_commands.specs.Keep.{HoldsObject, cut_text, unfinished_line}
use Rattle.osn_serve_commands.specs.KeepInside.{AreReadOf}

-- a journal that was read is of a version that has sources
pub record IsNewest (limits : Limits) (input : Option (List ℕ)) : Type 0 where
  pub bytes : List ℕ
  pub version : Version
  pub object : ObjectState
  pub read : AreReadOf input bytes
  pub holds : HoldsObject limits bytes version object
  pub newest : has_sources version ≡ true

-- it is of one that has none: these bytes, and the texts of the rewritten journal and of the report
pub record IsOlder (limits : Limits) (input : Option (List ℕ)) (bytes text : List ℕ)
    (cut : Option (List ℕ)) : Type 0 where
  pub version : Version
  pub object : ObjectState
  pub read : AreReadOf input bytes
  pub holds : HoldsObject limits bytes version object
  pub older : has_sources version ≡ false
  pub anew : text ≡ journal_text_of newest_version object
  pub message : cut ≡ cut_text (unfinished_line bytes)
