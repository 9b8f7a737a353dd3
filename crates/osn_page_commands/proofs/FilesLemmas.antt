-- A table was read by what is asked for, with a table of places or without.
use Rattle.std.proofs.Common.{◌≡◌, Bool, ℕ, List, Option, Some, None, option_map}
use Rattle.std.specs.Borrow.{Bor}
use Rattle.osn_register.specs.declared.limits.Limits.{Limits}
use Rattle.osn_lines.specs.Streams.{Input, Output}
use Rattle.osn_page_commands.specs.Letters.{SettingsModel}
use Rattle.osn_page_commands.specs.LettersFiles.{PrintsTable}
use Rattle.osn_page_commands.specs.declared.letters.TableRules.{TableRules}
use Rattle.osn_report.specs.Folders.{Folders}
use Rattle.osn_report.specs.declared.status.Status.{Status}

module _ (limits : Limits) (journal : List ℕ) (places : Option (Bor (List ℕ)))
    (settings : SettingsModel)
    (made rules : TableRules) (CanFail : Bool → Type 0) (d : Folders) (i : Input) (o e : Output)
    (status : Status) where
  pub table_alone : places ≡ None → made ≡ rules
      → PrintsTable limits journal None settings made CanFail d i o e status
      → PrintsTable limits journal (option_map (λ path. path.now) places) settings rules CanFail d
      i o e status
  table_alone is same h = rw (is, ← same) h

  pub table_placed : (path : Bor (List ℕ)) → places ≡ Some path → made ≡ rules
      → PrintsTable limits journal (Some path.now) settings made CanFail d i o e status
      → PrintsTable limits journal (option_map (λ path. path.now) places) settings rules CanFail d
      i o e status
  table_placed path is same h = rw (is, ← same) h
