-- A journal that will be kept was rewritten, if its version has no sources, as the contract says.
use Rattle.std.proofs.Common.{◌≡◌, ℕ, Bool, List, Option, Some, None, Result, Ok, Err}
use Rattle.std.proofs.Common.{OnOk, inl, inr, sym, subst}
use Rattle.std.specs.Option.{MatchOption}
use Rattle.osn_register.specs.declared.limits.Limits.{Limits}
use Rattle.osn_folder.specs.Folder.{FolderModel, Changes, IsKeptAt, Keeps, Leaves}
use Rattle.osn_lines.specs.Streams.{Input, Output}
use Rattle.osn_report.specs.Folders.{Folders}
use Rattle.osn_report.specs.Messages.{ReportsAt}
use Rattle.osn_report.specs.declared.fault.CommandFault.{CommandFault}
use Rattle.osn_report.specs.declared.status.Status.{Status}
use Rattle.osn_serve_commands.specs.Keep.{ReportsCut, ReportsText, cut_text, unfinished_line}
use Rattle.osn_serve_commands.specs.KeepInside.{IsUnreadKept}
use Rattle.osn_serve_commands.specs.Upgrade.{CannotSaveAnew, CannotUpgrade, IsLookedAt, SavesAnew}
use Rattle.osn_serve_commands.specs.Upgrade.{SavesIfOlder, Upgrades}
use Rattle.osn_serve_commands.specs.UpgradeInside.{IsNewest, IsOlder}

-- what was written about a line is what its text says
pub reports_cut : (e : Output) (line : Option ℕ) → ReportsText e (cut_text line) → ReportsCut e line
reports_cut e None h = h
reports_cut e (Some line) h = h

-- ---- cases

pub none_found : {A : Type 0} (found : Option A) (P : Type 0) (Q : A → Type 0) → found ≡ None
    → MatchOption found P Q → P
none_found found P Q is h = subst (λ f. MatchOption f P Q) is h

pub some_found : {A : Type 0} (found : Option A) (x : A) (P : Type 0) (Q : A → Type 0)
    → found ≡ Some x → MatchOption found P Q → Q x
some_found found x P Q is h = subst (λ f. MatchOption f P Q) is h

pub both_ok : {T E : Type 0} (r : Result T E) (P Q R : Type 0) → OnOk r P → OnOk r Q
    → (P → Q → R) → OnOk r R
both_ok (Ok x) P Q R p q f = f p q
both_ok (Err x) P Q R p q f = tt

-- ---- what was done in the folder

-- a file was looked at
pub looked_at : (path : List ℕ) (CanFail : Bool
    → Type 0) (before between after : Option FolderModel)
    (contents : Option (List ℕ)) (input : Input) → Changes (Keeps path) before between
    → IsKeptAt before path contents → input.bytes ≡ contents → CanFail input.unread
    → Changes (Leaves path contents) between after → IsLookedAt path CanFail before after input
looked_at path CanFail before between after contents input keeps kept same fails leaves = record {
  between = between;
  keeps = keeps;
  contents = subst (IsKeptAt before path) (sym same) kept;
  fails = fails;
  leaves = subst (λ b. Changes (Leaves path b) between after) (sym same) leaves;
}

module _ (limits : Limits) (path : List ℕ) (CanFail : Bool → Type 0) (d : Folders) (e : Output)
    (looked : Option FolderModel) (input : Input)
    (looks : IsLookedAt path CanFail d.before looked input) where
  -- its version has sources, and it was left
  pub upgrade_left : IsNewest limits input.bytes → d.after ≡ looked → e.new ≡ e.old
      → Upgrades limits path CanFail d e
  upgrade_left is same quiet = record {
    looked = looked;
    input = input;
    looks = looks;
    bytes = is.bytes;
    version = is.version;
    object = is.object;
    reads = (is.read, is.holds);
    saves =
        subst (λ b. SavesIfOlder b path is.bytes is.object looked d.after e) (sym is.newest)
        (same, quiet);
  }

  module _ (bytes text : List ℕ) (cut : Option (List ℕ))
      (is : IsOlder limits input.bytes bytes text cut) where
    -- the journal was rewritten
    pub upgrade_saved : SavesAnew path bytes text looked d.after → ReportsText e cut
        → Upgrades limits path CanFail d e
    upgrade_saved saved message = record {
      looked = looked;
      input = input;
      looks = looks;
      bytes = bytes;
      version = is.version;
      object = is.object;
      reads = (is.read, is.holds);
      saves =
          subst (λ b. SavesIfOlder b path bytes is.object looked d.after e) (sym is.older) (
            subst (λ t. SavesAnew path bytes t looked d.after) is.anew saved,
            reports_cut e (unfinished_line bytes) (subst (ReportsText e) is.message message),
          );
    }

    -- the journal could not be rewritten
    pub upgrade_unsaved : (status : Status)
        → CannotSaveAnew path bytes text looked d.after e status
        → CannotUpgrade limits path CanFail d e status
    upgrade_unsaved status h =
        inr (
          looked,
          input,
          looks,
          inr (
            bytes,
            is.version,
            is.object,
            (is.read, is.holds),
            is.older,
            subst (λ t. CannotSaveAnew path bytes t looked d.after e status) is.anew h,
          ),
        )

  -- it makes no object, or memory ran out
  pub upgrade_unread : (fault : CommandFault) (status : Status)
      → IsUnreadKept limits input.bytes input.unread fault → d.after ≡ looked
      → ReportsAt path e fault status → CannotUpgrade limits path CanFail d e status
  upgrade_unread fault status unread same h =
      inr (looked, input, looks, inl (fault, same, unread, h))
