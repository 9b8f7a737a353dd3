-- Whether the edits of a text's plan would change again what editions after that of the text
-- changed, and what is reported then. This project's profile.
use Rattle.std.specs.Prelude.{ℕ, ◌+◌, pos, nat_lt, Bool, false, ◌&&◌, if◌then◌else◌}
use Rattle.std.specs.Prelude.{List, [], ◌∷◌, ◌++◌, length, drop, codes, Option, Some, None}
use Rattle.std.specs.Fmt.{decimal}
use Rattle.std.specs.List.{list_any}
use Rattle.std.specs.Ordering.{int_eq}
use Rattle.std.specs.Str.{bytes_eq}
use Rattle.osn_days.specs.Rules.{newest_rules}
use Rattle.osn_register_text.specs.PlanPage.{plan_page}
use Rattle.osn_register.specs.Lawful.{code_of}
use Rattle.osn_register.specs.Plain.{EntryModel}
use Rattle.osn_register.specs.declared.edit.Edit.{Edit}
use Rattle.osn_register.specs.declared.edit.Edit.TheVariants.{AddLand, AddChange, AlterChange}
use Rattle.osn_register.specs.declared.edit.Edit.TheVariants.{DropChange, AddException}
use Rattle.osn_register.specs.declared.edit.Edit.TheVariants.{DropException}
use Rattle.osn_lines.specs.Escape.{escaped_text}
use Rattle.osn_commands.specs.declared.since.Item.{Item}
use Rattle.osn_commands.specs.declared.since.Item.TheVariants.{Period, Easter}
use Rattle.osn_commands.specs.declared.since.PublishRequest.{PublishRequest}

-- what a publish is asked for: the paths of the journal and of the text, the edition that the text
-- says it was made of, and whether later editions don't hinder it
pub record RequestModel : Type 0 where
  pub journal : List ℕ
  pub text : List ℕ
  pub edition : Option ℕ
  pub onto_newest : Bool

abbrev pub request_of : PublishRequest → RequestModel
request_of request = record {
  journal = request.journal.now;
  text = request.text.now;
  edition = request.edition;
  onto_newest = request.onto_newest;
}

-- ---- what edits change

-- the period or the listed Easter that an edit changes
abbrev pub item_of : Edit → Item
item_of (AddLand code name regime source) = Period (pos 1)
item_of (AddChange code day regime source) = Period day
item_of (AlterChange code day regime source) = Period day
item_of (DropChange code day) = Period day
item_of (AddException code year day source) = Easter year
item_of (DropException code year) = Easter year

abbrev pub same_item : Item → Item → Bool
same_item (Period day) (Period other) = int_eq day other
same_item (Easter year) (Easter other) = int_eq year other
same_item (Period day) (Easter year) = false
same_item (Easter year) (Period day) = false

-- two edits change the same, of one territory
abbrev pub change_same : Edit → Edit → Bool
change_same edit other =
    bytes_eq (code_of edit) (code_of other) && same_item (item_of edit) (item_of other)

-- one of these edits changes what one of a batch changed
abbrev pub change_again : List Edit → List Edit → Bool
change_again edits batch = list_any (λ edit. list_any (change_same edit) batch) edits

-- ---- by editions

-- the edition of a text, if it says one that a journal of this many editions lacks
abbrev pub later_than : Option ℕ → ℕ → Option ℕ
later_than None editions = None
later_than (Some edition) editions = if nat_lt editions edition then Some edition else None

-- the edition of a text, if these edits of its plan change again what a later edition changed
abbrev pub behind : Option ℕ → List (List Edit) → List Edit → Option ℕ
behind None batches edits = None
behind (Some edition) batches edits =
    if list_any (change_again edits) (drop edition batches) then Some edition else None

-- the edition of a text, if these edits of its plan change again what a later edition changed, and
-- the publish is not onto the newest edition
abbrev pub hindering_edition : RequestModel → List (List Edit) → List Edit → Option ℕ
hindering_edition request batches edits =
    if request.onto_newest then None else behind request.edition batches edits

-- ---- what is printed

-- the lines on a text of an edition that the journal lacks, which has this many
unfoldable pub later_lines : List ℕ → List ℕ → ℕ → ℕ → List ℕ
later_lines text journal edition editions = codes "oldstyle: "
    ++ (escaped_text text
    ++ (codes ": edition: "
    ++ (decimal edition
    ++ (codes " is later than the newest edition of "
    ++ (escaped_text journal
    ++ (codes ", which is "
    ++ (decimal editions
    ++ codes "\nhelp: write the edition that the text was made from, or leave the line out\n")))))))

-- what an edition changed, in the words of a plan
abbrev pub edition_lines : List EntryModel → ℕ → List Edit → List ℕ
edition_lines territories number edits = codes "edition "
    ++ (decimal number ++ (codes ":\n" ++ plan_page newest_rules [] territories edits))

-- what each edition after that of a number changed, in the words of a plan
abbrev pub editions_lines : List EntryModel → ℕ → List (List Edit) → List ℕ
editions_lines territories number [] = []
editions_lines territories number (batch ∷ batches) =
    edition_lines territories (number + 1) batch ++ editions_lines territories (number + 1) batches

unfoldable pub behind_begin : List ℕ → List ℕ → ℕ → List ℕ
behind_begin text journal edition = codes "oldstyle: "
    ++ (escaped_text text
    ++ (codes ": the text was made from edition "
    ++ (decimal edition
    ++ (codes ", and would undo or change again what later editions of "
    ++ (escaped_text journal ++ codes " changed:\n")))))

unfoldable pub behind_end : List ℕ → ℕ → List ℕ
behind_end journal editions = codes "help: print the text again with oldstyle text "
    ++ (escaped_text journal
    ++ (codes "; or write edition = "
    ++ (decimal editions
    ++ codes " in it, if it has these edits; or publish it anyway with --onto-newest\n")))

-- the lines on a text of an edition, and what later ones of the journal changed
abbrev pub behind_lines : List ℕ → List ℕ → ℕ → List EntryModel → List (List Edit) → List ℕ
behind_lines text journal edition territories batches =
    behind_begin text journal edition
    ++ (editions_lines territories edition (drop edition batches)
    ++ behind_end journal (length batches))
