-- What is said if one place is that of all rows of a table, and it has no territory. This project's
-- profile.
use Rattle.std.specs.Prelude.{if◌then◌else◌, List, [], ℕ, map, Option, None, is_some}
use Rattle.std.specs.Result.{result_err}
use Rattle.osn_letters.specs.Columns.{NameTexts}
use Rattle.osn_letters.specs.PlaceEntries.{PlaceEntry}
use Rattle.osn_letters.specs.RowFields.{territory_in}
use Rattle.osn_letters.specs.declared.no_place.NoPlace.{NoPlace}
use Rattle.osn_letters.specs.declared.no_place.NoPlace.TheVariants.{Unknown, Ambiguous, NotUtf8}
use Rattle.osn_page_commands.specs.Place.{place_lines, territories_called}
use Rattle.osn_register.specs.Answer.{land_of}
use Rattle.osn_register.specs.Plain.{EntryModel}
use Rattle.osn_register.specs.declared.answer.Land.{Land}

-- why the place of all rows has no territory. If a column has the places, there is no such place
abbrev pub place_fault : List EntryModel → List PlaceEntry → NameTexts → Option NoPlace
place_fault territories places names =
    if is_some names.place then None
    else result_err (territory_in territories places names.place_of_all)

-- the territories that may be meant
abbrev pub territories_meant : NoPlace → List ℕ → List EntryModel → List Land
territories_meant Unknown place territories = []
territories_meant NotUtf8 place territories = []
territories_meant Ambiguous place territories = territories_called place territories

-- the lines on a place without a territory, with the path of the journal
abbrev pub place_fault_lines : List ℕ → List ℕ → NoPlace → List EntryModel → List ℕ
place_fault_lines path place reason territories =
    place_lines path place (territories_meant reason place territories) (map land_of territories)
