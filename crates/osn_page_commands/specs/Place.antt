-- Which territory a word names, and what is said if it names none or several.
use Rattle.std.specs.Prelude.{ℕ, nat_eq, nat_le, Bool, ◌||◌, ◌&&◌, if◌then◌else◌, List, [], ◌∷◌}
use Rattle.std.specs.Prelude.{◌++◌, length, map, find, Option, Some, None, is_some, codes}
use Rattle.std.specs.List.{filter, flat_map, list_any, starts_with}
use Rattle.std.specs.Str.{str_eq_ignore_ascii_case, str_to_ascii_lowercase}
use Rattle.osn_lines.specs.Near.{is_near}
use Rattle.osn_register.specs.Answer.{land_of}
use Rattle.osn_register.specs.Plain.{EntryModel, entry_of}
use Rattle.osn_register.specs.declared.answer.Land.{Land}
use Rattle.osn_lines.specs.Escape.{escaped_text}
use Rattle.osn_page_commands.specs.Pieces.{pieces}
use Rattle.osn_page_commands.specs.declared.place.Place.{Place}
use Rattle.osn_page_commands.specs.declared.place.Place.TheVariants.{One, NotOne}

-- ---- the territory of a word

-- a territory has the word as its code or its name, in capital or small letters
abbrev pub is_called : List ℕ → Land → Bool
is_called word territory =
    str_eq_ignore_ascii_case territory.code word || str_eq_ignore_ascii_case territory.name word

-- the territories that have the word as their code or their name
abbrev pub territories_called : List ℕ → List EntryModel → List Land
territories_called word territories = filter (is_called word) (map land_of territories)

-- the only one of these territories, by its code, or all of them
abbrev pub only_of : List Land → Place
only_of [] = NotOne []
only_of (territory ∷ []) = One territory.code
only_of (territory ∷ other ∷ rest) = NotOne (territory ∷ other ∷ rest)

-- what a word names: the territory whose code it is, as published; or else the only one that is
-- called so
abbrev pub place_named : List ℕ → List EntryModel → Place
place_named word territories =
    if is_some (entry_of word territories) then One word
    else only_of (territories_called word territories)

-- ---- the nearest territory

-- the code or the name of a territory is near a word, and no further than `most`
abbrev pub is_territory_near : ℕ → List ℕ → Land → Bool
is_territory_near most word territory = is_near most word territory.code
    || is_near most word territory.name

-- the first of two, if there is one
abbrev pub first_or : {A : Type 0} → Option A → Option A → Option A
first_or (Some found) other = Some found
first_or None other = other

-- the nearest territory: the first that is one step away, or else the first that is two steps away
abbrev pub nearest_territory : List ℕ → List Land → Option Land
nearest_territory word territories =
    first_or (find (is_territory_near 1 word) territories)
    (find (is_territory_near 2 word) territories)

-- ---- the territories that may be meant

-- a code begins with a word of two letters or more, in capital or small letters
abbrev pub begins_with : List ℕ → List ℕ → Bool
begins_with word code = nat_le 2 (length word)
    && starts_with nat_eq (str_to_ascii_lowercase code) (str_to_ascii_lowercase word)

-- one of the words of a name is near a word
abbrev pub has_word_near : List ℕ → List ℕ → Bool
has_word_near word name = list_any (is_near 2 word) (pieces 32 name)

-- the code of a territory begins with a word, or one of the words of its name is near it
abbrev pub is_similar : List ℕ → Land → Bool
is_similar word territory = begins_with word territory.code || has_word_near word territory.name

-- the nearest territory, or else those that are similar
abbrev pub alone_or : Option Land → List Land → List Land
alone_or (Some territory) others = territory ∷ []
alone_or None others = others

abbrev pub suggested : List ℕ → List Land → List Land
suggested word territories =
    alone_or (nearest_territory word territories) (filter (is_similar word) territories)

-- ---- what is said

-- a territory by its code and name: GB (Great Britain)
abbrev pub territory_title : Land → List ℕ
territory_title territory =
    territory.code ++ (codes " (" ++ (escaped_text territory.name ++ codes ")"))

-- one of the territories that a word may name
abbrev pub note_line : Land → List ℕ
note_line territory = codes "note: " ++ (territory_title territory ++ codes "\n")

-- the only one of these territories, if there is one alone
abbrev pub only_meant : List Land → Option Land
only_meant [] = None
only_meant (territory ∷ []) = Some territory
only_meant (territory ∷ other ∷ rest) = None

-- each of these
abbrev pub each_meant : List Land → List ℕ
each_meant meant = codes ": did you mean one of these?\n" ++ flat_map note_line meant

-- none, or each of several
abbrev pub several_meant : List Land → List ℕ
several_meant [] = codes "\n"
several_meant (territory ∷ rest) = each_meant (territory ∷ rest)

-- the only territory that may be meant, or each of several
abbrev pub suggestion_by : Option Land → List Land → List ℕ
suggestion_by (Some only) meant = codes ": did you mean " ++ (territory_title only ++ codes "?\n")
suggestion_by None meant = several_meant meant

abbrev pub suggestion : List Land → List ℕ
suggestion meant = suggestion_by (only_meant meant) meant

-- a word that names no territory, and those that may be meant
abbrev pub unknown_line : List ℕ → List Land → List ℕ
unknown_line word meant =
    codes "oldstyle: no territory has the code or the name " ++ (escaped_text word
    ++ suggestion meant)

-- the lines on a word that names none of these territories, with the path of the journal
abbrev pub unknown_lines : List ℕ → List ℕ → List Land → List ℕ
unknown_lines path word territories =
    unknown_line word (suggested word territories)
    ++ (codes "help: oldstyle territory " ++ (escaped_text path
    ++ codes " lists the territories\n"))

-- the lines on a word that names all of these
abbrev pub several_lines : List ℕ → List Land → List ℕ
several_lines word territories =
    codes "oldstyle: "
    ++ (escaped_text word
    ++ (codes ": several territories have this code or name: write the code of one\n"
    ++ flat_map note_line territories))

-- the lines on a word that names no territory, or these, of all that there are
abbrev pub place_lines : List ℕ → List ℕ → List Land → List Land → List ℕ
place_lines path word [] territories = unknown_lines path word territories
place_lines path word (territory ∷ rest) territories = several_lines word (territory ∷ rest)
