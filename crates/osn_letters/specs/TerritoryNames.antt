-- The territory of a code or a name in capital or small letters: this project's profile.
use Rattle.std.specs.Prelude.{ℕ, Bool, true, false, ◌||◌, List, [], ◌∷◌, filter, Result, Ok, Err}
use Rattle.std.specs.Str.{str_eq_ignore_ascii_case}
use Rattle.osn_register.specs.Plain.{EntryModel}
use Rattle.osn_territory.specs.Territory.{TerritoryModel}
use Rattle.osn_letters.specs.declared.no_place.NoPlace.{NoPlace}
use Rattle.osn_letters.specs.declared.no_place.NoPlace.TheVariants.{Unknown, Ambiguous, NotUtf8}

-- a territory has the text as its code or its name, in capital or small letters
abbrev pub is_called : List ℕ → EntryModel → Bool
is_called text l = str_eq_ignore_ascii_case l.code text || str_eq_ignore_ascii_case l.name text

-- the only one of these territories: if there are several, it is not known which is meant
abbrev pub only_of : List EntryModel → Result TerritoryModel NoPlace
only_of [] = Err Unknown
only_of (l ∷ []) = Ok l.territory
only_of (l ∷ other ∷ rest) = Err Ambiguous

-- the only one that is called so
abbrev pub only_called : List ℕ → List EntryModel → Result TerritoryModel NoPlace
only_called text territories = only_of (filter (is_called text) territories)

-- the only one of those before a territory and of that territory, if it is called so
abbrev pub with_territory : Bool → Result TerritoryModel NoPlace → TerritoryModel
    → Result TerritoryModel NoPlace
with_territory false found t = found
with_territory true (Ok other) t = Err Ambiguous
with_territory true (Err Unknown) t = Ok t
with_territory true (Err Ambiguous) t = Err Ambiguous
with_territory true (Err NotUtf8) t = Err NotUtf8
