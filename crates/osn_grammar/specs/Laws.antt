-- Laws of the table of names: which names it has, whatever else it has.
use Rattle.std.specs.Prelude.{◌≡◌, ℕ, ◌+◌, List, [], ◌∷◌, map, codes, Option, Some}
use Rattle.std.specs.List.{range_with_len}
use Rattle.osn_days.specs.Month.{month_name}
use Rattle.osn_days.specs.Weekday.{weekday_name, weekday_numbered}
use Rattle.osn_grammar.specs.declared.token.Token.{Token}
use Rattle.osn_grammar.specs.declared.token.Token.TheVariants.{Month, Weekday}
use Rattle.osn_grammar.specs.Names.{token_named}
use Rattle.osn_grammar.specs.Scan.{small}

-- the part of each of some names, whose letters may be capital
abbrev pub tokens_named : List (List ℕ) → List (Option Token)
tokens_named = map (λ name. token_named (map small name))

-- the English names of the twelve months are those of the months, and of the weekdays those of the
-- weekdays
unfoldable pub AreEnglishNamesKnown : Type 0
AreEnglishNamesKnown =
    (tokens_named (map month_name (range_with_len 1 12))
    ≡ map (λ m. Some (Month m)) (range_with_len 1 12))
    × (tokens_named (map (λ n. weekday_name (weekday_numbered n)) (range_with_len 0 7))
    ≡ map (λ n. Some (Weekday (weekday_numbered n))) (range_with_len 0 7))

-- the old names of September to December count the months from March on as the first: 8ber is the
-- eighth, and October
abbrev pub months_by_count : List (Option Token)
months_by_count = map (λ n. Some (Month (n + 2))) (7 ∷ 8 ∷ 9 ∷ 10 ∷ 10 ∷ [])

unfoldable pub AreCountedNamesKnown : Type 0
AreCountedNamesKnown =
    (tokens_named (codes "7ber" ∷ codes "8ber" ∷ codes "9ber" ∷ codes "Xber" ∷ codes "10ber" ∷ [])
    ≡ months_by_count)
    × (tokens_named
    (codes "7bris" ∷ codes "8bris" ∷ codes "9bris" ∷ codes "Xbris" ∷ codes "10bris" ∷ [])
    ≡ months_by_count)
