-- The words of a command line, of whatever type they are.
use Rattle.std.proofs.Common.{◌≡◌, ◌∙◌, ◌+◌, ◌||◌, Bool, List, [], ◌∷◌, map, ap, refl, drop, sym}
use Rattle.std.proofs.Common.{Option, Some, if◌then◌else◌}
use Rattle.std.specs.List.{list_any}
use Rattle.std.proofs.lemmas.List.{drop-map}
use Rattle.clap.specs.Words.{Text}
use Rattle.osn_commands.specs.CommandWords.{first_plain, first_plain_from, is_plain, next_after}
use Rattle.osn_commands.specs.CommandWords.{plain_count, plain_from}
use Rattle.osn_commands.specs.declared.command_words.Next.{Next}
use Rattle.osn_commands.specs.declared.command_words.Next.TheVariants as next

-- a test of one of them, by their texts
pub any_of_map : {X : Type 0} (f : X → Text) (p : Text → Bool) → (words : List X)
    → list_any (λ word. p (f word)) words ≡ list_any p (map f words)
any_of_map f p [] = refl
any_of_map f p (word ∷ words) = ap (λ rest. p (f word) || rest) (any_of_map f p words)

-- the count of plain words from a place is that of their texts
from_map : {X : Type 0} (f : X → Text) (next : Next) (words : List X)
    → plain_from f next words ≡ plain_from (λ word. word) next (map f words)
from_map f next [] = refl
from_map f next (word ∷ words) =
    ap (λ n. (if is_plain next (f word) then 1 else 0) + n)
    (from_map f (next_after next (f word)) words)

pub same_count : {X : Type 0} (f : X → Text) (words : List X)
    → plain_from f next.Any (drop 2 words) ≡ plain_count (map f words)
same_count f words =
    from_map f next.Any (drop 2 words)
    ∙ ap (λ rest. plain_from (λ word. word) next.Any rest) (sym (drop-map f 2 words))

-- the first plain word from a place is that of their texts
first_map : {X : Type 0} (f : X → Text) (next : Next) (words : List X)
    → first_plain_from f next words ≡ first_plain_from (λ word. word) next (map f words)
first_map f next [] = refl
first_map f next (word ∷ words) =
    ap (λ (rest : Option Text). if is_plain next (f word) then Some (f word) else rest)
    (first_map f (next_after next (f word)) words)

pub same_first : {X : Type 0} (f : X → Text) (words : List X)
    → first_plain_from f next.Any (drop 2 words) ≡ first_plain (map f words)
same_first f words =
    first_map f next.Any (drop 2 words)
    ∙ ap (λ rest. first_plain_from (λ word. word) next.Any rest) (sym (drop-map f 2 words))
