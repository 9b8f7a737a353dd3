-- The pieces of a text, in the words of the call that finds them.
use Rattle.std.proofs.Common.{◌≡◌, ◌<◌, ℕ, ◌==◌, Bool, true, false, List, [], ◌∷◌, length}
use Rattle.std.proofs.Common.{if◌then◌else◌, Option, Some, None, option_map, ap, refl, arith}
use Rattle.std.proofs.lemmas.Option.{same_Some}
use Rattle.osn_written.specs.WrittenDate.{parts_at, with_first}
use Rattle.osn_page_commands.specs.Pieces.{onto_first, pieces}

-- the pieces by what is before and after the first such byte
abbrev pub pieces_by : ℕ → List ℕ → Option (List ℕ × List ℕ) → List (List ℕ)
pieces_by c text None = text ∷ []
pieces_by c text (Some parts) = parts.0 ∷ pieces c parts.1

one_more : (c b : ℕ) (rest : List ℕ) (t : Bool) (parts : Option (List ℕ × List ℕ))
    → pieces c rest ≡ pieces_by c rest parts
    → (if t then [] ∷ pieces c rest else onto_first b (pieces c rest))
    ≡ pieces_by c (b ∷ rest) (if t then Some ([], rest) else option_map (with_first b) parts)
one_more c b rest true parts h = refl
one_more c b rest false None h = ap (onto_first b) h
one_more c b rest false (Some parts) h = ap (onto_first b) h

pub pieces_cut : (c : ℕ) (text : List ℕ) → pieces c text ≡ pieces_by c text (parts_at c text)
pieces_cut c [] = refl
pieces_cut c (b ∷ rest) = one_more c b rest (b == c) (parts_at c rest) (pieces_cut c rest)

-- what comes after such a byte is shorter
shorter_by : (b : ℕ) (rest : List ℕ) (t : Bool) (parts : Option (List ℕ × List ℕ))
    (first further : List ℕ)
    → ((first further : List ℕ) → parts ≡ Some (first, further) → length further < length rest)
    → (if t then Some ([], rest) else option_map (with_first b) parts) ≡ Some (first, further)
    → length further < length (b ∷ rest)
shorter_by b rest true parts first further h e =
    let is : rest ≡ further = ap (λ x. x.1) (same_Some _ _ e) in
    omega (arith, ap length is)
shorter_by b rest false None first further h e = absurd (cc)
shorter_by b rest false (Some parts) first further h e =
    let is : parts.1 ≡ further = ap (λ x. x.1) (same_Some _ _ e) in
    omega (arith, h parts.0 parts.1 refl, ap length is)

pub shorter : (c : ℕ) (text first further : List ℕ) → parts_at c text ≡ Some (first, further)
    → length further < length text
shorter c [] first further e = absurd (cc)
shorter c (b ∷ rest) first further e =
    shorter_by b rest (b == c) (parts_at c rest) first further (shorter c rest) e
