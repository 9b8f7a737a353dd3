-- What is inside the brackets of a set, in the words of the calls that find it.
use Rattle.std.proofs.Common.{◌≡◌, ℕ, List, [], ◌∷◌, ◌++◌, Option, Some, None, Bor, MatchOption}
use Rattle.std.proofs.Common.{Result, Ok, Err}
use Rattle.std.proofs.Common.{option_map, refl, ap, ◌∙◌, sym, append_assoc}
use Rattle.std.proofs.lemmas.Bool.{eq-eqb, ne_eqb}
use Rattle.osn_written.specs.declared.written_date.DateFault.{DateFault}
use Rattle.osn_written.specs.declared.any_date.AnyDate.{AnyDate}
use Rattle.osn_grammar.specs.Simple.{◌>>=◌}
use Rattle.osn_grammar.specs.Sets.{without_first, without_last}

-- ---- brackets and braces

no_first : (c : ℕ) (bs : List ℕ) → ((rest : List ℕ) → bs ≡ c ∷ rest → ⊥)
    → without_first c bs ≡ None
no_first c [] none = refl
no_first c (b ∷ rest) none =
    rw (ne_eqb b c (λ same. none rest (ap (λ c. c ∷ rest) same))) refl

-- a text that begins with a character
first_without : (c : ℕ) (rest : List ℕ) → without_first c (c ∷ rest) ≡ Some rest
first_without c rest = rw (eq-eqb c c refl) refl

pub first_stripped : (c : ℕ) (bs : List ℕ) (r : Option (Bor (List ℕ)))
    → MatchOption r ((rest : List ℕ) → bs ≡ c ∷ rest → ⊥) (λ x. bs ≡ c ∷ x.now)
    → option_map (λ x. x.now) r ≡ without_first c bs
first_stripped c bs None none = sym (no_first c bs none)
first_stripped c bs (Some x) found =
    sym (ap (without_first c) found ∙ first_without c x.now)

-- what comes before a character at the end
pub last_without : (c : ℕ) (front : List ℕ) → without_last c (front ++ c ∷ []) ≡ Some front
last_without c [] = rw (eq-eqb c c refl) refl
last_without c (b ∷ []) = rw (eq-eqb c c refl) refl
last_without c (b ∷ next ∷ rest) =
    ap (option_map (λ front. b ∷ front)) (last_without c (next ∷ rest))

no_last : (c : ℕ) (bs : List ℕ) → ((front : List ℕ) → bs ≡ front ++ c ∷ [] → ⊥)
    → without_last c bs ≡ None
no_last c [] none = refl
no_last c (b ∷ []) none =
    rw (ne_eqb b c (λ same. none [] (ap (λ c. c ∷ []) same))) refl
no_last c (b ∷ next ∷ rest) none =
    ap (option_map (λ front. b ∷ front))
    (no_last c (next ∷ rest) (λ front is. none (b ∷ front) (ap (λ bs. b ∷ bs) is)))

pub last_stripped : (c : ℕ) (bs : List ℕ) (r : Option (Bor (List ℕ)))
    → MatchOption r ((front : List ℕ) → bs ≡ front ++ c ∷ [] → ⊥) (λ x. bs ≡ x.now ++ c ∷ [])
    → option_map (λ x. x.now) r ≡ without_last c bs
last_stripped c bs None none = sym (no_last c bs none)
last_stripped c bs (Some x) found = sym (ap (without_last c) found ∙ last_without c x.now)

-- ---- members

-- one member more
pub member_added : (front : List AnyDate) (w : AnyDate) (found : Result AnyDate DateFault)
    (rest : Result (List AnyDate) DateFault) → found ≡ Ok w
    → ((found >>= (λ v. rest >>= (λ ws. Ok (v ∷ ws)))) >>= (λ ws. Ok (front ++ ws)))
    ≡ (rest >>= (λ ws. Ok ((front ++ w ∷ []) ++ ws)))
member_added front w found (Err fault) is = rw is refl
member_added front w found (Ok ws) is = rw is (ap Ok (sym (append_assoc front (w ∷ []) ws)))
