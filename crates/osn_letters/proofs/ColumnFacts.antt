-- The field of an index, and the names of a header.
use Rattle.std.proofs.Common.{◌≡◌, ◌<◌, ◌≤◌, ◌∙◌, ℕ, zero, suc, ◌+◌, List, [], ◌∷◌}
use Rattle.std.proofs.Common.{length, get_or, Some, None, refl, sym, ap}
use Rattle.std.proofs.Common.{arith, add-one, ◌++◌, append-nil}
use Rattle.std.proofs.Common.{append_assoc, take, codes}
use Rattle.std.proofs.Math.Seq.{take-suc}
use Rattle.std.proofs.lemmas.Grind.{flat_map-append}
use Rattle.std.proofs.lemmas.List.{length-take, take_all}
use Rattle.std.specs.List.{flat_map}
use Rattle.csv.specs.Records.{field_at}
use Rattle.osn_letters.specs.Columns.{after_comma, names_text}

pub field_is : (fs : List (List ℕ)) (i : ℕ) (f : List ℕ) → Some f ≡ field_at fs i
    → f ≡ get_or fs i []
unfolding field_at
field_is [] i f h = absurd (cc)
field_is (g ∷ fs) zero f h = cc
field_is (g ∷ fs) (suc i) f h = field_is fs i f h

pub no_field : (fs : List (List ℕ)) (i : ℕ) → None ≡ field_at fs i → [] ≡ get_or fs i []
unfolding field_at
no_field [] i h = refl
no_field (g ∷ fs) zero h = absurd (cc)
no_field (g ∷ fs) (suc i) h = no_field fs i h

-- ---- the names of a header

flat_last : (names : List (List ℕ)) (name : List ℕ)
    → flat_map after_comma (names ++ (name ∷ [])) ≡ flat_map after_comma names ++ after_comma name
flat_last names name =
    flat_map-append after_comma names (name ∷ [])
    ∙ ap (λ l. flat_map after_comma names ++ l) (append-nil (after_comma name))

text_last : (names : List (List ℕ)) (name : List ℕ) → 0 < length names
    → names_text (names ++ (name ∷ [])) ≡ names_text names ++ after_comma name
text_last [] name some = absurd (omega (arith, some))
text_last (first ∷ names) name some =
    ap (λ t. first ++ t) (flat_last names name)
    ∙ sym (append_assoc first (flat_map after_comma names) (after_comma name))

-- the name of one field more
pub names_further : (fs : List (List ℕ)) (i : ℕ) (so_far : List ℕ) → 0 < i → i < length fs
    → so_far ≡ names_text (take i fs)
    → (so_far ++ codes ", ") ++ get_or fs i [] ≡ names_text (take (i + 1) fs)
names_further fs i so_far some low is =
    append_assoc so_far (codes ", ") (get_or fs i [])
    ∙ ap (λ t. t ++ after_comma (get_or fs i [])) is
    ∙ sym (text_last (take i fs) (get_or fs i [])
    (omega (arith, some, low, length-take i fs)))
    ∙ ap names_text (sym (take-suc fs i [] low) ∙ ap (λ k. take k fs) (sym (add-one i)))

-- the name of the first field
pub first_name : (fs : List (List ℕ)) → get_or fs 0 [] ≡ names_text (take 1 fs)
first_name [] = refl
first_name (name ∷ names) = sym (append-nil name)

-- all of them
pub all_names : (fs : List (List ℕ)) (i : ℕ) (text : List ℕ) → length fs ≤ i
    → text ≡ names_text (take i fs) → text ≡ names_text fs
all_names fs i text high is = is ∙ ap names_text (take_all i fs high)
