-- The number that an argument is read as.
use Rattle.std.proofs.Common.{◌≡◌, ◌∙◌, ℕ, Bool, true, false, List, [], ◌∷◌, Option, Some, None}
use Rattle.std.proofs.Common.{Result, Ok, Err, ap, refl, length, nat_lt, lt-ltb, ltb-true}
use Rattle.std.specs.Prelude.{unwrap_or}
use Rattle.std.specs.Char.{digit_value}
use Rattle.std.specs.List.{list_all}
use Rattle.std.specs.Option.{option_map_or}
use Rattle.std.specs.Str.Parse.{AllDigits, IsNumeral, ParsesUnsigned, digits_value}
use Rattle.std.specs.Str.Parse.{without_leading_plus}
use Rattle.clap.specs.Words.{ReadsOne, Text, one_text, rows_of}
use Rattle.clap.specs.declared.parser.matches.Found.{Found}
use Rattle.clap.proofs.WalkLemmas.{both, one_text-rows}
use Rattle.osn_invocation.specs.Invocation.{is_number, number_of, number_or}

digits_pass : (ds : List ℕ) → AllDigits 10 ds
    → list_all (λ d. nat_lt (digit_value d) 10) ds ≡ true
digits_pass [] h = refl
digits_pass (d ∷ ds) h = rw (lt-ltb (digit_value d) 10 h.0) (digits_pass ds h.1)

digits_from : (ds : List ℕ) → list_all (λ d. nat_lt (digit_value d) 10) ds ≡ true
    → AllDigits 10 ds
digits_from [] e = tt
digits_from (d ∷ ds) e =
    let parts = both _ _ e in
    (ltb-true _ _ parts.0, digits_from ds parts.1)

numeral_from : (ds : List ℕ) → is_number ds ≡ true
    → IsNumeral 10 ds × (nat_lt (digits_value 10 ds) 4294967296 ≡ true)
numeral_from ds e =
    let outer = both _ _ e in
    let inner = both _ _ outer.0 in
    ((ltb-true _ _ inner.0, digits_from ds inner.1), outer.1)

-- a text that is read as a number, or as another number if it is not one
pub number_read : {E : Type 0} (G : Text → Result ℕ E → Type 0)
    → ((t : Text) (x : Result ℕ E) → G t x → ParsesUnsigned 32 10 t x)
    → (other : ℕ) (text : Text) (r : Option ℕ) → ReadsOne G text r
    → unwrap_or r other ≡ number_or other text
number_read G reads other text (Some n) h =
    let ds = without_leading_plus text in
    let p = reads text (Ok n) h in
    rw (
      lt-ltb 0 (length ds) p.0.0.0,
      digits_pass ds p.0.0.1,
      lt-ltb (digits_value 10 ds) 4294967296 p.0.1,
    ) p.1
number_read G reads other text None h = go (is_number (without_leading_plus text)) refl
  where
    go : (b : Bool) → is_number (without_leading_plus text) ≡ b → other ≡ number_or other text
    go false t = rw t refl
    go true t =
        let numeral = numeral_from (without_leading_plus text) t in
        absurd (reads text (Err h.0) h.1 (numeral.0, ltb-true _ _ numeral.1))

-- the number that `get_one` gives, or the other one
pub number_given : {E : Type 0} (G : Text → Result ℕ E → Type 0)
    → ((t : Text) (x : Result ℕ E) → G t x → ParsesUnsigned 32 10 t x)
    → (other : ℕ) (f : Found) (name : Text) (r : Option ℕ)
    → (one_text f name ≡ None → r ≡ None)
    → ((t : Text) → one_text f name ≡ Some t → ReadsOne G t r)
    → unwrap_or r other ≡ number_of other name (rows_of f)
number_given G reads other f name r none value =
    go (one_text f name) refl
    ∙ ap (λ o. option_map_or (number_or other) o other) (one_text-rows f name)
  where
    go : (o : Option Text) → one_text f name ≡ o
        → unwrap_or r other ≡ option_map_or (number_or other) o other
    go None e = ap (λ o. unwrap_or o other) (none e)
    go (Some t) e = number_read G reads other t r (value t e)
