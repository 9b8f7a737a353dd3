-- A byte order mark is before the end of the first record.
use Rattle.std.proofs.Common.{◌≡◌, ◌∙◌, ℕ, ◌==◌, ◌&&◌, Bool, true, false, List, [], ◌∷◌, ◌++◌}
use Rattle.std.proofs.Common.{Option, Some, None, refl, sym, ap, if◌then◌else◌}
use Rattle.std.proofs.lemmas.Bool.Decides.{Decides-eqb}
use Rattle.csv.specs.Reading.{strip_bom, is_bom}
use Rattle.osn_letters.specs.declared.separator.Separator.{Separator}
use Rattle.osn_letters.specs.declared.separator.Separator.TheVariants.{Comma, Semicolon, Tab}
use Rattle.osn_letters.specs.Records.{at_start, is_between, read_byte, reading_after}

mark_within : (x y z : ℕ) (t : Bool) → is_bom x y z ≡ t → (rest more : List ℕ)
    → (if t then rest ++ more else x ∷ y ∷ z ∷ rest ++ more)
    ≡ (if t then rest else x ∷ y ∷ z ∷ rest) ++ more
mark_within x y z true e rest more = refl
mark_within x y z false e rest more = refl

-- the mark's first byte ends no record, nor do the first two
first_mark : (k : Bool) (named : Option Separator)
    → is_between (reading_after (at_start k named) (239 ∷ [])).state ≡ false
unfolding read_byte
first_mark k None = refl
first_mark k (Some Comma) = refl
first_mark k (Some Semicolon) = refl
first_mark k (Some Tab) = refl

second_mark : (k : Bool) (named : Option Separator)
    → is_between (reading_after (at_start k named) (239 ∷ 187 ∷ [])).state ≡ false
unfolding read_byte
second_mark k None = refl
second_mark k (Some Comma) = refl
second_mark k (Some Semicolon) = refl
second_mark k (Some Tab) = refl

first_inside : (k : Bool) (named : Option Separator) (x : ℕ) → (x == 239) ≡ true
    → is_between (reading_after (at_start k named) (x ∷ [])).state ≡ false
first_inside k named x e =
    ap (λ b. is_between (reading_after (at_start k named) (b ∷ [])).state) ((Decides-eqb x 239).0 e)
    ∙ first_mark k named

second_inside : (k : Bool) (named : Option Separator) (x y : ℕ) → (x == 239) ≡ true
    → (y == 187) ≡ true
    → is_between (reading_after (at_start k named) (x ∷ y ∷ [])).state ≡ false
second_inside k named x y e h =
    ap (λ b. is_between (reading_after (at_start k named) (b ∷ y ∷ [])).state)
    ((Decides-eqb x 239).0 e)
    ∙ ap (λ b. is_between (reading_after (at_start k named) (239 ∷ b ∷ [])).state)
    ((Decides-eqb y 187).0 h)
    ∙ second_mark k named

no_first : (k : Bool) (named : Option Separator) (x y z : ℕ) (t : Bool) → (x == 239) ≡ t
    → is_between (reading_after (at_start k named) (x ∷ [])).state ≡ true → is_bom x y z ≡ false
no_first k named x y z true e between = absurd (cc (sym between ∙ first_inside k named x e))
no_first k named x y z false e between = ap (λ t. (t && (y == 187)) && (z == 191)) e

no_second : (k : Bool) (named : Option Separator) (x y z : ℕ) (t u : Bool) → (x == 239) ≡ t
    → (y == 187) ≡ u
    → is_between (reading_after (at_start k named) (x ∷ y ∷ [])).state ≡ true
    → is_bom x y z ≡ false
no_second k named x y z true true e h between =
    absurd (cc (sym between ∙ second_inside k named x y e h))
no_second k named x y z true false e h between =
    ap (λ t. (t && (y == 187)) && (z == 191)) e ∙ ap (λ t. t && (z == 191)) h
no_second k named x y z false u e h between = ap (λ t. (t && (y == 187)) && (z == 191)) e

pub strip_after : (k : Bool) (named : Option Separator) (b : ℕ) (text more : List ℕ)
    → is_between (reading_after (at_start k named) (strip_bom (b ∷ text))).state ≡ true
    → strip_bom ((b ∷ text) ++ more) ≡ strip_bom (b ∷ text) ++ more
unfolding strip_bom
strip_after k named x [] [] between = refl
strip_after k named x [] (y ∷ []) between = refl
strip_after k named x [] (y ∷ z ∷ more) between =
    ap (λ t. if t then more else x ∷ y ∷ z ∷ more) (no_first k named x y z (x == 239) refl between)
strip_after k named x (y ∷ []) [] between = refl
strip_after k named x (y ∷ []) (z ∷ more) between =
    ap (λ t. if t then more else x ∷ y ∷ z ∷ more)
    (no_second k named x y z (x == 239) (y == 187) refl refl between)
strip_after k named x (y ∷ z ∷ rest) more between = mark_within x y z (is_bom x y z) refl rest more
