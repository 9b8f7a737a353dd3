-- A writer of rows of any number of fields writes each of them as one of rows of one number.
use Rattle.std.proofs.Common.{◌≡◌, ◌∙◌, ℕ, ◌==◌, List, [], ◌∷◌, ◌++◌, refl, ap, true, length}
use Rattle.std.proofs.Common.{if◌then◌else◌}
use Rattle.csv.specs.Writing.{escaped, fields_text, field_text, is_blank, end_text}
use Rattle.csv.specs.Writing.{row_body, row_text, with_flexible, by_style, needs_quotes}
use Rattle.csv.specs.declared.writer.WriterBuilder.{WriterBuilder}

abbrev any_length : WriterBuilder → WriterBuilder
any_length w = with_flexible w true

same_escaped : (w : WriterBuilder) (field : List ℕ)
    → escaped (any_length w) field ≡ escaped w field
unfolding escaped
same_escaped w [] = refl
same_escaped w (b ∷ rest) =
    ap (λ l. if b == w.quote then (if w.double_quote then w.quote else w.escape) ∷ b ∷ l
    else b ∷ l) (same_escaped w rest)

same_field : (w : WriterBuilder) (field : List ℕ)
    → field_text (any_length w) field ≡ field_text w field
same_field w field =
    ap (λ l. if by_style w.style (needs_quotes w field) then w.quote ∷ (l ++ (w.quote ∷ []))
    else field) (same_escaped w field)

same_fields : (w : WriterBuilder) (fields : List (List ℕ))
    → fields_text (any_length w) fields ≡ fields_text w fields
unfolding fields_text
same_fields w [] = refl
same_fields w (field ∷ rest) =
    ap (λ l. w.delimiter ∷ (l ++ fields_text (any_length w) rest)) (same_field w field)
    ∙ ap (λ l. w.delimiter ∷ (field_text w field ++ l)) (same_fields w rest)

same_body : (w : WriterBuilder) (fields : List (List ℕ))
    → row_body (any_length w) fields ≡ row_body w fields
same_body w [] = refl
same_body w (field ∷ rest) =
    ap (λ l. l ++ fields_text (any_length w) rest) (same_field w field)
    ∙ ap (λ l. field_text w field ++ l) (same_fields w rest)

same_blank : (w : WriterBuilder) (fields : List (List ℕ))
    → is_blank (any_length w) fields ≡ is_blank w fields
unfolding is_blank
same_blank w [] = refl
same_blank w (field ∷ []) = ap (λ l. length l == 0) (same_field w field)
same_blank w (field ∷ next ∷ rest) = refl

pub same_row : (w : WriterBuilder) (fields : List (List ℕ))
    → row_text (any_length w) fields ≡ row_text w fields
same_row w fields =
    ap (λ l. l ++ ((if is_blank (any_length w) fields then w.quote ∷ w.quote ∷ [] else [])
    ++ end_text w.terminator)) (same_body w fields)
    ∙ ap (λ t. row_body w fields ++ ((if t then w.quote ∷ w.quote ∷ [] else [])
    ++ end_text w.terminator)) (same_blank w fields)
