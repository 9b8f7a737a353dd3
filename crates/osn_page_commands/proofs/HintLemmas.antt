-- The first word of a text that has a nearest name, by what is before and after its first space.
use Rattle.std.proofs.Common.{◌≡◌, ◌∙◌, ℕ, List, Option, Some, None, Bor, option_map, ap, refl, sym}
use Rattle.osn_written.specs.WrittenDate.{parts_at}
use Rattle.osn_page_commands.specs.DateHint.{first_hint, hint_or, nearest_name}
use Rattle.osn_page_commands.specs.Pieces.{pieces}
use Rattle.osn_page_commands.proofs.PieceLemmas.{pieces_cut}

-- by what is known of the word before the space
hint_cut : (text word further : List ℕ) (found : Option (List ℕ))
    → parts_at 32 text ≡ Some (word, further) → nearest_name word ≡ found
    → first_hint (pieces 32 text) ≡ hint_or word found (first_hint (pieces 32 further))
hint_cut text word further found cut is = rw (pieces_cut 32 text, cut, is) refl

module _ (text word further : List ℕ) (found : Option (Bor (List ℕ)))
    (cut : parts_at 32 text ≡ Some (word, further))
    (is : option_map (λ name. name.now) found ≡ nearest_name word)
  where
    pub hint_first : (name : Bor (List ℕ)) → found ≡ Some name
        → Some (word, name.now) ≡ first_hint (pieces 32 text)
    hint_first name some =
        sym (hint_cut text word further (Some name.now) cut
        (sym is ∙ ap (option_map (λ name. name.now)) some))

    pub hint_later : found ≡ None
        → first_hint (pieces 32 text) ≡ first_hint (pieces 32 further)
    hint_later none =
        hint_cut text word further None cut (sym is ∙ ap (option_map (λ name. name.now)) none)

-- the only word
pub hint_last : (text : List ℕ) (found : Option (List ℕ)) → parts_at 32 text ≡ None
    → found ≡ nearest_name text → hint_or text found None ≡ first_hint (pieces 32 text)
hint_last text found cut is = rw (pieces_cut 32 text, cut, ← is) refl
