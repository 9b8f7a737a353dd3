-- A word of a name is near, by what is before and after the first space of the name.
use Rattle.std.proofs.Common.{◌≡◌, ◌∙◌, ◌||◌, ℕ, Bool, true, false, List, Some, None, refl}
use Rattle.std.proofs.Common.{ap, sym}
use Rattle.osn_lines.specs.Near.{is_near}
use Rattle.osn_written.specs.WrittenDate.{parts_at}
use Rattle.osn_page_commands.specs.Place.{has_word_near}
use Rattle.osn_page_commands.proofs.PieceLemmas.{pieces_cut}

-- by whether the word before the space is near
near_cut : (word text part further : List ℕ) (near : Bool)
    → parts_at 32 text ≡ Some (part, further) → near ≡ is_near 2 word part
    → has_word_near word text ≡ (near || has_word_near word further)
near_cut word text part further near cut is = rw (pieces_cut 32 text, cut, is) refl

module _ (word text part further : List ℕ) (near : Bool)
    (cut : parts_at 32 text ≡ Some (part, further)) (is : near ≡ is_near 2 word part)
  where
    pub near_first : near ≡ true → true ≡ has_word_near word text
    near_first holds =
        sym (near_cut word text part further near cut is
        ∙ ap (λ b. b || has_word_near word further) holds)

    pub near_later : near ≡ false → has_word_near word text ≡ has_word_near word further
    near_later fails = near_cut word text part further near cut is
        ∙ ap (λ b. b || has_word_near word further) fails

-- the only word
near_only : (near : Bool) → near ≡ (near || false)
near_only true = refl
near_only false = refl

pub near_last : (word text : List ℕ) (near : Bool) → parts_at 32 text ≡ None
    → near ≡ is_near 2 word text → near ≡ has_word_near word text
near_last word text near cut is = near_only near ∙ rw (pieces_cut 32 text, cut, ← is) refl
