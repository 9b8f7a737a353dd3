-- The words of a command line with the file of the journal, by their texts.
use Rattle.std.proofs.Common.{◌≡◌, ◌∙◌, ◌||◌, ℕ, ◌+◌, Bool, true, false, List, [], ◌∷◌, Option}
use Rattle.std.proofs.Common.{Some}
use Rattle.std.proofs.Common.{None, ◌<◌, arith, map, length, ap, refl, take, drop, sym, nat_lt}
use Rattle.std.proofs.Common.{option_map, suc, cond, not, if◌then◌else◌}
use Rattle.std.specs.Prelude.{slice_get}
use Rattle.std.specs.Borrow.{Bor}
use Rattle.std.specs.List.{insert, list_any, position, position_or_len, remove}
use Rattle.std.proofs.lemmas.Option.{slice_get-map}
use Rattle.std.proofs.lemmas.List.{take-map, drop-map, length-map, map-append}
use Rattle.clap.specs.Words.{Text}
use Rattle.osn_commands.specs.CommandWords.{asks_help_twice}
use Rattle.osn_commands.specs.Journal.{file_after_equals, is_journal_option, is_repeated, option_at}
use Rattle.osn_commands.specs.Journal.{with_file, with_named, with_next_file, with_option}
use Rattle.osn_commands.specs.Journal.{with_path}
use Rattle.osn_commands.proofs.TypedLemmas.{any_of_map}

-- the place of what passes a test of what is read of it
passed_of_map : {X : Type 0} (f : X → Text) (p : Text → Bool) → (words : List X)
    → position_or_len (λ word. p (f word)) words ≡ position_or_len p (map f words)
passed_of_map f p [] = refl
passed_of_map f p (word ∷ words) =
    ap (λ n. cond (not (p (f word))) (1 + n) 0) (passed_of_map f p words)

pub place_of_option : {X : Type 0} (f : X → Text) → (words : List X)
    → position (λ word. is_journal_option (f word)) words ≡ option_at (map f words)
place_of_option f words =
    rw (passed_of_map f is_journal_option words, length-map words f) refl

-- whether the option is repeated
pub repeats : (words : List (Bor Text)) (at : ℕ)
    → list_any (λ word. is_journal_option word.now) (drop (at + 1) words)
    ≡ is_repeated at (map (λ word. word.now) words)
repeats words at =
    any_of_map (λ (word : Bor Text). word.now) is_journal_option (drop (at + 1) words)
    ∙ ap (list_any is_journal_option)
    (sym (drop-map (λ (word : Bor Text). word.now) (at + 1) words))

module _ {X : Type 0} (f : X → Text) where
  insert_map : (words : List X) (i : ℕ) (word : X)
      → map f (insert words i word) ≡ insert (map f words) i (f word)
  insert_map words i word =
      rw (map-append f (take i words) (word ∷ drop i words), take-map f i words, drop-map f i words)
      refl

  pub remove_map : (words : List X) (i : ℕ) → map f (remove words i) ≡ remove (map f words) i
  remove_map words i =
      rw (
        map-append f (take i words) (drop (suc i) words),
        take-map f i words,
        drop-map f (suc i) words,
      ) refl

  -- a command line that asks for help of help has a command
  pub has_command : (words : List X) → asks_help_twice (map f words) ≡ true → 1 < length words
  has_command [] h = cc
  has_command (word ∷ []) h = cc
  has_command (word ∷ command ∷ words) h = omega arith

  path_by : (few : Bool) (path : X) (words : List X)
      → map f (if few then words else insert words 2 path)
      ≡ (if few then map f words else insert (map f words) 2 (f path))
  path_by true path words = refl
  path_by false path words = insert_map words 2 path

  pub path_map : (path : X) (words : List X)
      → map f (with_path path words) ≡ with_path (f path) (map f words)
  path_map path words =
      path_by (nat_lt (length words) 2) path words
      ∙ ap (λ n. if nat_lt n 2 then map f words else insert (map f words) 2 (f path))
      (sym (length-map words f))

  next_by : (path : Option X) (at : ℕ) (words : List X)
      → map f (with_next_file path at words)
      ≡ with_next_file (option_map f path) at (map f words)
  next_by None at words = refl
  next_by (Some path) at words =
      path_map path (remove (remove words (at + 1)) at)
      ∙ ap (with_path (f path)) (remove_map (remove words (at + 1)) at
      ∙ ap (λ left. remove left at) (remove_map words (at + 1)))

  file_map : (path : Option X) (at : ℕ) (words : List X)
      → map f (with_file path at words) ≡ with_file (option_map f path) at (map f words)
  file_map (Some path) at words =
      path_map path (remove words at) ∙ ap (with_path (f path)) (remove_map words at)
  file_map None at words =
      next_by (slice_get words (at + 1)) at words
      ∙ ap (λ path. with_next_file path at (map f words)) (sym (slice_get-map f words (at + 1)))

  -- the words without the option, which is the word at this place and is not repeated
  pub named_map : (new words : List X) (path : Option X) (word : X) (at : ℕ)
      → new ≡ with_file path at words → slice_get words at ≡ Some word
      → option_map f path ≡ file_after_equals (f word)
      → (nat_lt at 2 || is_repeated at (map f words)) ≡ false
      → map f new ≡ with_named at (map f words)
  named_map new words path word at is found names once =
      ap (map f) is ∙ file_map path at words
      ∙ ap (λ path. with_file path at (map f words)) names
      ∙ sym (
      ap (λ b. if b then map f words else with_option (slice_get (map f words) at) at (map f words))
      once
      ∙ ap (λ o. with_option o at (map f words))
      (slice_get-map f words at ∙ ap (option_map f) found)
      )
