-- What a kept file contains once it is ready is loaded as the object that it contained.
use Rattle.std.proofs.Common.{◌≡◌, ◌⊎◌, ◌==◌, ◌∙◌, ℕ, zero, suc, Bool, true, false, cond}
use Rattle.std.proofs.Common.{List, [], ◌∷◌, ◌++◌, length, take, drop, Ok, refl, sym, ap, subst}
use Rattle.std.proofs.Common.{inl, inr, arith, append-nil, eqb-true, take_all}
use Rattle.osn_days.specs.Rules.{newest_rules}
use Rattle.osn_register.specs.declared.limits.Limits.{Limits}
use Rattle.std.proofs.lemmas.List.Elements.{All-nil}
use Rattle.osn_core.specs.Sequential.{HasLawfulSource, IsSound, ObjectState, empty_object}
use Rattle.osn_request.specs.Version.{plain_version}
use Rattle.osn_request.specs.declared.version.Version.{Version}
use Rattle.osn_files.proofs.LoadFacts.{IsJournalOf-written}
use Rattle.osn_files.specs.Journal.{load}
use Rattle.osn_files.specs.JournalText.{line_text}
use Rattle.osn_files.specs.LastLine.{last_line}
use Rattle.osn_files.specs.LoadedText.{HasEdit, IsJournalOf, IsOfVersion}
use Rattle.osn_files.specs.Version.{head_data}
use Rattle.osn_files.specs.CountedPrefix.{by_last, ended_count, last_line_of, whole_bytes}
use Rattle.osn_files.specs.declared.last_line.LastLine.{LastLine}
use Rattle.osn_files.specs.declared.last_line.LastLine.TheVariants.{Ended, LacksFeed, Unfinished}
use Rattle.osn_lines.specs.LastLineFeed.{ended_length, unended_bytes, with_byte}
use Rattle.osn_lines.specs.Lines.{EndsWithFeed, lines, onto_first}
use Rattle.osn_serve_commands.specs.Keep.{HoldsObject, SaysVersion, kept_text, missing_end}
use Rattle.osn_serve_commands.specs.Keep.{missing_head, object_of}

-- ---- whole lines

-- bytes end with a line feed, or there are none
abbrev EndsOrNone : List ℕ → Type 0
EndsOrNone bytes = (bytes ≡ []) ⊎ EndsWithFeed bytes

-- lines that a line feed ends end with one
ended_ends : (xs : List ℕ) (m : ℕ) → ended_length xs ≡ suc m → EndsWithFeed (take (suc m) xs)
ended_ends [] m is = absurd (omega (arith, is))
ended_ends (b ∷ bs) m is = by_rest (ended_length bs) refl is (ended_ends bs)
  where
    by_byte : (t : Bool) → (b == 10) ≡ t → cond t 1 0 ≡ suc m → EndsWithFeed (b ∷ take m bs)
    by_byte true feed h =
        let none : m ≡ 0 = omega (arith, h) in
        ([], ap (λ c. c ∷ take m bs) (eqb-true b 10 feed) ∙ ap (λ (n : ℕ). 10 ∷ take n bs) none)
    by_byte false feed h = absurd (omega (arith, h))

    by_rest : (n : ℕ) → ended_length bs ≡ n → with_byte b n ≡ suc m
        → ((k : ℕ) → ended_length bs ≡ suc k → EndsWithFeed (take (suc k) bs))
        → EndsWithFeed (b ∷ take m bs)
    by_rest zero none h more = by_byte (b == 10) refl h
    by_rest (suc k) some h more =
        let size : suc k ≡ m = omega (arith, h) in
        let rest = more k some in
        (b ∷ rest.0, ap (λ l. b ∷ l) (ap (λ (n : ℕ). take n bs) (sym size) ∙ rest.1))

all_ended : (xs : List ℕ) → EndsOrNone (take (ended_length xs) xs)
all_ended xs = by_size (ended_length xs) refl
  where
    by_size : (n : ℕ) → ended_length xs ≡ n → EndsOrNone (take n xs)
    by_size zero none = inl refl
    by_size (suc m) some = inr (ended_ends xs m some)

-- ---- a line that lacks its line feed

-- with the line feed the lines are the same
lines_fed : (xs : List ℕ) → (unended_bytes xs ≡ [] → ⊥) → lines (xs ++ 10 ∷ []) ≡ lines xs
lines_fed [] some = absurd (some refl)
lines_fed (b ∷ bs) some = by_rest (ended_length bs) refl some (lines_fed bs)
  where
    -- a byte before the same lines
    onto : lines (bs ++ 10 ∷ []) ≡ lines bs
        → lines (b ∷ (bs ++ 10 ∷ [])) ≡ lines (b ∷ bs)
    onto same = ap (λ ls. cond (b == 10) ([] ∷ ls) (onto_first b ls)) same

    -- a last byte that is not a line feed
    last : (b == 10) ≡ false → bs ≡ [] → lines (b ∷ (bs ++ 10 ∷ [])) ≡ lines (b ∷ bs)
    last other none =
        let cut : (ys : List ℕ) → lines (b ∷ ys) ≡ onto_first b (lines ys) =
        λ ys. ap (λ t. cond t ([] ∷ lines ys) (onto_first b (lines ys))) other in
        cut (bs ++ 10 ∷ []) ∙ ap (λ l. onto_first b (lines (l ++ 10 ∷ []))) none
        ∙ sym (cut bs ∙ ap (λ l. onto_first b (lines l)) none)

    is_none : (l : List ℕ) → (l ≡ []) ⊎ (l ≡ [] → ⊥)
    is_none [] = inl refl
    is_none (c ∷ cs) = inr (λ h. cc)

    by_byte : (t : Bool) → (b == 10) ≡ t → (drop (cond t 1 0) (b ∷ bs) ≡ [] → ⊥)
        → ((bs ≡ [] → ⊥) → lines (bs ++ 10 ∷ []) ≡ lines bs)
        → lines (b ∷ (bs ++ 10 ∷ [])) ≡ lines (b ∷ bs)
    by_byte true feed some more = onto (more some)
    by_byte false other some more =
        elim (is_none bs) [ inl none ↦ last other none | inr h ↦ onto (more h) ]

    by_rest : (n : ℕ) → ended_length bs ≡ n → (drop (with_byte b n) (b ∷ bs) ≡ [] → ⊥)
        → ((unended_bytes bs ≡ [] → ⊥) → lines (bs ++ 10 ∷ []) ≡ lines bs)
        → lines (b ∷ (bs ++ 10 ∷ [])) ≡ lines (b ∷ bs)
    by_rest zero none some more =
        by_byte (b == 10) refl some
        (λ h. more (λ k. h (ap (λ (n : ℕ). drop n bs) (sym none) ∙ k)))
    by_rest (suc k) size some more =
        onto (more (λ k. some (ap (λ (n : ℕ). drop n bs) (sym size) ∙ k)))

-- ---- the lines that count

-- bytes whose last line ends like this, if they are those that count
record Counts (last : LastLine) (bytes : List ℕ) : Type 0 where
  fed : last ≡ LacksFeed → (lines (bytes ++ 10 ∷ []) ≡ lines bytes) × (bytes ≡ [] → ⊥)
  ended : (last ≡ LacksFeed → ⊥) → EndsOrNone bytes

-- a last line that lacks its line feed has bytes
lacking : (n : ℕ) (bytes : List ℕ) → last_line n bytes ≡ LacksFeed → bytes ≡ [] → ⊥
lacking n [] lacks none = absurd (cc)
lacking n (b ∷ bs) lacks none = absurd (cc)

counted : (content : List ℕ) → Counts (last_line_of content) (whole_bytes content)
counted content = by_last_line (last_line_of content) refl
  where
    by_last_line : (last : LastLine) → last_line_of content ≡ last
        → Counts last (take (by_last last (ended_length content) (length content)) content)
    by_last_line Ended is = record { fed = λ h. absurd (cc); ended = λ h. all_ended content }
    by_last_line Unfinished is = record { fed = λ h. absurd (cc); ended = λ h. all_ended content }
    by_last_line LacksFeed is =
        let some = lacking (ended_count content) (unended_bytes content) is in
        let all = take_all (length content) content (omega arith) in
        record {
          fed = λ h. (
            subst (λ l. lines (l ++ 10 ∷ []) ≡ lines l) (sym all) (lines_fed content some),
            (λ none. some (unended_none content (sym all ∙ none))),
          );
          ended = λ h. absurd (h refl);
        }
      where
        unended_none : (l : List ℕ) → l ≡ [] → unended_bytes l ≡ []
        unended_none [] none = refl
        unended_none (c ∷ cs) none = absurd (cc)

-- ---- the whole text

-- an empty object is loaded from a head
head_loaded : (limits : Limits)
    → IsJournalOf plain_version limits (empty_object limits) (line_text (head_data plain_version))
head_loaded limits =
    let empty : IsSound newest_rules (empty_object limits) = record {
      lawful = tt;
      none_empty = tt;
      edits = omega arith;
      editions = omega arith;
      sources = All-nil HasLawfulSource;
    } in
    subst (IsJournalOf plain_version limits (empty_object limits))
    (append-nil (line_text (head_data plain_version)))
    (IsJournalOf-written plain_version (empty_object limits) empty (All-nil
    (HasEdit plain_version)))

module _ (limits : Limits) (version : Version) (s : ObjectState) where
  -- lines that end with their line feeds get a head if there are none, or else nothing
  whole_loaded : (bytes : List ℕ) → EndsOrNone bytes → object_of limits bytes ≡ Ok s
      → SaysVersion version bytes
      → IsJournalOf version limits s (bytes ++ missing_head bytes)
  whole_loaded [] ends loads says =
      let empty : empty_object limits ≡ s = cc in
      let head = line_text (head_data plain_version) in
      subst (λ v. IsJournalOf v limits s head) (sym says)
      (subst (λ t. IsJournalOf plain_version limits t head) empty (head_loaded limits))
  whole_loaded (b ∷ bs) (inl none) loads says = absurd (cc)
  whole_loaded (b ∷ bs) (inr ends) loads says =
      subst (IsJournalOf version limits s) (sym (append-nil (b ∷ bs)))
      (record { head = says; ends = ends; loads = loads })

  text_loaded : (last : LastLine) (bytes : List ℕ) → Counts last bytes
      → object_of limits bytes ≡ Ok s → SaysVersion version bytes
      → IsJournalOf version limits s (bytes ++ missing_end last bytes)
  text_loaded Ended bytes counts loads says =
      whole_loaded bytes (counts.ended (λ h. absurd (cc))) loads says
  text_loaded Unfinished bytes counts loads says =
      whole_loaded bytes (counts.ended (λ h. absurd (cc))) loads says
  text_loaded LacksFeed [] counts loads says = absurd ((counts.fed refl).1 refl)
  text_loaded LacksFeed (b ∷ bs) counts loads says =
      let same = (counts.fed refl).0 in
      record {
        head = subst (IsOfVersion version) (sym same) says;
        ends = (b ∷ bs, refl);
        loads = ap (load newest_rules limits) same ∙ loads;
      }

  -- what a file contains once it is ready is loaded as the object that it contained
  pub kept_loaded : (content : List ℕ) → HoldsObject limits content version s
      → IsJournalOf version limits s (kept_text content)
  kept_loaded content h =
      text_loaded (last_line_of content) (whole_bytes content) (counted content) h.object h.says
