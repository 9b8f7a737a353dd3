-- What became of the file that a service keeps, before the service began.
use Rattle.std.proofs.Common.{◌≡◌, ◌⊎◌, ◌+◌, ℕ, zero, suc, true, false, List}
use Rattle.std.proofs.Common.{◌∷◌, ◌++◌, length, take, Option, Some, None}
use Rattle.std.proofs.Common.{option_map, refl, sym, ap, subst, ◌∙◌, inl, inr, arith, append-nil}
use Rattle.std.proofs.Common.{take_all, if◌then◌else◌, []}
use Rattle.std.proofs.lemmas.List.{take-append-drop}
use Rattle.std.specs.Io.KnownBytes.{Appends}
use Rattle.osn_files.specs.LastLine.{last_line, is_unfinished}
use Rattle.osn_files.specs.CountedPrefix.{IsCountedPrefix, by_last, last_line_of, ended_count}
use Rattle.osn_lines.specs.LastLineFeed.{ended_length, unended_bytes}
use Rattle.osn_files.specs.CountedPrefix.{whole_bytes, whole_length}
use Rattle.osn_files.specs.CountedPrefix.{whole_count}
use Rattle.osn_files.specs.declared.last_line.LastLine.TheVariants.{Ended, LacksFeed, Unfinished}
use Rattle.osn_files.specs.declared.whole_lines.CountedPrefix.{CountedPrefix}
use Rattle.osn_serve_commands.specs.Keep.{kept_text, missing_head}
use Rattle.osn_serve_commands.specs.Keep.{missing_text, if_unfinished, unfinished_line}

-- a last line that is ended has nothing after it
none_behind : (n : ℕ) (bytes : List ℕ) → last_line n bytes ≡ Ended → bytes ≡ []
none_behind n [] ended = refl
none_behind n (b ∷ bs) ended = absurd (elim (is_unfinished n (b ∷ bs)) as
    (λ t. (if t then Unfinished else LacksFeed) ≡ Ended → ⊥) [
      | true ↦ λ h. cc
      | false ↦ λ h. cc
    ] ended)

-- all lines of a file count if its last line is ended, or lacks only its line feed
ended_counts : (content : List ℕ) → last_line_of content ≡ Ended → content ≡ whole_bytes content
ended_counts content is =
    sym (take-append-drop (ended_length content) content)
    ∙ ap (λ l. take (ended_length content) content ++ l)
    (none_behind (ended_count content) (unended_bytes content) is)
    ∙ append-nil (take (ended_length content) content)
    ∙ ap (λ s. take (by_last s (ended_length content) (length content)) content) (sym is)

lacking_counts : (content : List ℕ) → last_line_of content ≡ LacksFeed → content
    ≡ whole_bytes content
lacking_counts content is =
    sym (take_all (length content) content (omega arith))
    ∙ ap (λ s. take (by_last s (ended_length content) (length content)) content) (sym is)

-- a file whose last line is ended, or counts and lacks its line feed, is left
pub all_left : (part : CountedPrefix) (content : List ℕ)
    → (part.last ≡ Ended) ⊎ (part.last ≡ LacksFeed) → IsCountedPrefix part content
    → (None ≡ unfinished_line content) × (Some content ≡ Some (whole_bytes content))
all_left part content (inl is) whole =
    let last = sym whole.last ∙ is in (
      ap (λ s. if_unfinished s (whole_count content + 1)) (sym last),
      ap Some (ended_counts content last),
    )
all_left part content (inr is) whole =
    let last = sym whole.last ∙ is in (
      ap (λ s. if_unfinished s (whole_count content + 1)) (sym last),
      ap Some (lacking_counts content last),
    )

-- a file whose last line was not finished
pub unfinished_cut : (part : CountedPrefix) (content : List ℕ) (new old : Option (List ℕ))
    → part.last ≡ Unfinished → new ≡ option_map (take part.bytes) old → old ≡ Some content
    → IsCountedPrefix part content
    → (Some (part.lines + 1) ≡ unfinished_line content) × (new ≡ Some (whole_bytes content))
unfinished_cut part content new old is cut known whole = (
  ap (λ n. Some (n + 1)) whole.lines
      ∙ ap (λ s. if_unfinished s (whole_count content + 1)) (sym is ∙ whole.last),
  cut ∙ ap (option_map (take part.bytes)) known
      ∙ ap (λ (n : ℕ). Some (take n content)) whole.bytes,
)

-- the head that is missing, if no byte counts
pub head_missing : (part : CountedPrefix) (content text : List ℕ) → part.bytes ≡ 0
    → text ≡ missing_head [] → IsCountedPrefix part content → text
    ≡ missing_head (whole_bytes content)
head_missing part content text none is whole =
    is ∙ ap (λ (n : ℕ). missing_head (take n content)) (sym none ∙ whole.bytes)

-- no head is missing, if some bytes count
head_there : (content : List ℕ) (n : ℕ) → n ≡ whole_length content → (n ≡ 0 → ⊥)
    → [] ≡ missing_head (whole_bytes content)
head_there [] n is some = absurd (some is)
head_there (b ∷ bs) zero is some = absurd (some refl)
head_there (b ∷ bs) (suc n) is some = ap (λ (k : ℕ). missing_head (take k (b ∷ bs))) is

pub head_not_missing : (part : CountedPrefix) (content text : List ℕ) → (part.bytes ≡ 0 → ⊥)
    → text ≡ [] → IsCountedPrefix part content → text ≡ missing_head (whole_bytes content)
head_not_missing part content text some is whole = is
    ∙ head_there content part.bytes whole.bytes some

-- what a file contains after more was appended
appended : (xs ys : List ℕ) (new : Option (List ℕ)) → Appends (Some xs) new ys
    → new ≡ Some (xs ++ ys)
appended xs ys None h = absurd h
appended xs ys (Some zs) h = ap Some h

appended_to : (xs ys : List ℕ) (old new : Option (List ℕ)) → old ≡ Some xs
    → Appends old new ys → new ≡ Some (xs ++ ys)
appended_to xs ys old new known h = appended xs ys new (subst (λ o. Appends o new ys) known h)

-- the missing text was appended
pub completed : (content text : List ℕ) (old new : Option (List ℕ))
    → text ≡ missing_text content → old ≡ Some (whole_bytes content)
    → Appends old new text → new ≡ Some (kept_text content)
completed content text old new is known h =
    appended_to (whole_bytes content) text old new known h
    ∙ ap (λ text. Some (whole_bytes content ++ text)) is

-- a prefix of it was
pub completed_in_part : (content text : List ℕ) (old new : Option (List ℕ)) (n : ℕ)
    → text ≡ missing_text content → old ≡ Some (whole_bytes content)
    → Appends old new (take n text)
    → (n : ℕ) × (new ≡ Some (whole_bytes content ++ take n (missing_text content)))
completed_in_part content text old new n is known h = (
  n,
  appended_to (whole_bytes content) (take n text) old new known h
      ∙ ap (λ text. Some (whole_bytes content ++ take n text)) is,
)

-- nothing was
pub completed_by_none : (content : List ℕ) (old new : Option (List ℕ)) → old
    ≡ Some (whole_bytes content)
    → new ≡ old
    → (n : ℕ) × (new ≡ Some (whole_bytes content ++ take n (missing_text content)))
completed_by_none content old new known same =
    (0, same ∙ known ∙ ap Some (sym (append-nil (whole_bytes content))))

-- all was
pub completed_by_all : (content : List ℕ) (new : Option (List ℕ)) → new ≡ Some (kept_text content)
    → (n : ℕ) × (new ≡ Some (whole_bytes content ++ take n (missing_text content)))
completed_by_all content new is =
    let text = missing_text content in (
      length text,
      is ∙ ap (λ text. Some (whole_bytes content ++ text))
          (sym (take_all (length text) text (omega arith))),
    )
