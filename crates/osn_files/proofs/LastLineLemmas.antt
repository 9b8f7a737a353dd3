-- What is found of the bytes after the last line feed, and what counts by it.
use Rattle.std.proofs.Common.{◌≡◌, ◌+◌, ◌-◌, ◌≤◌, ◌<◌, ◌==◌, ◌&&◌, ℕ, zero, suc, Bool, true, false}
use Rattle.std.proofs.Common.{List, [], ◌∷◌, length, take, drop, refl, sym, ap, ap₂, ◌∙◌, arith}
use Rattle.std.proofs.Common.{cond, nat_lt, zero-le, take_all, eqb-true}
use Rattle.std.proofs.lemmas.Bool.{lt-ltb}
use Rattle.std.proofs.lemmas.List.{length-drop}
use Rattle.std.proofs.lemmas.List.Sums.{sum_by-cons}
use Rattle.std.specs.Prelude.{not, is_some, nat_eq, if◌then◌else◌}
use Rattle.std.specs.List.{starts_with}
use Rattle.osn_lines.specs.LastLineFeed.{with_byte, ended_length, unended_bytes}
use Rattle.osn_lines.proofs.EndedLemmas.{ended-le}
use Rattle.osn_request.specs.Version.{plain_version}
use Rattle.osn_request.specs.Request.{value_of}
use Rattle.osn_files.specs.CountedPrefix.{by_last, ended_count, last_line_of, whole_count}
use Rattle.osn_files.specs.JournalText.{line_text}
use Rattle.osn_files.specs.LastLine.{is_unfinished, last_line}
use Rattle.osn_files.specs.Version.{head_data}
use Rattle.osn_files.specs.declared.last_line.LastLine.{LastLine}
use Rattle.osn_files.specs.declared.last_line.LastLine.TheVariants.{Ended, LacksFeed, Unfinished}

-- ---- the state of the last line

-- if no byte is left, there is no line
pub none_ended : (line : List ℕ) (n : ℕ) → (length line == 0) ≡ true → Ended ≡ last_line n line
none_ended [] n none = refl
none_ended (b ∷ bs) n none = absurd (omega (arith, eqb-true (length (b ∷ bs)) 0 none))

-- a line that is too long was not left unfinished
long_is_finished : (n : ℕ) (line : List ℕ) → nat_lt 65536 (length line) ≡ true
    → is_unfinished n line ≡ false
long_is_finished zero line long =
    ap (λ t. (if t then false else not (is_some (value_of line)))
    && starts_with nat_eq (line_text (head_data plain_version)) line) long
long_is_finished (suc n) line long =
    ap (λ t. if t then false else not (is_some (value_of line))) long

-- a line with more bytes than a line has at most lacks its line feed
pub long_lacks : (line : List ℕ) (n : ℕ) → 65536 < length line → LacksFeed ≡ last_line n line
long_lacks [] n long = absurd (omega (arith, long))
long_lacks (b ∷ bs) n long =
    ap (λ t. if t then Unfinished else LacksFeed)
    (sym (long_is_finished n (b ∷ bs) (lt-ltb 65536 (length (b ∷ bs)) long)))

-- any other line is as was found
pub found_last : (line : List ℕ) (n : ℕ) (t : Bool) (last : LastLine) → (length line == 0) ≡ false
    → t ≡ is_unfinished n line → last ≡ (if t then Unfinished else LacksFeed)
    → last ≡ last_line n line
found_last [] n t last some found is = absurd (cc)
found_last (b ∷ bs) n t last some found is =
    is ∙ ap (λ t. if t then Unfinished else LacksFeed) found

-- ---- the lines that count

-- a line feed ends one line, and its bytes have ended
count_low : (b n m : ℕ) → m ≤ n → cond (b == 10) 1 0 + m ≤ with_byte b n
count_low b zero m low =
    elim (b == 10) as (λ (t : Bool). cond t 1 0 + m ≤ cond t 1 0) [
      | true ↦ omega (arith, low)
      | false ↦ omega (arith, low)
    ]
count_low b (suc n) m low =
    elim (b == 10) as (λ (t : Bool). cond t 1 0 + m ≤ suc (suc n)) [
      | true ↦ omega (arith, low)
      | false ↦ omega (arith, low)
    ]

-- no more lines have ended than bytes
count_within : (bytes : List ℕ) → ended_count bytes ≤ ended_length bytes
count_within [] = zero-le
count_within (b ∷ bs) =
    let more = sum_by-cons (λ c. cond (c == 10) 1 0) b bs in
    omega (arith, more, count_low b (ended_length bs) (ended_count bs) (count_within bs))

-- a last line that lacks its line feed has a byte
lacking_some : (n : ℕ) (line : List ℕ) → LacksFeed ≡ last_line n line → 0 < length line
lacking_some n [] lacks = absurd (cc)
lacking_some n (b ∷ bs) lacks = omega arith

-- no more lines count than there are bytes
count_by_state : (bytes : List ℕ) (last : LastLine) → last ≡ last_line_of bytes
    → by_last last (ended_count bytes) (ended_count bytes + 1) ≤ length bytes
count_by_state bytes Ended is = omega (arith, count_within bytes, ended-le bytes)
count_by_state bytes LacksFeed lacks =
    omega (
      arith,
      count_within bytes,
      lacking_some (ended_count bytes) (unended_bytes bytes) lacks,
      length-drop (ended_length bytes) bytes,
    )
count_by_state bytes Unfinished is = omega (arith, count_within bytes, ended-le bytes)

pub whole_count-le : (bytes : List ℕ) → whole_count bytes ≤ length bytes
whole_count-le bytes = count_by_state bytes (last_line_of bytes) refl

-- the state of the last line is that of the bytes after the last line feed
pub state_found : (bytes : List ℕ) (lines ended : ℕ) (last : LastLine) → lines ≡ ended_count bytes
    → ended ≡ ended_length bytes
    → last ≡ last_line lines (take (length bytes - ended) (drop ended bytes))
    → last ≡ last_line_of bytes
state_found bytes lines ended last count size found =
    found
    ∙ ap (last_line lines)
    (take_all (length bytes - ended) (drop ended bytes) (omega (arith, length-drop ended bytes)))
    ∙ ap₂ (λ (n k : ℕ). last_line n (drop k bytes)) count size
