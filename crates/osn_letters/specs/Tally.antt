-- The tally of a table: how many rows it has, and how many of them have each remark. This project's
-- profile.
use Rattle.std.specs.Prelude.{◌≡◌, ℕ, zero, suc, ◌==◌, Bool, true, false, not}
use Rattle.std.specs.Prelude.{List, [], ◌∷◌, ◌++◌, length}
use Rattle.std.specs.Prelude.{count_by, codes, Option, Some, None, min}
use Rattle.std.specs.Cmp.Lexicographic.{slice_cmp}
use Rattle.std.specs.Fmt.{decimal}
use Rattle.std.specs.List.{AllByRecursion, list_any}
use Rattle.std.specs.Map.{keys_of, lookup}
use Rattle.std.specs.Ordering.{nat_cmp}
use Rattle.std.specs.declared.cmp.Ordering.TheVariants.{Less}
use Rattle.std.specs.Str.{bytes_eq}
use Rattle.osn_letters.specs.declared.remark.Remark.{Remark}
use Rattle.osn_letters.specs.Remarks.{remark_words}

-- how many rows there are; how many of them have a remark; and by the words of each remark that a
-- row has how many have it
pub record TallyModel : Type 0 where
  pub rows : ℕ
  pub remarked : ℕ
  pub by_remark : List (List ℕ × ℕ)

-- a count as it is printed: one that is above 18446744073709551615 as that
abbrev pub up_to_most : ℕ → ℕ
up_to_most n = min n 18446744073709551615

-- a row that has these remarks has one
abbrev pub is_remarked : List Remark → Bool
is_remarked [] = false
is_remarked (r ∷ rest) = true

-- a row that has these remarks has the one with those words
abbrev pub has_words : List ℕ → List Remark → Bool
has_words words remarks = list_any (λ r. bytes_eq words (remark_words r)) remarks

-- a count, unless it is of none
abbrev pub if_any : ℕ → Option ℕ
if_any zero = None
if_any (suc n) = Some (up_to_most (suc n))

-- each of these words is before those after it, byte by byte
abbrev pub AreInOrder : List (List ℕ) → Type 0
AreInOrder [] = Unit {0}
AreInOrder (words ∷ rest) =
    AllByRecursion (λ other. slice_cmp nat_cmp words other ≡ Less) rest × AreInOrder rest

-- the tally of a table whose rows have these remarks
pub record IsTally (table : List (List Remark)) (tally : TallyModel) : Type 0 where
  pub rows : tally.rows ≡ up_to_most (length table)
  pub remarked : tally.remarked ≡ up_to_most (count_by is_remarked table)
  -- under each words it has how many rows have the remark with them, if any row has
  pub by_remark : (words : List ℕ)
      → lookup (bytes_eq words) tally.by_remark ≡ if_any (count_by (has_words words) table)
  pub order : AreInOrder (keys_of tally.by_remark)

-- a row has a remark
abbrev pub has_remarks : TallyModel → Bool
has_remarks tally = not (tally.remarked == 0)

-- ---- as a text

-- a line: the text before it, what is counted, and how many there are
abbrev pub count_line : List ℕ → List ℕ → ℕ → List ℕ
count_line front label n = front ++ (label ++ (codes ": " ++ (decimal n ++ codes "\n")))

-- a line for each remark
abbrev pub remark_lines : List ℕ → List (List ℕ × ℕ) → List ℕ
remark_lines front [] = []
remark_lines front (e ∷ rest) = count_line front e.0 e.1 ++ remark_lines front rest

-- the lines, with this before each
unfoldable pub tally_text : List ℕ → TallyModel → List ℕ
tally_text front tally =
    count_line front (codes "rows") tally.rows
    ++ (count_line front (codes "rows with a remark") tally.remarked
    ++ remark_lines front tally.by_remark)
