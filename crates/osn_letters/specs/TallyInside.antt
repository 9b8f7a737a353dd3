-- What a tally counted, row by row.
use Rattle.std.specs.Prelude.{ℕ, ◌+◌, List, [], ◌∷◌, map, unwrap_or}
use Rattle.std.specs.BTreeMap.{insert_entry, is_at}
use Rattle.std.specs.Cmp.Lexicographic.{slice_cmp}
use Rattle.std.specs.Map.{lookup}
use Rattle.std.specs.Ordering.{nat_cmp}
use Rattle.osn_letters.specs.declared.remark.Remark.{Remark}
use Rattle.osn_letters.specs.declared.tally.Tally.TheInside.{Inside}
use Rattle.osn_letters.specs.Remarks.{remark_words}
use Rattle.osn_letters.specs.Tally.{TallyModel, up_to_most}

-- what was counted
abbrev pub tally_in : Inside → TallyModel
tally_in t = record {
  rows = t.rows;
  remarked = t.remarked;
  by_remark = map (λ e. (e.0.now, e.1)) t.by_remark.entries;
}

-- the counts, with one more for the remark with these words
abbrev pub count_before : List (List ℕ × ℕ) → List ℕ → ℕ
count_before counts words = unwrap_or (lookup (is_at (slice_cmp nat_cmp words)) counts) 0

abbrev pub with_words : List (List ℕ × ℕ) → List ℕ → List (List ℕ × ℕ)
with_words counts words =
    insert_entry (slice_cmp nat_cmp) counts words (up_to_most (count_before counts words + 1))

-- the counts, with one more for the words of each of these remarks
abbrev pub with_remarks : List (List ℕ × ℕ) → List Remark → List (List ℕ × ℕ)
with_remarks counts [] = counts
with_remarks counts (r ∷ rest) = with_remarks (with_words counts (remark_words r)) rest

-- one row more with a remark, if it has one
abbrev pub remarked_with : ℕ → List Remark → ℕ
remarked_with n [] = n
remarked_with n (r ∷ rest) = up_to_most (n + 1)

-- of no rows
abbrev pub no_rows : TallyModel
no_rows = record { rows = 0; remarked = 0; by_remark = [] }

-- one row more, which has these remarks
unfoldable pub with_row : TallyModel → List Remark → TallyModel
with_row tally remarks = record {
  rows = up_to_most (tally.rows + 1);
  remarked = remarked_with tally.remarked remarks;
  by_remark = with_remarks tally.by_remark remarks;
}

-- more rows
abbrev pub with_rows : TallyModel → List (List Remark) → TallyModel
with_rows tally [] = tally
with_rows tally (remarks ∷ rest) = with_rows (with_row tally remarks) rest
