-- A table may be cut between its records and written in parts, each after the same header: one
-- part after another is then the whole.
use Rattle.std.specs.Prelude.{◌≡◌, ◌+◌, ℕ, true, false, List, ◌++◌, None, option_map, length, drop}
use Rattle.std.specs.List.{All, concat, flat_map}
use Rattle.csv.specs.Reading.{strip_bom}
use Rattle.osn_letters.specs.Records.{at_start, is_between, line_ends, reading_after}
use Rattle.osn_letters.specs.Faults.{later_fault}
use Rattle.osn_letters.specs.Table.{TableBasis, letters_written}

-- the text ends between two records: it is empty, or ends with a line end that is not in quotes
abbrev pub EndsBetweenRecords : TableBasis → List ℕ → Type 0
EndsBetweenRecords s text =
    is_between (reading_after (at_start s.keeps_going s.separator) (strip_bom text)).state ≡ true

-- the text ends between two records, and its table is written whole
pub record IsWholeTable (s : TableBasis) (text : List ℕ) : Type 0 where
  pub ends : EndsBetweenRecords s text
  pub whole : (letters_written s text).fault ≡ None

-- what is written of a part after the header, without what is written of the header
abbrev pub rows_text : TableBasis → List ℕ → List ℕ → List ℕ
rows_text s header part =
    drop (length (letters_written s header).text) (letters_written s (header ++ part)).text

-- how many lines end in a text, which may begin with a byte order mark
abbrev pub lines_in : List ℕ → ℕ
lines_in text = line_ends false (strip_bom text)

-- what is written of a header and of parts after it is first what is written of the header. Then
-- come the rows that are written of each part after the header, in their order. A fault is that of
-- the last part after the header, on its line in the whole. That line is as much later as the whole
-- has more lines
pub record IsWrittenInParts (s : TableBasis) (header : List ℕ) (parts : List (List ℕ))
    (last : List ℕ) : Type 0 where
  pub more : ℕ
  pub lines : lines_in (header ++ (concat parts ++ last)) ≡ lines_in (header ++ last) + more
  pub text : (letters_written s (header ++ (concat parts ++ last))).text
      ≡ (letters_written s header).text
      ++ (flat_map (rows_text s header) parts ++ rows_text s header last)
  pub fault : (letters_written s (header ++ (concat parts ++ last))).fault
      ≡ option_map (later_fault more) (letters_written s (header ++ last)).fault

-- Every table that is cut between its records is written in parts, if no part before the last one
-- has a fault.
unfoldable pub MayEachTableBeCut : Type 0
MayEachTableBeCut =
    (s : TableBasis) (header : List ℕ) (parts : List (List ℕ)) (last : List ℕ)
    → IsWholeTable s header → All (λ part. IsWholeTable s (header ++ part)) parts
    → IsWrittenInParts s header parts last
