-- Runs of bytes that only join the current field.
use Rattle.std.specs.Prelude.{◌≡◌, ℕ, ◌+◌, ◌==◌, Bool, true, false, not, ◌&&◌, List, ◌++◌, Some}
use Rattle.std.specs.Prelude.{length}
use Rattle.csv.specs.declared.parser.State.{State}
use Rattle.csv.specs.declared.parser.Action.TheVariants as act
use Rattle.csv.specs.Machine.{carriage_return, line_feed}
use Rattle.osn_letters.specs.declared.separator.Separator.{Separator}
use Rattle.osn_letters.specs.Records.{Reading, is_between, is_stray, read_byte, records_from}

-- a byte that neither is that one nor ends a line
abbrev pub joins : ℕ → ℕ → Bool
joins end b = not (b == end) && (not (b == carriage_return) && not (b == line_feed))

-- in that state, which is one within a field, each byte except that one and line ends joins the
-- field
pub record EndsRun (separator : Separator) (s : State) (end : ℕ) : Type 0 where
  pub between : is_between s ≡ false
  pub stray : is_stray s s ≡ false
  pub stays : (b : ℕ) → joins end b ≡ true → read_byte (Some separator) s b ≡ (s, act.Copy)

-- the reading after bytes that only joined the current field
abbrev pub joined : Reading → List ℕ → Reading
joined r bytes = record r { field = r.field ++ bytes; size = r.size + length bytes }

-- the bytes do nothing else
abbrev pub JoinField : Reading → List ℕ → Type 0
JoinField r bytes =
    (more : List ℕ) → records_from r (bytes ++ more) ≡ records_from (joined r bytes) more
