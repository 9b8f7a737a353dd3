-- Rows are counted piece by piece.
use Rattle.std.proofs.Common.{◌≡◌, ◌<◌, ◌∙◌, ℕ, ◌+◌, List, [], ◌∷◌, ◌++◌, length, take, drop}
use Rattle.std.proofs.Common.{get_or, Option, Some, None, sym, ap, subst, append_assoc}
use Rattle.std.proofs.Common.{append-nil, add-one, IfSome}
use Rattle.std.proofs.Math.Seq.{take-suc}
use Rattle.std.specs.Io.KnownBytes.{Consumes, IsAtEnd}
use Rattle.osn_lines.proofs.InputLemmas.{known_whole}
use Rattle.osn_letters.specs.declared.letters.Letters.{Letters}
use Rattle.osn_letters.specs.declared.start.ByteOrderMark.{ByteOrderMark}
use Rattle.osn_letters.specs.declared.start.ByteOrderMark.TheVariants.{Past, TwoBytes}
use Rattle.osn_letters.specs.LettersInside.{CountsAfter, CountsBytes, tally_after}
use Rattle.osn_letters.specs.LettersInside.{tally_from}
use Rattle.osn_letters.specs.ByteOrderMark.{held, unmarked, next_start}
use Rattle.osn_letters.specs.Tally.{TallyModel}
use Rattle.osn_letters.specs.RecordsInside.{TakesRun}
use Rattle.osn_letters.specs.TableInside.{tally_of}
use Rattle.osn_letters.specs.declared.parser.RecordParser.{RecordParser}
use Rattle.osn_letters.proofs.LetterFacts.{take_then}
use Rattle.osn_letters.proofs.StartFacts.{marked, unmarked_held, unmarked_end}

-- bytes after bytes, after the beginning
pub after_counted : (s t u : Letters) (xs ys : List ℕ) → CountsAfter s t xs → CountsAfter t u ys
    → CountsAfter s u (xs ++ ys)
after_counted s t u xs ys x y more =
    ap (tally_after s) (append_assoc xs ys more) ∙ (x (ys ++ more) ∙ y more)

-- the bytes that were held back
pub held_counted : (s t u : Letters) (start : ByteOrderMark) → start ≡ TwoBytes
    → CountsAfter s t (0xEF ∷ []) → CountsAfter t u (0xBB ∷ []) → CountsAfter s u (held start)
held_counted s t u start is x y =
    subst (λ b. CountsAfter s u (held b)) (sym is)
    (after_counted s t u (0xEF ∷ []) (0xBB ∷ []) x y)

-- a byte that goes on with the mark
pub mark_counted : (s : Letters) (next : ByteOrderMark) (b : ℕ) → next_start s.start b ≡ Some next
    → CountsBytes s (record { start = next; parser = s.parser; table = s.table }) (b ∷ [])
mark_counted s next b h more = ap (tally_after s) (marked s.start next b h more)

-- a byte that does not go on with the mark
pub text_counted : (s u : Letters) (b : ℕ) → next_start s.start b ≡ None → u.start ≡ Past
    → CountsAfter s u (held s.start ++ b ∷ []) → CountsBytes s u (b ∷ [])
text_counted s u b h past x more =
    ap (tally_after s)
    (unmarked_held s.start b h more ∙ sym (append_assoc (held s.start) (b ∷ []) more))
    ∙ (x more ∙ ap (λ start. tally_after u (unmarked start more)) (sym past))

-- at the end of the text
pub end_counted : (s t : Letters) (tally : TallyModel) → CountsAfter s t (held s.start)
    → tally_after t [] ≡ tally → tally_from s [] ≡ tally
end_counted s t tally x y =
    ap (tally_after s) (unmarked_end s.start) ∙ (x [] ∙ y)

-- bytes after bytes
pub bytes_counted : (s t u : Letters) (xs ys : List ℕ) → CountsBytes s t xs → CountsBytes t u ys
    → CountsBytes s u (xs ++ ys)
bytes_counted s t u xs ys x y more =
    ap (tally_from s) (append_assoc xs ys more) ∙ (x (ys ++ more) ∙ y more)

-- some bytes more
pub part_counted : (s t u : Letters) (piece part : List ℕ) (i n : ℕ) → part ≡ drop i piece
    → CountsBytes s t (take i piece) → CountsBytes t u (take n part)
    → CountsBytes s u (take (i + n) piece)
part_counted s t u piece part i n is x y =
    subst (CountsBytes s u) (ap (λ l. take i piece ++ take n l) is ∙ take_then i n piece)
    (bytes_counted s t u (take i piece) (take n part) x y)

-- a run, and a byte after it
pub run_counted : (s : Letters) (q : RecordParser) (run : List ℕ) → TakesRun s.parser q run
    → CountsAfter s (record { start = s.start; parser = q; table = s.table }) run
run_counted s q run takes more = ap (tally_of s.table) (takes more)

pub byte_counted : (s t u : Letters) (bytes : List ℕ) (i b : ℕ) → i < length bytes
    → b ≡ get_or bytes i 0 → CountsAfter s t (take i bytes) → CountsAfter t u (b ∷ [])
    → CountsAfter s u (take (i + 1) bytes)
byte_counted s t u bytes i b low is x y =
    subst (CountsAfter s u)
    (ap (λ c. take i bytes ++ c ∷ []) is ∙ sym (take-suc bytes i 0 low)
    ∙ ap (λ k. take k bytes) (sym (add-one i)))
    (after_counted s t u (take i bytes) (b ∷ []) x y)

-- ---- all that is read

-- the tally of what was read and of more is the tally to come of more
abbrev pub CountsRead : (List ℕ → TallyModel) → (List ℕ → TallyModel) → List ℕ → Type 0
CountsRead all rest read = (more : List ℕ) → all (read ++ more) ≡ rest more

pub read_counted : (all rest next : List ℕ → TallyModel) (read got piece : List ℕ) → piece ≡ got
    → CountsRead all rest read → ((more : List ℕ) → rest (piece ++ more) ≡ next more)
    → CountsRead all next (read ++ got)
read_counted all rest next read got piece same x y more =
    ap all (append_assoc read got more)
    ∙ (x (got ++ more) ∙ (ap (λ l. rest (l ++ more)) (sym same) ∙ y more))

pub all_counted : (all rest : List ℕ → TallyModel) (input left : Option (List ℕ)) (read : List ℕ)
    (tally : TallyModel) → Consumes input left read → IsAtEnd left → CountsRead all rest read
    → rest [] ≡ tally → IfSome input (λ text. all text ≡ tally)
all_counted all rest input left read tally consumed end x y =
    known_whole (λ text. all text ≡ tally) input left read consumed end
    (ap all (sym (append-nil read)) ∙ (x [] ∙ y))
