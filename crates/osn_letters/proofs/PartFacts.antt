-- A table may be cut between its records.
use Rattle.std.proofs.Common.{◌≡◌, ◌∙◌, ℕ, ◌+◌, ◌-◌, true, List, [], ◌∷◌, ◌++◌, None, refl}
use Rattle.std.proofs.Common.{sym, ap, subst, arith, length, drop, append_assoc}
use Rattle.std.specs.Prelude.{option_map}
use Rattle.std.specs.List.{All, concat, flat_map}
use Rattle.std.proofs.Math.Seq.{drop-append_seam}
use Rattle.std.proofs.lemmas.List.Elements.{All-head, All-tail}
use Rattle.std.proofs.lemmas.List.Sums.{fold-append}
use Rattle.csv.specs.Reading.{strip_bom}
use Rattle.osn_letters.specs.declared.separator.Separator.{Separator}
use Rattle.osn_letters.specs.Faults.{later_fault}
use Rattle.osn_letters.specs.Parts.{IsWholeTable, lines_in, rows_text, MayEachTableBeCut}
use Rattle.osn_letters.specs.Records.{Reading, after, at_start, is_between}
use Rattle.osn_letters.specs.Records.{reading_after, records_from, records_of}
use Rattle.osn_letters.specs.Table.{TableBasis, Heading, Written, text_before, letters_written}
use Rattle.osn_letters.specs.Table.{rows_written, table_written}
use Rattle.osn_letters.specs.TableLaws.{AreTableLaws}
use Rattle.osn_letters.proofs.ClearFacts.{clear_start, IsClear-after_all, between_last}
use Rattle.osn_letters.proofs.ClearFacts.{records_after}
use Rattle.osn_letters.proofs.FoundFacts.{record_found}
use Rattle.osn_letters.proofs.GoesFacts.{text_before_twice, later, rows_go, rows_later, rows_sound}
use Rattle.osn_letters.proofs.GoesFacts.{table_goes}
use Rattle.osn_letters.proofs.LaterFacts.{IsLater, IsLater-after_all, records_later}
use Rattle.osn_letters.proofs.LawFacts.{kit_records}
use Rattle.osn_letters.proofs.MarkFacts.{strip_after}
use Rattle.osn_letters.proofs.SeamFacts.{IsPast, IsPast-after_all, IsPast-itself, IsBetweenRecords}
use Rattle.osn_letters.proofs.SeamFacts.{first_records, line_after, seam_later}
use Rattle.osn_letters.proofs.SeparatorFacts.{found_stays}

no_text : (s : TableBasis) → (letters_written s []).fault ≡ None → ⊥
unfolding strip_bom
no_text s whole = absurd (cc whole)

whole_strip : (s : TableBasis) (text more : List ℕ) → IsWholeTable s text
    → strip_bom (text ++ more) ≡ strip_bom text ++ more
whole_strip s [] more h = absurd (no_text s h.whole)
whole_strip s (b ∷ text) more h = strip_after s.keeps_going s.separator b text more h.ends

-- ---- the parts after a header

-- what is written after a header: the rows of its table, by a reading after it
record Heads (s : TableBasis) (header : List ℕ) : Type 0 where
  heading : Heading
  reading : Reading
  separator : Separator
  between : IsBetweenRecords separator reading
  goes : (part : List ℕ) → letters_written s (header ++ part)
      ≡ text_before (letters_written s header).text
      (rows_written s heading (records_from reading part))
  reading_is : (part : List ℕ) → reading_after (at_start s.keeps_going s.separator)
      (strip_bom (header ++ part))
      ≡ reading_after reading part

header_heads : (s : TableBasis) (header : List ℕ) → IsWholeTable s header → Heads s header
header_heads s header h =
    let table = table_goes s (records_of s.keeps_going s.separator header) h.whole in
    let start = at_start s.keeps_going s.separator in
    let reading = reading_after start (strip_bom header) in
    let found =
    record_found start (strip_bom header) h.ends table.sound
    (λ none. absurd (cc (sym h.whole ∙ ap (λ l. (table_written s l).fault) none))) in
    record {
      heading = table.heading;
      reading = reading;
      separator = found.0;
      between =
          record {
            clear =
                IsClear-after_all start (strip_bom header)
                (clear_start s.keeps_going s.separator);
            between = h.ends;
            separator_is = found.1;
          };
      goes = λ part.
          ap (table_written s)
          (ap (records_from start) (whole_strip s header part h)
          ∙ records_after start (strip_bom header) part h.ends table.sound)
          ∙ table.goes (records_from reading part);
      reading_is = λ part.
          ap (reading_after start) (whole_strip s header part h)
          ∙ fold-append after start (strip_bom header) part;
    }

-- what is written of a part
abbrev part_written : TableBasis → Heading → Reading → List ℕ → Written
part_written s heading r part = rows_written s heading (records_from r part)

-- a part that ends between two records and has no fault
record IsPart (s : TableBasis) (heading : Heading) (r : Reading) (part : List ℕ) : Type 0 where
  between : is_between (reading_after r part).state ≡ true
  whole : (part_written s heading r part).fault ≡ None

header_part : (s : TableBasis) (header part : List ℕ) (h : Heads s header)
    → IsWholeTable s (header ++ part) → IsPart s h.heading h.reading part
header_part s header part h k = record {
  between = subst (λ r. is_between r.state ≡ true) (h.reading_is part) k.ends;
  whole = sym (ap (λ w. w.fault) (h.goes part)) ∙ k.whole;
}

-- one part, from a reading as many lines later, and what is written after it
part_goes : (s : TableBasis) (heading : Heading) (r q : Reading) (n : ℕ) (part more : List ℕ)
    → IsLater n r q → IsPart s heading r part
    → part_written s heading q (part ++ more)
    ≡ text_before (part_written s heading r part).text
    (part_written s heading (reading_after q part) more)
part_goes s heading r q n part more h k =
    let written : part_written s heading q part ≡ later n (part_written s heading r part) =
    ap (rows_written s heading) (records_later n r q part h)
    ∙ rows_later s heading n (records_from r part) in
    let whole : (part_written s heading q part).fault ≡ None =
    ap (λ w. w.fault) written ∙ ap (option_map (later_fault n)) k.whole in
    let ends = IsLater-after_all n r q part h in
    ap (rows_written s heading)
    (records_after q part more (ends.between ∙ k.between)
    (rows_sound s heading (records_from q part) whole))
    ∙ (rows_go s heading (records_from q part) (records_from (reading_after q part) more) whole
    ∙ ap (λ w. text_before w.text (part_written s heading (reading_after q part) more)) written)

-- the first byte of a part ends no record
first_written : (s : TableBasis) (heading : Heading) (x : Separator) (r : Reading) (b : ℕ)
    (bytes : List ℕ) → IsBetweenRecords x r
    → part_written s heading r (b ∷ bytes) ≡ part_written s heading (after r b) bytes
first_written s heading x r b bytes h =
    ap (rows_written s heading) (first_records r b bytes h.clear h.between)

-- a part is written before what follows it, from any later reading between two records
seam_goes : (s : TableBasis) (heading : Heading) (x : Separator) (r q : Reading)
    (part more : List ℕ) → IsBetweenRecords x r → IsBetweenRecords x q → IsPast r q
    → IsPart s heading r part
    → part_written s heading q (part ++ more)
    ≡ text_before (part_written s heading r part).text
    (part_written s heading (reading_after q part) more)
seam_goes s heading x r q [] more h k past part =
    ap (λ l. text_before (rows_written s heading l).text (part_written s heading q more))
    (sym (between_last r h.between))
seam_goes s heading x r q (b ∷ bytes) more h k past part =
    let first = first_written s heading x r b bytes h in
    let on = seam_later x r q b h k past in
    let next : IsPart s heading (after r b) bytes =
    record { between = part.between; whole = sym (ap (λ w. w.fault) first) ∙ part.whole } in
    first_written s heading x q b (bytes ++ more) k
    ∙ (part_goes s heading (after r b) (after q b) on.more bytes more on.later next
    ∙ ap (λ w. text_before w.text (part_written s heading (reading_after q (b ∷ bytes)) more))
    (sym first))

seam_between : (x : Separator) (r q : Reading) (part : List ℕ) → IsBetweenRecords x r
    → IsBetweenRecords x q
    → IsPast r q → is_between (reading_after r part).state ≡ true
    → is_between (reading_after q part).state ≡ true
seam_between x r q [] h k past ends = k.between
seam_between x r q (b ∷ bytes) h k past ends =
    let on = seam_later x r q b h k past in
    (IsLater-after_all on.more (after r b) (after q b) bytes on.later).between ∙ ends

-- what is written of bytes that are as many lines later in a whole
record IsWrittenLater (s : TableBasis) (heading : Heading) (r q : Reading) (text : List ℕ)
    (all last : List ℕ) : Type 0 where
  more : ℕ
  lines : (reading_after q all).line ≡ (reading_after r last).line + more
  written : part_written s heading q all
      ≡ text_before text (later more (part_written s heading r last))

last_goes : (s : TableBasis) (heading : Heading) (x : Separator) (r q : Reading)
    (last : List ℕ) → IsBetweenRecords x r → IsBetweenRecords x q → IsPast r q
    → IsWrittenLater s heading r q [] last last
last_goes s heading x r q [] h k past = record {
  more = q.line - r.line;
  lines = omega (arith, past.line);
  written =
      ap (rows_written s heading) (between_last q k.between)
      ∙ ap (λ l. later (q.line - r.line) (rows_written s heading l))
      (sym (between_last r h.between));
}
last_goes s heading x r q (b ∷ bytes) h k past =
    let on = seam_later x r q b h k past in
    record {
      more = on.more;
      lines = (IsLater-after_all on.more (after r b) (after q b) bytes on.later).line;
      written =
          first_written s heading x q b bytes k
          ∙ ap (rows_written s heading)
          (records_later on.more (after r b) (after q b) bytes on.later)
          ∙ rows_later s heading on.more (records_from (after r b) bytes)
          ∙ ap (later on.more) (sym (first_written s heading x r b bytes h));
    }

-- all parts, one after another
parts_go : (s : TableBasis) (heading : Heading) (x : Separator) (r q : Reading)
    (parts : List (List ℕ)) (last : List ℕ) → IsBetweenRecords x r → IsBetweenRecords x q
    → IsPast r q
    → All (IsPart s heading r) parts
    → IsWrittenLater s heading r q
    (flat_map (λ part. (part_written s heading r part).text) parts) (concat parts ++ last) last
parts_go s heading x r q [] last h k past each = last_goes s heading x r q last h k past
parts_go s heading x r q (part ∷ parts) last h k past each =
    let first = All-head (IsPart s heading r) part parts each in
    let next = reading_after q part in
    let next_between : IsBetweenRecords x next = record {
      clear = IsClear-after_all q part k.clear;
      between = seam_between x r q part h k past first.between;
      separator_is = found_stays q part x k.separator_is;
    } in
    let rest = parts_go s heading x r next parts last h next_between
    (IsPast-after_all r q part past)
    (All-tail (IsPart s heading r) part parts each) in
    let text = (part_written s heading r part).text in
    let texts = flat_map (λ p. (part_written s heading r p).text) parts in
    record {
      more = rest.more;
      lines =
          ap (λ l. (reading_after q l).line) (append_assoc part (concat parts) last)
          ∙ ap (λ t. t.line) (fold-append after q part (concat parts ++ last))
          ∙ rest.lines;
      written =
          ap (part_written s heading q) (append_assoc part (concat parts) last)
          ∙ (seam_goes s heading x r q part (concat parts ++ last) h k past first
          ∙ (ap (text_before text) rest.written
          ∙ text_before_twice text texts (later rest.more (part_written s heading r last))));
    }

all_parts : (s : TableBasis) (header : List ℕ) (h : Heads s header) (parts : List (List ℕ))
    → All (λ part. IsWholeTable s (header ++ part)) parts
    → All (IsPart s h.heading h.reading) parts
all_parts s header h parts k i d less = header_part s header _ h (k i d less)

flat_map_same : (f g : List ℕ → List ℕ) (xs : List (List ℕ)) → ((x : List ℕ) → f x ≡ g x)
    → flat_map f xs ≡ flat_map g xs
flat_map_same f g [] same = refl
flat_map_same f g (x ∷ xs) same =
    ap (λ l. l ++ flat_map f xs) (same x) ∙ ap (λ l. g x ++ l) (flat_map_same f g xs same)

-- the lines of a text after a header
lines_after : (s : TableBasis) (header : List ℕ) (h : Heads s header) (part : List ℕ)
    → (reading_after h.reading part).line ≡ 1 + lines_in (header ++ part)
lines_after s header h part =
    ap (λ r. r.line) (sym (h.reading_is part))
    ∙ line_after (at_start s.keeps_going s.separator) (strip_bom (header ++ part))

-- the law
table_cut : MayEachTableBeCut
unfolding MayEachTableBeCut
table_cut s header parts last whole each =
    let h = header_heads s header whole in
    let head = (letters_written s header).text in
    let rows_of : (part : List ℕ)
    → (part_written s h.heading h.reading part).text ≡ rows_text s header part =
    λ part. sym (ap (λ w. drop (length head) w.text) (h.goes part)
    ∙ drop-append_seam head (part_written s h.heading h.reading part).text) in
    let all = concat parts ++ last in
    let texts = flat_map (λ p. (part_written s h.heading h.reading p).text) parts in
    let rest = parts_go s h.heading h.separator h.reading h.reading parts last h.between h.between
    (IsPast-itself h.reading) (all_parts s header h parts each) in
    let written : letters_written s (header ++ all) ≡ text_before head
    (text_before texts (later rest.more (part_written s h.heading h.reading last))) =
    h.goes all ∙ ap (text_before head) rest.written in
    record {
      more = rest.more;
      lines =
          omega (arith, rest.lines, lines_after s header h all, lines_after s header h last);
      text =
          ap (λ w. w.text) written
          ∙ ap (λ l. head ++ l)
          (ap (λ l. l ++ (part_written s h.heading h.reading last).text)
          (flat_map_same (λ p. (part_written s h.heading h.reading p).text) (rows_text s header)
          parts rows_of)
          ∙ ap (λ l. flat_map (rows_text s header) parts ++ l) (rows_of last));
      fault =
          ap (λ w. w.fault) written
          ∙ ap (option_map (later_fault rest.more)) (sym (ap (λ w. w.fault) (h.goes last)));
    }

-- ---- both laws of a table

pub table_laws : AreTableLaws
table_laws = record { kit = kit_records; cut = table_cut }
