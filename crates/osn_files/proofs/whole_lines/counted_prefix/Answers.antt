use Rattle.std.proofs.Common.{◌+◌, ◌<◌, ◌==◌, ◌^◌, ◌∙◌, ℕ, ap, length, arith, rules}
use Rattle.std.proofs.lemmas.List.Sums.{count_by-le-length}
use Rattle.osn_files.specs.CountedPrefix.{by_last, last_line_of}
use Rattle.osn_files.proofs.LastLineLemmas.{state_found, whole_count-le}
use Rattle.osn_files.proofs.whole_lines.counted_prefix.Goals as goal

pub part_by-requires : goal.part_by-requires
part_by-requires c =
    let bytes = c.args.bytes.now in
    let fits : length bytes < 2 ^ 63 = search rules in
    omega (arith, fits, c.ended_count-lines.ensures, count_by-le-length (λ b. b == 10) bytes)

pub returns-clause-ok : goal.returns-clause-ok
returns-clause-ok c =
    let bytes = c.args.bytes.now in
    let lines = c.ended_count-lines.result in
    let whole = c.ended_length-whole_length in
    let part = c.part_by.ensures in
    let last =
    state_found bytes lines whole.result c.in_ok-last.last c.ended_count-lines.ensures
    whole.ensures.value c.in_ok-last.ensures in
    record {
      bytes =
          part.bytes ∙ ap (λ l. by_last l whole.result (length bytes)) last
          ∙ ap (λ (n : ℕ). by_last (last_line_of bytes) n (length bytes)) whole.ensures.value;
      lines =
          part.lines ∙ ap (λ l. by_last l lines (lines + 1)) last
          ∙ ap (λ (n : ℕ). by_last (last_line_of bytes) n (n + 1)) c.ended_count-lines.ensures;
      last = part.last ∙ last;
    }

pub returns-clause-few : goal.returns-clause-few
returns-clause-few c =
    let bytes = c.args.bytes.now in
    let fits : length bytes < 2 ^ 63 = search rules in
    let lines = c.ended_count-lines.result in
    let last =
    state_found bytes lines c.ended_length-whole_length.result c.in_ok-last.last
    c.ended_count-lines.ensures c.ended_length-whole_length.ensures.value c.in_ok-last.ensures in
    let is = c.part_by.ensures.lines ∙ ap (λ l. by_last l lines (lines + 1)) last
    ∙ ap (λ (n : ℕ). by_last (last_line_of bytes) n (n + 1)) c.ended_count-lines.ensures in
    omega (arith, fits, is, whole_count-le bytes)
