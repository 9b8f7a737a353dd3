use Rattle.std.proofs.Common.{◌≡◌, ◌≤◌, ◌∙◌, rules, true, ap, sym, length, Some}
use Rattle.std.specs.Str.{all_ascii_digits}
use Rattle.std.specs.Str.Parse.{digits_value}
use Rattle.std.specs.Result.{result_ok}
use Rattle.osn_written.proofs.Grammar.{number_read, number_is, number_below}
use Rattle.osn_written.proofs.written_date.number_of.Goals as goal

pub returns : goal.returns
returns c =
    let part = c.args.part.now in
    let some : 1 ≤ length part = search rules in
    let few : length part ≤ 9 = search rules in
    let digits : all_ascii_digits part ≡ true = search rules in
    let read : c.ok.result ≡ Some (digits_value 10 part) =
    c.ok.ensures.value
    ∙ ap result_ok (number_read part c.parse.result c.parse.ensures.value.0 some few digits) in
    record {
      value = read ∙ sym (number_is part some few digits);
      small = number_below part c.ok.result read few digits;
    }
