use Rattle.std.proofs.Common.{◌≡◌, ◌≤◌, ◌∙◌, rules, true, ap, sym, length, Some}
use Rattle.std.specs.Str.{all_ascii_digits}
use Rattle.std.specs.Str.Parse.{digits_value}
use Rattle.std.specs.Result.{result_ok}
use Rattle.osn_grammar.proofs.Digits.{number_read, value_is, value_below, value_short}
use Rattle.osn_grammar.proofs.token.value_of.Goals as goal

pub returns : goal.returns
returns c =
    let word = c.args.word.now in
    let some : 1 ≤ length word = search rules in
    let few : length word ≤ 9 = search rules in
    let digits : all_ascii_digits word ≡ true = search rules in
    let read : c.ok.result ≡ Some (digits_value 10 word) =
    c.ok.ensures.value
    ∙ ap result_ok (number_read word c.parse.result c.parse.ensures.value.0 some few digits) in
    record {
      value = read ∙ sym (value_is word some few digits);
      short = value_short word c.ok.result read few;
      small = value_below word c.ok.result read few digits;
    }
