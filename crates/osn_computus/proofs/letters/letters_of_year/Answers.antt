use Rattle.std.proofs.Common.{◌∙◌, ap, refl, arith}
use Rattle.osn_days.specs.declared.date.Date.{Date}
use Rattle.osn_days.specs.Rules.{newest_rules}
use Rattle.osn_days.specs.Chain.{days_with_date}
use Rattle.osn_computus.specs.declared.letters.Letters.{Letters}
use Rattle.osn_computus.proofs.MoonFacts.{spring_found}
use Rattle.osn_computus.proofs.LetterFacts.{february_found, february_1_is, march_1_is, letters_are}
use Rattle.osn_computus.proofs.LetterFacts.{letters_from, same_in_common_year}
use Rattle.osn_computus.proofs.letters.letters_of_year.Goals as goal

pub unwrap-february_1-requires : goal.unwrap-february_1-requires
unwrap-february_1-requires c =
    let k = c.args.calendar in
    let found = c.day_of.ensures
    ∙ ap (λ (d : Date). days_with_date newest_rules k d) c.date_in.ensures.value in
    rw (february_found k c.requires c.args.year c.date_in.ensures.in_range c.day_of.result found)
    refl

pub unwrap-march_1-requires : goal.unwrap-march_1-requires
unwrap-march_1-requires c =
    let k = c.args.calendar in
    let found = c.day_of-2.ensures
    ∙ ap (λ (d : Date). days_with_date newest_rules k d) c.date_in-2.ensures.value in
    rw (spring_found k c.requires c.args.year 0 c.date_in.ensures.in_range (omega arith)
    c.day_of-2.result found) refl

pub returns-clause-sundays : goal.returns-clause-sundays
returns-clause-sundays c =
    let k = c.args.calendar in
    let letters : Letters = record {
      january = c.sunday_letter.result;
      march = c.sunday_letter-2.result;
    } in
    let february = c.day_of.ensures
    ∙ ap (λ (d : Date). days_with_date newest_rules k d) c.date_in.ensures.value in
    let march = c.day_of-2.ensures
    ∙ ap (λ (d : Date). days_with_date newest_rules k d) c.date_in-2.ensures.value in
    letters_from k c.requires c.args.year c.unwrap-february_1.result c.unwrap-march_1.result letters
    (february_1_is k c.requires c.args.year c.date_in.ensures.in_range c.day_of.result
    c.unwrap-february_1.result february c.unwrap-february_1.ensures)
    (march_1_is k c.requires c.args.year c.date_in.ensures.in_range c.day_of-2.result
    c.unwrap-march_1.result march c.unwrap-march_1.ensures)
    c.sunday_letter.ensures c.sunday_letter-2.ensures

pub returns-clause-value : goal.returns-clause-value
returns-clause-value c =
    let letters : Letters = record {
      january = c.sunday_letter.result;
      march = c.sunday_letter-2.result;
    } in
    letters_are c.args.calendar c.requires c.args.year letters c.date_in.ensures.in_range
    (returns-clause-sundays c)

pub returns-clause-common_year : goal.returns-clause-common_year
returns-clause-common_year c =
    let k = c.args.calendar in
    let letters : Letters = record {
      january = c.sunday_letter.result;
      march = c.sunday_letter-2.result;
    } in
    let february = c.day_of.ensures
    ∙ ap (λ (d : Date). days_with_date newest_rules k d) c.date_in.ensures.value in
    let march = c.day_of-2.ensures
    ∙ ap (λ (d : Date). days_with_date newest_rules k d) c.date_in-2.ensures.value in
    λ common. same_in_common_year k c.args.year c.unwrap-february_1.result c.unwrap-march_1.result
    letters common
    (february_1_is k c.requires c.args.year c.date_in.ensures.in_range c.day_of.result
    c.unwrap-february_1.result february c.unwrap-february_1.ensures)
    (march_1_is k c.requires c.args.year c.date_in.ensures.in_range c.day_of-2.result
    c.unwrap-march_1.result march c.unwrap-march_1.ensures)
    c.sunday_letter.ensures c.sunday_letter-2.ensures
