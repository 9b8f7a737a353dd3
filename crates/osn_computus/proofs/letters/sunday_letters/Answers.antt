use Rattle.std.proofs.Common.{refl, sym, ◌∙◌}
use Rattle.osn_computus.specs.Letters.{letters_of}
use Rattle.osn_computus.proofs.EarlierLetters.{same_letters}
use Rattle.osn_computus.proofs.letters.sunday_letters.Goals as goal

pub returns-in-Swedish-clause-value : goal.returns-in-Swedish-clause-value
unfolding letters_of
returns-in-Swedish-clause-value c = rw c.in-Swedish.is refl

pub returns-in-Swedish-clause-earlier_rules : goal.returns-in-Swedish-clause-earlier_rules
unfolding letters_of
returns-in-Swedish-clause-earlier_rules c year = rw c.in-Swedish.is refl

pub returns-in-Julian-clause-earlier_rules : goal.returns-in-Julian-clause-earlier_rules
returns-in-Julian-clause-earlier_rules c year =
    sym c.letters_of_year.ensures.value ∙ sym (same_letters c.args.calendar c.args.year year)
