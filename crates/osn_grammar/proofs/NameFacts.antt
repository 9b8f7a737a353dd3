-- What the table of names has, and that it has no name twice.
use Rattle.std.proofs.Common.{◌≡◌, true, false, refl}
use Rattle.std.specs.List.{list_any}
use Rattle.osn_days.specs.Weekday.{weekday_numbered}
use Rattle.osn_grammar.specs.Laws.{AreEnglishNamesKnown, AreCountedNamesKnown}
use Rattle.osn_grammar.specs.Names.{AreNamesDistinct, are_distinct, is_listed, names, other_names}
use Rattle.osn_grammar.specs.Names.{more_names, feast_names}
use Rattle.osn_grammar.proofs.LanguageFacts.{words_known}

usual_distinct : are_distinct names ≡ true
unfolding names
usual_distinct = refl

others_distinct : are_distinct other_names ≡ true
unfolding other_names
others_distinct = refl

more_distinct : are_distinct more_names ≡ true
unfolding more_names
more_distinct = refl

more_not_usual : list_any (is_listed names) more_names ≡ false
unfolding names more_names
more_not_usual = refl

more_not_others : list_any (is_listed other_names) more_names ≡ false
unfolding other_names more_names
more_not_others = refl

others_not_usual : list_any (is_listed names) other_names ≡ false
unfolding names other_names
others_not_usual = refl

feasts_distinct : are_distinct feast_names ≡ true
unfolding feast_names
feasts_distinct = refl

feasts_not_usual : list_any (is_listed names) feast_names ≡ false
unfolding names feast_names
feasts_not_usual = refl

feasts_not_others : list_any (is_listed other_names) feast_names ≡ false
unfolding other_names feast_names
feasts_not_others = refl

feasts_not_more : list_any (is_listed more_names) feast_names ≡ false
unfolding more_names feast_names
feasts_not_more = refl

pub names_distinct : AreNamesDistinct
unfolding AreNamesDistinct
names_distinct = (
  usual_distinct,
  others_distinct,
  more_distinct,
  feasts_distinct,
  others_not_usual,
  more_not_usual,
  feasts_not_usual,
  more_not_others,
  feasts_not_others,
  feasts_not_more,
)

pub english_names_known : AreEnglishNamesKnown
unfolding AreEnglishNamesKnown names weekday_numbered
english_names_known = (refl, refl)

pub counted_names_known : AreCountedNamesKnown
unfolding AreCountedNamesKnown names
counted_names_known = (refl, refl)

-- the four laws
pub ruleset name_laws = (names_distinct, english_names_known, counted_names_known, words_known)
