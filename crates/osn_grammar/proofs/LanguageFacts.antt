-- Each word of the table of names is read as its part.
use Rattle.std.proofs.Common.{refl}
use Rattle.osn_days.specs.Weekday.{weekday_numbered}
use Rattle.osn_grammar.specs.Languages.{AreMonthsKnown, AreWeekdaysKnown, AreOtherWeekdaysKnown}
use Rattle.osn_grammar.specs.Languages.{AreOrdinalsKnown, AreOtherWordsKnown, AreWordsKnown}
use Rattle.osn_grammar.specs.Languages.{AreOtherLanguagesKnown, AreOtherMonthsKnown}
use Rattle.osn_grammar.specs.Languages.{AreCenturiesKnown, AreDecadesKnown}
use Rattle.osn_grammar.specs.Languages.{ArePeriodsKnown, AreFeastsKnown}
use Rattle.osn_grammar.specs.EarlyNames.{AreMoreMonthsKnown, AreMoreWordsKnown}
use Rattle.osn_grammar.specs.Names.{names, other_names, more_names, feast_names}

months_known : AreMonthsKnown
unfolding names lib.Utf8.encode
months_known = record {
  english = refl;
  english_short = refl;
  latin = refl;
  latin_genitive = refl;
  latin_ablative = refl;
  latin_with_j = refl;
  genitive_with_j = refl;
  ablative_with_j = refl;
  french = refl;
  french_short = refl;
  french_without_accents = refl;
  french_short_without_accents = refl;
  german = refl;
  german_short = refl;
  french_other = refl;
  german_without_accents = refl;
  italian_other = refl;
  spanish_other = refl;
  portuguese_without_accents = refl;
  genitive_with_x = refl;
  german_other = refl;
  german_other_without_accents = refl;
  dutch = refl;
  dutch_short = refl;
  italian = refl;
  italian_short = refl;
  spanish = refl;
  spanish_short = refl;
  portuguese = refl;
  portuguese_short = refl;
  swedish = refl;
  danish = refl;
  danish_old = refl;
  genitive_with_ij = refl;
}

other_months_known : AreOtherMonthsKnown
unfolding names other_names lib.Utf8.encode
other_months_known = record {
  january = refl;
  february = refl;
  march = refl;
  april = refl;
  may = refl;
  june = refl;
  july = refl;
  august = refl;
  september = refl;
  october = refl;
  november = refl;
  december = refl;
}

more_months_known : AreMoreMonthsKnown
unfolding names other_names more_names lib.Utf8.encode
more_months_known = record {
  january = refl;
  february = refl;
  march = refl;
  april = refl;
  may = refl;
  june = refl;
  july = refl;
  august = refl;
  september = refl;
  october = refl;
  november = refl;
  december = refl;
}

weekdays_known : AreWeekdaysKnown
unfolding names weekday_numbered lib.Utf8.encode
weekdays_known = record {
  english = refl;
  english_short = refl;
  latin = refl;
  latin_with_j = refl;
  french = refl;
  german = refl;
  dutch = refl;
  italian = refl;
  italian_without_accents = refl;
  spanish = refl;
  spanish_without_accents = refl;
  portuguese = refl;
  swedish = refl;
  danish = refl;
}

other_weekdays_known : AreOtherWeekdaysKnown
unfolding names weekday_numbered lib.Utf8.encode
other_weekdays_known = record {
  sunday = refl;
  monday = refl;
  tuesday = refl;
  wednesday = refl;
  thursday = refl;
  friday = refl;
  saturday = refl;
}

ordinals_known : AreOrdinalsKnown
unfolding names other_names more_names feast_names lib.Utf8.encode
ordinals_known = record {
  english = refl;
  english_short = refl;
  first = refl;
  dutch = refl;
}

others_known : AreOtherWordsKnown
unfolding names other_names lib.Utf8.encode
others_known = record {
  to = refl;
  joining = refl;
  between_short = refl;
  before = refl;
  after = refl;
  about = refl;
  estimated = refl;
  doubt = refl;
  old_style = refl;
  new_style = refl;
  no = refl;
  undated = refl;
  blank = refl;
  fillers = refl;
}

other_languages_known : AreOtherLanguagesKnown
unfolding names lib.Utf8.encode
other_languages_known = record {
  to = refl;
  or = refl;
  and = refl;
  between = refl;
  before = refl;
  after = refl;
  about = refl;
  old_style = refl;
  new_style = refl;
  undated = refl;
  fillers = refl;
}

more_words_known : AreMoreWordsKnown
unfolding names other_names more_names feast_names lib.Utf8.encode
more_words_known = record {
  bounds = refl;
  fillers = refl;
  middle = refl;
  doubt = refl;
  about = refl;
  estimated = refl;
  interpreted = refl;
  old_style = refl;
  new_style = refl;
  from = refl;
  to = refl;
  to_the = refl;
  first = refl;
  tens = refl;
  letters = refl;
  six = refl;
  and = refl;
}

centuries_known : AreCenturiesKnown
unfolding names other_names lib.Utf8.encode
centuries_known = record {
  century = refl;
  numerals = refl;
  numerals_with_j = refl;
  numerals_without_nine = refl;
  ordinals = refl;
}

decades_known : AreDecadesKnown
unfolding names other_names lib.Utf8.encode
decades_known = record {
  century = refl;
  letter = refl;
  tal = refl;
  decade = refl;
  fillers = refl;
}

periods_known : ArePeriodsKnown
unfolding names other_names lib.Utf8.encode
periods_known = record {
  first_third = refl;
  middle_third = refl;
  last_third = refl;
  first = refl;
  second = refl;
  last = refl;
  half = refl;
  third = refl;
  spring = refl;
  summer = refl;
  autumn = refl;
  winter = refl;
}

feasts_known : AreFeastsKnown
unfolding names other_names more_names feast_names lib.Utf8.encode
feasts_known = record {
  english = refl;
  german = refl;
  french = refl;
  latin = refl;
  dutch = refl;
  southern = refl;
  swedish = refl;
  danish = refl;
}

pub words_known : AreWordsKnown
unfolding AreWordsKnown
words_known = (
  months_known,
  other_months_known,
  more_months_known,
  weekdays_known,
  other_weekdays_known,
  ordinals_known,
  others_known,
  other_languages_known,
  more_words_known,
  centuries_known,
  decades_known,
  periods_known,
  feasts_known,
)
