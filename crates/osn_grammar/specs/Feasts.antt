-- The forms of a feast that is counted from Easter, in a year: Easter 1641, Easter Monday 1641,
-- Corpus Christi 1641. This project's profile.
use Rattle.std.specs.Prelude.{List, [], ◌∷◌, Option, Some, None, Result, Ok, Err}
use Rattle.osn_days.specs.declared.weekday.Weekday.{Weekday}
use Rattle.osn_days.specs.declared.weekday.Weekday.TheVariants as day
use Rattle.osn_written.specs.declared.any_date.Extent.{Extent}
use Rattle.osn_written.specs.declared.any_date.Extent.TheVariants as extent
use Rattle.osn_written.specs.declared.feast.Feast.{Feast}
use Rattle.osn_written.specs.declared.feast.Feast.TheVariants as feast
use Rattle.osn_written.specs.declared.written_date.DateFault.{DateFault}
use Rattle.osn_written.specs.declared.written_date.DateFault.TheVariants as faults
use Rattle.osn_grammar.specs.declared.token.FeastWord.{FeastWord}
use Rattle.osn_grammar.specs.declared.token.FeastWord.TheVariants as word
use Rattle.osn_grammar.specs.declared.token.Token.{Token}
use Rattle.osn_grammar.specs.declared.token.Token.TheVariants as token
use Rattle.osn_grammar.specs.declared.simple.YearNumbers.{YearNumbers}
use Rattle.osn_grammar.specs.Forms.{year_numbers}
use Rattle.osn_grammar.specs.Simple.{◌>>=◌, one, year_of}

-- ---- which feast it is

abbrev pub on_sunday : Weekday → Feast → Option Feast
on_sunday day.Sunday f = Some f
on_sunday w f = None

abbrev pub on_wednesday : Weekday → Feast → Option Feast
on_wednesday day.Wednesday f = Some f
on_wednesday w f = None

abbrev pub on_thursday : Weekday → Feast → Option Feast
on_thursday day.Thursday f = Some f
on_thursday w f = None

abbrev pub on_friday : Weekday → Feast → Option Feast
on_friday day.Friday f = Some f
on_friday w f = None

-- Easter and the two days after it, and so at Whitsun
abbrev pub easter_on : Weekday → Option Feast
easter_on day.Sunday = Some feast.Easter
easter_on day.Monday = Some feast.EasterMonday
easter_on day.Tuesday = Some feast.EasterTuesday
easter_on w = None

abbrev pub whitsun_on : Weekday → Option Feast
whitsun_on day.Sunday = Some feast.Pentecost
whitsun_on day.Monday = Some feast.WhitMonday
whitsun_on day.Tuesday = Some feast.WhitTuesday
whitsun_on w = None

-- with a weekday: Easter Monday, Ash Wednesday
abbrev pub feast_on : FeastWord → Weekday → Option Feast
feast_on word.Easter w = easter_on w
feast_on word.Whitsun w = whitsun_on w
feast_on word.Whit w = whitsun_on w
feast_on word.Ash w = on_wednesday w feast.AshWednesday
feast_on word.Palm w = on_sunday w feast.PalmSunday
feast_on word.Maundy w = on_thursday w feast.MaundyThursday
feast_on word.Good w = on_friday w feast.GoodFriday
feast_on word.Ascension w = on_thursday w feast.Ascension
feast_on word.Trinity w = on_sunday w feast.Trinity
feast_on _ w = None

-- without one: Easter, Ostermontag
abbrev pub feast_alone : FeastWord → Option Feast
feast_alone word.Easter = Some feast.Easter
feast_alone word.Whitsun = Some feast.Pentecost
feast_alone word.Ascension = Some feast.Ascension
feast_alone (word.Named f) = Some f
feast_alone _ = None

abbrev pub feast_by : FeastWord → Option Weekday → Option Feast
feast_by first None = feast_alone first
feast_by first (Some w) = feast_on first w

-- Corpus Christi, Corpus Christi Thursday
abbrev pub corpus_christi : FeastWord → Option Weekday → Option Feast
corpus_christi word.Corpus None = Some feast.CorpusChristi
corpus_christi word.Corpus (Some w) = on_thursday w feast.CorpusChristi
corpus_christi _ weekday = None

-- of two words: Easter Day, Corpus Christi
abbrev pub feast_of_two : FeastWord → FeastWord → Option Weekday → Option Feast
feast_of_two first word.Day weekday = feast_by first weekday
feast_of_two first word.Christi weekday = corpus_christi first weekday
feast_of_two first _ weekday = None

-- ---- its year

abbrev pub in_year : Option Feast → Option YearNumbers → Result Extent DateFault
in_year None years = Err faults.Feast
in_year (Some f) None = Err faults.Feast
in_year (Some f) (Some years) = do
  year ← year_of years
  Ok (extent.Feast f year)

-- what is after the first word of a feast's name: a second word and a year, or a year
abbrev pub after_two : FeastWord → Option Weekday → List Token → Result Extent DateFault
after_two first weekday (token.Feast second ∷ year) =
    in_year (feast_of_two first second weekday) (year_numbers year)
after_two first weekday _ = Err faults.Feast

abbrev pub year_or_two : FeastWord → Option Weekday → List Token → Option YearNumbers
    → Result Extent DateFault
year_or_two first weekday rest (Some years) = in_year (feast_by first weekday) (Some years)
year_or_two first weekday rest None = after_two first weekday rest

abbrev pub after_word : FeastWord → Option Weekday → List Token → Result Extent DateFault
after_word first weekday rest = year_or_two first weekday rest (year_numbers rest)

-- the year may be first: 1641 Easter
abbrev pub feast_in : Option Weekday → List Token → Result Extent DateFault
feast_in weekday (token.Feast first ∷ rest) = after_word first weekday rest
feast_in weekday (token.Number y ∷ token.Feast first ∷ []) =
    in_year (feast_by first weekday) (Some (one y))
feast_in weekday _ = Err faults.Feast
