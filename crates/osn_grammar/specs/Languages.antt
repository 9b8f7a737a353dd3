-- What the words of dates are in each language, whatever else the table of names has. A text that
-- is written out is read as these parts. This project's profile.
use Rattle.std.specs.Prelude.{◌≡◌, ℕ, List, [], ◌∷◌, ◌++◌, map, codes}
use Rattle.std.specs.List.{range_with_len}
use Rattle.osn_days.specs.declared.weekday.Weekday.TheVariants.{Sunday, Monday, Tuesday, Wednesday}
use Rattle.osn_days.specs.declared.weekday.Weekday.TheVariants.{Thursday, Friday, Saturday}
use Rattle.osn_days.specs.Weekday.{weekday_numbered}
use Rattle.osn_grammar.specs.declared.token.Fraction.TheVariants as fraction
use Rattle.osn_grammar.specs.declared.token.Nth.TheVariants as nth
use Rattle.osn_grammar.specs.declared.token.FeastWord.TheVariants as word
use Rattle.osn_grammar.specs.declared.token.Token.{Token}
use Rattle.osn_grammar.specs.declared.token.Token.TheVariants as token
use Rattle.osn_written.specs.declared.any_date.Reckoning.TheVariants.{OldStyle, NewStyle}
use Rattle.osn_written.specs.declared.portion.Portion.TheVariants as portion
use Rattle.osn_written.specs.declared.feast.Feast.TheVariants as feast
use Rattle.osn_grammar.specs.EarlyNames.{Reads, times, AreMoreMonthsKnown, AreMoreWordsKnown}
use Rattle.osn_grammar.specs.Scan.{tokens_after}

-- ---- months, from January to December

abbrev pub AreMonths : List ℕ → Type 0
AreMonths text = Reads text (map token.Month (range_with_len 1 12))

pub record AreMonthsKnown : Type 0 where
  pub english : AreMonths
      (codes "January February March April May June "
      ++ codes "July August September October November December")
  pub english_short : AreMonths (codes "Jan Feb Mar Apr May Jun Jul Aug Sep Oct Nov Dec")
  pub latin : AreMonths
      (codes "Ianuarius Februarius Martius Aprilis Maius Iunius "
      ++ codes "Iulius Augustus September October November December")
  pub latin_genitive : AreMonths
      (codes "Ianuarii Februarii Martii Aprilis Maii Iunii "
      ++ codes "Iulii Augusti Septembris Octobris Novembris Decembris")
  pub latin_ablative : AreMonths
      (codes "Ianuario Februario Martio Aprili Maio Iunio "
      ++ codes "Iulio Augusto Septembri Octobri Novembri Decembri")
  pub latin_with_j : AreMonths
      (codes "Januarius Februarius Martius Aprilis Maius Junius "
      ++ codes "Julius Augustus September October November December")
  pub genitive_with_j : AreMonths
      (codes "Januarii Februarii Martii Aprilis Maii Junii Julii Augusti 7bris 8bris 9bris 10bris")
  pub ablative_with_j : AreMonths
      (codes "Januario Februario Martio Aprili Maio Junio Julio Augusto 7ber 8ber 9ber 10ber")
  pub french : AreMonths
      (codes "janvier février mars avril mai juin juillet août septembre octobre novembre décembre")
  pub french_short : AreMonths (codes "janv févr mars avr mai juin juil août sept oct nov déc")
  pub french_without_accents : AreMonths
      (codes "janvier fevrier mars avril mai juin juillet aout 7bre 8bre 9bre 10bre")
  pub french_short_without_accents : AreMonths
      (codes "janv fevr mars avr mai juin juil aout septembre octobre novembre decembre")
  pub german : AreMonths
      (codes "Januar Februar März April Mai Juni Juli August September Oktober November Dezember")
  pub german_short : AreMonths (codes "Jan Feb Mär Apr Mai Jun Jul Aug Sept Okt Nov Dez")
  pub french_other : AreMonths (codes "janv fév mars avr mai juin juil août 7bre 8bre 9bre Xbre")
  pub german_without_accents : AreMonths
      (codes "Januar Februar marz April Mai Juni Juli August September Oktober November Dezember")
  pub italian_other : AreMonths (codes "gen febbr marzo apr mag giu lug ago sett ott nov dic")
  pub spanish_other : AreMonths (codes "ene feb mar abr may jun jul ago setiembre octubre nov dic")
  pub portuguese_without_accents : AreMonths
      (codes "janeiro fevereiro marco abril maio junho "
      ++ codes "julho agosto setembro outubro novembro dezembro")
  pub genitive_with_x : AreMonths
      (codes "Ianuarii Februarii Martii Aprilis Maii Iunii Iulii Augusti 7bris 8bris 9bris Xbris")
  pub german_other : AreMonths (codes "Jänner Feb Maerz Apr Mai Juni Juli Aug 7ber 8ber 9ber Xber")
  pub german_other_without_accents : AreMonths
      (codes "Janner Feb Marz Apr Mai Juni Juli Aug 7ber 8ber 9ber Xber")
  pub dutch : AreMonths
      (codes "januari februari maart april mei juni "
      ++ codes "juli augustus september oktober november december")
  pub dutch_short : AreMonths (codes "jan febr mrt apr mei jun jul aug sept okt nov dec")
  pub italian : AreMonths
      (codes "gennaio febbraio marzo aprile maggio giugno "
      ++ codes "luglio agosto settembre ottobre novembre dicembre")
  pub italian_short : AreMonths (codes "genn febbr mar apr mag giu lug ago sett ott nov dic")
  pub spanish : AreMonths
      (codes "enero febrero marzo abril mayo junio "
      ++ codes "julio agosto septiembre octubre noviembre diciembre")
  pub spanish_short : AreMonths (codes "ene feb mar abr may jun jul ago set oct nov dic")
  pub portuguese : AreMonths
      (codes "janeiro fevereiro março abril maio junho "
      ++ codes "julho agosto setembro outubro novembro dezembro")
  pub portuguese_short : AreMonths (codes "jan fev mar abr mai jun jul ago set out nov dez")
  pub swedish : AreMonths
      (codes "januari februari mars april maj juni "
      ++ codes "juli augusti september oktober november december")
  pub danish : AreMonths
      (codes "januar februar marts april maj juni juli august september oktober november december")
  pub danish_old : AreMonths
      (codes "januar februar marts april maji juni juli august september oktober november december")
  pub genitive_with_ij : AreMonths
      (codes "Januarij Februarij Martij Aprilis Maij Junij "
      ++ codes "Julij Augusti 7bris 8bris 9bris 10bris")

-- other spellings and other names of each month: contracted, with i for j and u for v, and of old
-- calendars in German, Dutch and Danish. A word that two months have is not among them
pub record AreOtherMonthsKnown : Type 0 where
  pub january : Reads
      (codes "jany janry ianuary januarie ianuarie januarye ianuarye ianuar ianuari "
      ++ codes "ianuarij ianvier ianuier jenner gennaro louwmaand glugmåned "
      ++ codes "glugmaaned")
      (times 17 (token.Month 1))
  pub february : Reads
      (codes "feby febry februarie februarye ffebruary feurier febvrier febraro "
      ++ codes "febbraro hebrero hornung sprokkelmaand blidemåned blidemaaned")
      (times 14 (token.Month 2))
  pub march : Reads
      (codes "marche merz mertz märtz maertz maert meert marcii marcij lenzmonat "
      ++ codes "lenzmond lentemaand")
      (times 12 (token.Month 3))
  pub april : Reads
      (codes "apl aprl aprill aprille apryll aprillis auril ostermond ostermonat "
      ++ codes "grasmaand fåremåned faaremaaned")
      (times 12 (token.Month 4))
  pub may : Reads
      (codes "maye maie mey wonnemond wonnemonat bloeimaand majmåned majmaaned")
      (times 8 (token.Month 5))
  pub june : Reads
      (codes "iune iun iunij iuni juny iuny iuin juing brachmonat brachmond "
      ++ codes "zomermaand")
      (times 11 (token.Month 6))
  pub july : Reads
      (codes "iuly iul iulij iuli julye iulye julie iulie iuillet heumonat heumond "
      ++ codes "hooimaand hooymaand ormemåned ormemaaned")
      (times 15 (token.Month 7))
  pub august : Reads
      (codes "augt auguste augst aoust erntemonat erntemond oogstmaand")
      (times 7 (token.Month 8))
  pub september : Reads
      (codes "sepr septr septemb septembr septbr 7br 7bri viiber viibris viibre "
      ++ codes "herfstmaand fiskemåned fiskemaaned")
      (times 13 (token.Month 9))
  pub october : Reads
      (codes "octr octob octobr octbr 8br 8bri viiiber viiibris viiibre weinmonat "
      ++ codes "weinmond wijnmaand wynmaand")
      (times 13 (token.Month 10))
  pub november : Reads
      (codes "novr novemb novembr novbr nouember nouembre nouembris 9br 9bri ixber "
      ++ codes "ixbris ixbre slachtmaand slagtmaand slagtemåned slagtemaaned")
      (times 16 (token.Month 11))
  pub december : Reads
      (codes "decr decemb decembr decbr 10br 10bri xbr xbri christmonat christmond "
      ++ codes "wintermaand julemåned julemaaned")
      (times 13 (token.Month 12))

-- ---- weekdays, from Sunday to Saturday

abbrev pub AreWeekdays : List ℕ → Type 0
AreWeekdays text =
    Reads text (map (λ n. token.Weekday (weekday_numbered n)) (range_with_len 0 7))

pub record AreWeekdaysKnown : Type 0 where
  pub english : AreWeekdays (codes "Sunday Monday Tuesday Wednesday Thursday Friday Saturday")
  pub english_short : AreWeekdays (codes "Sun Mon Tue Wed Thu Fri Sat")
  pub latin : AreWeekdays (codes "Dominica Lunae Martis Mercurii Iovis Veneris Saturni")
  pub latin_with_j : AreWeekdays (codes "Dominica Lunae Martis Mercurii Jovis Veneris Sabbati")
  pub french : AreWeekdays (codes "dimanche lundi mardi mercredi jeudi vendredi samedi")
  pub german : AreWeekdays (codes "Sonntag Montag Dienstag Mittwoch Donnerstag Freitag Samstag")
  pub dutch : AreWeekdays (codes "zondag maandag dinsdag woensdag donderdag vrijdag zaterdag")
  pub italian : AreWeekdays (codes "domenica lunedì martedì mercoledì giovedì venerdì sabato")
  pub italian_without_accents : AreWeekdays
      (codes "domenica lunedi martedi mercoledi giovedi venerdi sabato")
  pub spanish : AreWeekdays (codes "domingo lunes martes miércoles jueves viernes sábado")
  pub spanish_without_accents : AreWeekdays
      (codes "domingo lunes martes miercoles jueves viernes sabado")
  pub portuguese : AreWeekdays (codes "domingo segunda terça quarta quinta sexta sábado")
  pub swedish : AreWeekdays (codes "söndag måndag tisdag onsdag torsdag fredag lördag")
  pub danish : AreWeekdays (codes "søndag mandag tirsdag onsdag torsdag fredag lørdag")

-- other names of each weekday
pub record AreOtherWeekdaysKnown : Type 0 where
  pub sunday : Reads (codes "dim Son zon dom sondag sön søn") (times 7 (token.Weekday Sunday))
  pub monday : Reads (codes "lun maa mån man") (times 4 (token.Weekday Monday))
  pub tuesday : Reads (codes "Tues terca tis tir") (times 4 (token.Weekday Tuesday))
  pub wednesday : Reads (codes "woe mer mié mie ons") (times 5 (token.Weekday Wednesday))
  pub thursday : Reads (codes "Thur Thurs jeu Don gio jue tor") (times 7 (token.Weekday Thursday))
  pub friday : Reads (codes "ven vrij vie fre") (times 4 (token.Weekday Friday))
  pub saturday : Reads (codes "Sabbato sam Sonnabend zat sab sáb lordag lör lor lør")
      (times 10 (token.Weekday Saturday))

-- ---- ordinals

-- an ordinal is read as the number: 1st is 1
pub record AreOrdinalsKnown : Type 0 where
  pub english : tokens_after []
      (codes "1st 2nd 3rd 4th 5th 6th 7th 8th 9th 10th 11th 12th 13th 14th 15th 16th "
      ++ codes "17th 18th 19th 20th 21st 22nd 23rd 24th 25th 26th 27th 28th 29th 30th 31st")
      ≡ tokens_after []
      (codes "1 2 3 4 5 6 7 8 9 10 11 12 13 14 15 16 17 18 19 20 21 22 23 24 25 26 27 28 29 30 31")
  pub english_short : tokens_after [] (codes "2d 3d 22d 23d") ≡ tokens_after [] (codes "2 3 22 23")
  pub first : tokens_after [] (codes "1er 1º 1°") ≡ tokens_after [] (codes "1 1 1")
  pub dutch : tokens_after [] (codes "3e 16e") ≡ tokens_after [] (codes "3 16")

-- ---- words around a date

pub record AreOtherWordsKnown : Type 0 where
  pub to : Reads (codes "to until till bis tot") (times 5 token.To)
  pub joining : Reads (codes "from or between and")
      (token.From ∷ token.Or ∷ token.Between ∷ token.And ∷ [])
  pub between_short : Reads (codes "BET betw.") (times 2 token.Between)
  pub before : Reads (codes "before ante BEF by")
      (token.Before ∷ token.Before ∷ token.Before ∷ token.By ∷ [])
  pub after : Reads (codes "after post AFT not")
      (token.After ∷ token.After ∷ token.After ∷ token.Not ∷ [])
  pub about : Reads (codes "about around approximately c. ca. circa ABT") (times 7 token.About)
  pub estimated : Reads (codes "EST CAL") (times 2 token.Estimated)
  pub doubt : Reads (codes "probably perhaps possibly") (times 3 token.Doubt)
  pub old_style : Reads (codes "O.S. OS old") (times 3 (token.Reckoning OldStyle))
  pub new_style : Reads (codes "N.S. NS new") (times 3 (token.Reckoning NewStyle))
  pub no : Reads (codes "no") (times 1 token.No)
  pub undated : Reads (codes "n.d. s.d. undated unknown") (times 4 token.Undated)
  pub blank : Reads (codes "XX") (times 1 token.Blank)
  pub fillers : Reads
      (codes "the of on in de del di le den der die dies anno date style feira")
      (times 16 token.Filler)

-- the words of the other languages are known
pub record AreOtherLanguagesKnown : Type 0 where
  pub to : Reads (codes "til") (times 1 token.To)
  pub or : Reads (codes "ou oder eller") (times 3 token.Or)
  pub and : Reads (codes "et und och og e y") (times 6 token.And)
  pub between : Reads (codes "zwischen entre tra tussen mellan mellem") (times 6 token.Between)
  pub before : Reads (codes "vor avant voor vóór före før antes") (times 7 token.Before)
  pub after : Reads (codes "nach après apres efter después despues depois dopo")
      (times 8 token.After)
  pub about : Reads (codes "vers environ etwa gegen cirka omstreeks omkring hacia")
      (times 8 token.About)
  pub old_style : Reads (codes "veteri vetere") (times 2 (token.Reckoning OldStyle))
  pub new_style : Reads (codes "novo") (times 1 (token.Reckoning NewStyle))
  pub undated : Reads
      (codes "undatiert udateret odaterat ohne sans senza sin sem zonder uden utan sine")
      (times 12 token.Undated)
  pub fillers : Reads
      (codes "dated ad domini stilo stylo am im vom von van från fra ce du en el "
      ++ codes "il li dì adì addì a ao aos d datum dato fecha data")
      (times 29 token.Filler)

-- ---- centuries

-- the word for a century, and Roman numerals that are not other words
pub record AreCenturiesKnown : Type 0 where
  pub century : Reads
      (codes "century cent jahrhundert jahrhunderts jh jhdt siècle siecle secolo sec "
      ++ codes "siglo século seculo eeuw århundrade århundradet århundrede saeculum "
      ++ codes "saeculo saec siglos siècles siecles secoli")
      (times 24 token.Century)
  pub numerals : Reads
      (codes "ii iii iv vii viii ix xi xii xiii xiv xv xvi xvii xviii xix xxi xxii "
      ++ codes "xxiii xxiv xxv xxvi xxvii xxviii xxix xxxi")
      (map token.Roman (2 ∷ 3 ∷ 4 ∷ 7 ∷ 8 ∷ 9 ∷ 11 ∷ 12 ∷ 13 ∷ 14 ∷ 15 ∷ 16
      ∷ 17 ∷ 18 ∷ 19 ∷ 21 ∷ 22 ∷ 23 ∷ 24 ∷ 25 ∷ 26 ∷ 27 ∷ 28 ∷ 29 ∷ 31 ∷ []))
  pub numerals_with_j : Reads
      (codes "ij iij vj vij viij xj xij xiij xvj xvij xviij xxj xxij xxiij xxvj "
      ++ codes "xxvij xxviij xxxj")
      (map token.Roman (2 ∷ 3 ∷ 6 ∷ 7 ∷ 8 ∷ 11 ∷ 12 ∷ 13 ∷ 16
      ∷ 17 ∷ 18 ∷ 21 ∷ 22 ∷ 23 ∷ 26 ∷ 27 ∷ 28 ∷ 31 ∷ []))
  pub numerals_without_nine : Reads
      (codes "iiii iiij viiii viiij xiiii xiiij xviiii xviiij xxiiii xxiiij xxviiii "
      ++ codes "xxviiij")
      (map token.Roman (4 ∷ 4 ∷ 9 ∷ 9 ∷ 14 ∷ 14 ∷ 19 ∷ 19 ∷ 24 ∷ 24 ∷ 29 ∷ 29 ∷ []))
  pub ordinals : Reads
      (codes "ixe xie xiie xiiie xive xve xvie xviie xviiie xixe xxe xxie")
      (map token.Roman (9 ∷ 11 ∷ 12 ∷ 13 ∷ 14 ∷ 15 ∷ 16 ∷ 17 ∷ 18 ∷ 19 ∷ 20 ∷ 21 ∷ []))

-- more words for a century, and those for a decade
pub record AreDecadesKnown : Type 0 where
  pub century : Reads
      (codes "centuries jahrhunderte jhd saeculi sæculo séc eeuwen århundredet årh "
      ++ codes "aarhundrede aarh sekel seklet")
      (times 13 token.Century)
  pub letter : Reads (codes "s") (times 1 token.CenturyLetter)
  pub tal : Reads (codes "talet tallet") (times 2 token.Tal)
  pub decade : Reads (codes "années annees década decada jaren") (times 5 token.Decade)
  pub fillers : Reads (codes "des jahr jahre jahren") (times 4 token.Filler)

-- ---- parts of a time

-- thirds and halves, and the seasons by their first months
pub record ArePeriodsKnown : Type 0 where
  pub first_third : Reads
      (codes "early beginning begin anfang début debut inizio principios "
      ++ codes "comienzos início inicio initio början begyndelsen")
      (times 14 (token.Portion portion.FirstThird))
  pub middle_third : Reads
      (codes "mid middle mitte milieu metà mediados meados midden medio mitten "
      ++ codes "midten")
      (times 11 (token.Portion portion.MiddleThird))
  pub last_third : Reads
      (codes "late end ende fin fine fines finales fim fins einde eind slutet "
      ++ codes "slutningen")
      (times 13 (token.Portion portion.LastThird))
  pub first : Reads
      (codes "first erste ersten première premiere primera primeira eerste "
      ++ codes "första første")
      (times 10 (token.Nth nth.First))
  pub second : Reads
      (codes "second zweite zweiten seconde deuxième deuxieme tweede andra "
      ++ codes "anden")
      (times 9 (token.Nth nth.Second))
  pub last : Reads
      (codes "last")
      (times 1 (token.Nth nth.Last))
  pub half : Reads
      (codes "half hälfte moitié moitie helft mitad metade hälften halvdel")
      (times 9 (token.Fraction fraction.Half))
  pub third : Reads
      (codes "third")
      (times 1 (token.Fraction fraction.Third))
  pub spring : Reads
      (codes "spring printemps frühling frühjahr primavera lente voorjaar vår "
      ++ codes "våren forår foråret")
      (times 11 (token.Season 3))
  pub summer : Reads
      (codes "summer été sommer verano estate verão zomer sommar sommaren "
      ++ codes "sommeren")
      (times 10 (token.Season 6))
  pub autumn : Reads
      (codes "autumn automne herbst otoño autunno outono herfst höst hösten "
      ++ codes "efterår efteråret")
      (times 11 (token.Season 9))
  pub winter : Reads
      (codes "winter hiver invierno inverno vinter vintern vinteren")
      (times 7 (token.Season 12))

-- ---- feasts

-- the names of feasts that are counted from Easter, and English names of some others. A name with
-- its weekday in it is that of the day
pub record AreFeastsKnown : Type 0 where
  pub english : Reads
      (codes "easter whitsun whitsunday pentecost ascension ash palm maundy good "
      ++ codes "whit trinity corpus christi day christmas michaelmas lady "
      ++ codes "martinmas candlemas saints midsummer epiphany lammas")
      (map token.Feast (word.Easter ∷ word.Whitsun ∷ word.Whitsun ∷ word.Whitsun ∷ word.Ascension ∷
      word.Ash ∷ word.Palm ∷ word.Maundy ∷ word.Good ∷ word.Whit ∷ word.Trinity ∷
      word.Corpus ∷ word.Christi ∷ word.Day ∷ word.Other ∷ word.Other ∷
      word.Other ∷ word.Other ∷ word.Other ∷ word.Other ∷ word.Other ∷ word.Other ∷
      word.Other ∷ []))
  pub german : Reads
      (codes "ostern ostersonntag ostermontag osterdienstag pfingsten "
      ++ codes "pfingstsonntag pfingstmontag pfingstdienstag aschermittwoch "
      ++ codes "palmsonntag gründonnerstag karfreitag charfreitag fronleichnam")
      (map token.Feast (word.Easter ∷ word.Easter ∷ word.Named feast.EasterMonday ∷
      word.Named feast.EasterTuesday ∷ word.Whitsun ∷ word.Whitsun ∷
      word.Named feast.WhitMonday ∷ word.Named feast.WhitTuesday ∷
      word.Named feast.AshWednesday ∷ word.Named feast.PalmSunday ∷
      word.Named feast.MaundyThursday ∷ word.Named feast.GoodFriday ∷
      word.Named feast.GoodFriday ∷ word.Named feast.CorpusChristi ∷ []))
  pub french : Reads
      (codes "pâques paques pentecôte pentecote")
      (map token.Feast (word.Easter ∷ word.Easter ∷ word.Whitsun ∷ word.Whitsun ∷ []))
  pub latin : Reads
      (codes "pascha pentecoste trinitatis")
      (map token.Feast (word.Easter ∷ word.Whitsun ∷ word.Named feast.Trinity ∷ []))
  pub dutch : Reads
      (codes "pasen paasmaandag pinksteren pinkstermaandag aswoensdag palmzondag")
      (map token.Feast (word.Easter ∷ word.Named feast.EasterMonday ∷ word.Whitsun ∷
      word.Named feast.WhitMonday ∷ word.Named feast.AshWednesday ∷
      word.Named feast.PalmSunday ∷ []))
  pub southern : Reads
      (codes "pasqua páscoa pascoa pentecostés")
      (map token.Feast (word.Easter ∷ word.Easter ∷ word.Easter ∷ word.Whitsun ∷ []))
  pub swedish : Reads
      (codes "påsk påskdagen pingst pingstdagen långfredagen")
      (map token.Feast (word.Easter ∷ word.Easter ∷ word.Whitsun ∷ word.Whitsun ∷
      word.Named feast.GoodFriday ∷ []))
  pub danish : Reads
      (codes "påske paaske pinse langfredag skærtorsdag")
      (map token.Feast (word.Easter ∷ word.Easter ∷ word.Whitsun ∷ word.Named feast.GoodFriday ∷
      word.Named feast.MaundyThursday ∷ []))

-- as a law: all these words are known
unfoldable pub AreWordsKnown : Type 0
AreWordsKnown =
    AreMonthsKnown × AreOtherMonthsKnown × AreMoreMonthsKnown × AreWeekdaysKnown
    × AreOtherWeekdaysKnown × AreOrdinalsKnown × AreOtherWordsKnown × AreOtherLanguagesKnown
    × AreMoreWordsKnown × AreCenturiesKnown × AreDecadesKnown × ArePeriodsKnown × AreFeastsKnown
