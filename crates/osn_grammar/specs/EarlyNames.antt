-- Months as earlier hands wrote them, and words of genealogists. This project's profile.
use Rattle.std.specs.Prelude.{◌≡◌, ℕ, List, [], ◌∷◌, ◌++◌, map, codes}
use Rattle.std.specs.List.{range_with_len}
use Rattle.osn_grammar.specs.declared.token.Token.{Token}
use Rattle.osn_grammar.specs.declared.token.Token.TheVariants as token
use Rattle.osn_written.specs.declared.portion.Portion.TheVariants.{MiddleThird}
use Rattle.osn_written.specs.declared.any_date.Reckoning.TheVariants.{OldStyle, NewStyle}
use Rattle.osn_grammar.specs.Scan.{tokens_after}

-- the characters have these parts
abbrev pub Reads : List ℕ → List Token → Type 0
Reads text tokens = tokens_after [] text ≡ tokens

-- as often as this
abbrev pub times : ℕ → Token → List Token
times n p = map (λ _. p) (range_with_len 0 n)

-- more of them: with v for u and u for v, with doubled letters, and other contracted and old names
pub record AreMoreMonthsKnown : Type 0 where
  pub january : Reads
      (codes "ianvary ianvarie ianvarii ianvarij ianvarius janvarii janvarij "
      ++ codes "janvarius henero")
      (times 9 (token.Month 1))
  pub february : Reads
      (codes "ffeb ffebr ffebry ffebruarie ffebruarye ffebruarij febrvary "
      ++ codes "febrvarii febrvarij")
      (times 9 (token.Month 2))
  pub march : Reads
      (codes "martz mart marcius marcio lenzing tormåned tormaaned")
      (times 7 (token.Month 3))
  pub april : Reads
      (codes "aprell apprill apryl apprilis abrill")
      (times 5 (token.Month 4))
  pub may : Reads
      (codes "meij meye bloeymaand")
      (times 3 (token.Month 5))
  pub june : Reads
      (codes "ivne ivnij ivnii ivni ivny jvne jvnij jvnii jvni jvny junye "
      ++ codes "iunye junie iunie giugnio brachet somermaand")
      (times 17 (token.Month 6))
  pub july : Reads
      (codes "ivly ivlij ivlii ivli jvly jvlij jvlii jvli jvlie ivlie heuet "
      ++ codes "heuert")
      (times 12 (token.Month 7))
  pub august : Reads
      (codes "avgust avgvst augvst avgusti avgvsti augvsti aoûst agoust "
      ++ codes "ernting augstmonat")
      (times 10 (token.Month 8))
  pub september : Reads
      (codes "sepbr septber vijber vijbris vijbre setembre setienbre "
      ++ codes "scheiding")
      (times 8 (token.Month 9))
  pub october : Reads
      (codes "octber oktbr oktob oktobr viijber viijbris viijbre otubre "
      ++ codes "gilbhart sædemåned sædemaaned")
      (times 11 (token.Month 10))
  pub november : Reads
      (codes "nouemb nouembr novenbre nouiembre nouembri nouembro nebelung")
      (times 7 (token.Month 11))
  pub december : Reads
      (codes "dezbr dezemb dezembr decenbre diziembre julmond")
      (times 6 (token.Month 12))

-- words of genealogists, of other languages and of earlier hands
pub record AreMoreWordsKnown : Type 0 where
  pub bounds : Reads (codes "earlier later than") (token.Earlier ∷ token.Later ∷ token.Than ∷ [])
  pub fillers : Reads (codes "ye mensis month mois monats em") (times 6 token.Filler)
  pub middle : Reads (codes "mi") (times 1 (token.Portion MiddleThird))
  pub doubt : Reads
      (codes "wohl vermutlich wahrscheinlich probablement waarschijnlijk prob poss")
      (times 7 token.Doubt)
  pub about : Reads (codes "cerca approx") (times 2 token.About)
  pub estimated : Reads (codes "um") (times 1 token.Estimated)
  pub interpreted : Reads (codes "INT") (times 1 token.Interpreted)
  pub old_style : Reads (codes "@#DJULIAN@ Julian") (times 2 (token.Reckoning OldStyle))
  pub new_style : Reads (codes "@#DGREGORIAN@ Gregorian") (times 2 (token.Reckoning NewStyle))
  pub from : Reads (codes "desde dal since seit depuis sinds sedan") (times 7 token.From)
  pub to : Reads (codes "hasta") (times 1 token.To)
  pub to_the : Reads (codes "au al") (times 2 token.ToThe)
  pub first : tokens_after [] (codes "primo") ≡ tokens_after [] (codes "1")
  pub tens : Reads (codes "0X 1X 2X 3X") (map token.Tens (0 ∷ 1 ∷ 2 ∷ 3 ∷ []))
  pub letters : Reads (codes "i v x") (map token.RomanLetter (1 ∷ 5 ∷ 10 ∷ []))
  pub six : Reads (codes "vi") (times 1 (token.Roman 6))
  pub and : Reads (codes "&") (times 1 token.And)
