-- The words of the rules of Easter, in a line and in a reply: this project's profile.
use Rattle.std.specs.Prelude.{ℕ, List, [], ◌∷◌, codes, Option}
use Rattle.osn_days.specs.Keyword.{written_by}
use Rattle.osn_computus.specs.declared.rule.Rule.{Rule}
use Rattle.osn_computus.specs.declared.rule.Rule.TheVariants.{Julian, Gregorian}

abbrev pub rule_word : Rule → List ℕ
rule_word Julian = codes "julian"
rule_word Gregorian = codes "gregorian"

-- the rule that is written by a word
abbrev pub rule_named : List ℕ → Option Rule
rule_named = written_by rule_word (Julian ∷ Gregorian ∷ [])
