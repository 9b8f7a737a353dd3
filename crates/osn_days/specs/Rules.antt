-- The numbers and words of the rules, which a later version of the rules may change: this project's
-- profile.
use Rattle.std.specs.Prelude.{ℕ, Bool, true, false, List, [], ◌∷◌, codes}

pub record Rules : Type 0 where
  -- the last day of the line
  pub high : ℕ
  -- the last year that has figures, an Easter or an exception; the first is 1
  pub last_year : ℕ
  -- the last year of a label; the first is 0
  pub last_label_year : ℕ
  -- the words of `style` in a line
  pub style_words : List (List ℕ)
  -- whether an edit is refused if its style requires the Julian calendar and rule, and its regime
  -- has others
  pub tests_style : Bool

-- the rules of the first version, which stay for good
abbrev pub first_rules : Rules
first_rules = record {
  high = 1095362;
  last_year = 2999;
  last_label_year = 3000;
  style_words =
      codes "january" ∷ codes "annunciation" ∷ codes "nativity" ∷ codes "september" ∷ [];
  tests_style = false;
}

-- the rules of the newest version
abbrev pub newest_rules : Rules
newest_rules = record {
  high = 3652059;
  last_year = 9999;
  last_label_year = 10000;
  style_words =
      codes "january" ∷ codes "annunciation" ∷ codes "nativity" ∷ codes "september"
      ∷ codes "pisan" ∷ codes "easter" ∷ [];
  tests_style = true;
}
