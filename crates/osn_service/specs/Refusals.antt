-- Which lines are refused, and the first of them.
use Rattle.std.specs.Prelude.{◌≡◌, ℕ, true, false, List, [], ◌∷◌, ◌++◌, take}
use Rattle.osn_core.specs.Sequential.{ObjectState}
use Rattle.osn_service.specs.Outcome.{is_refused}
use Rattle.osn_service.specs.declared.rules.ServeRules.{ServeRules}
use Rattle.osn_service.specs.Served.{after_lines}
use Rattle.osn_service.specs.Session.{line_outcome, line_after}

-- no line of these is refused, from an object on
abbrev pub NoneRefused : ServeRules → ObjectState → List (List ℕ) → Type 0
NoneRefused rules s [] = Unit {0}
NoneRefused rules s (line ∷ rest) =
    (is_refused (line_outcome rules s line) ≡ false)
    × NoneRefused rules (line_after rules s line) rest

-- the last of the first n lines is refused, and none before it
pub record IsFirstRefused (rules : ServeRules) (s : ObjectState) (lines : List (List ℕ)) (n : ℕ)
    : Type 0 where
  pub before : List (List ℕ)
  pub line : List ℕ
  pub split : take n lines ≡ before ++ line ∷ []
  pub none : NoneRefused rules s before
  pub refused : is_refused (line_outcome rules (after_lines rules s before) line) ≡ true
