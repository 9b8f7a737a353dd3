-- A range of days after its month: May 3-10, 1640. This project's profile.
use Rattle.std.specs.Prelude.{Bool, true, false, not, ◌&&◌, List, [], ◌∷◌}
use Rattle.osn_grammar.specs.declared.token.Token.{Token}
use Rattle.osn_grammar.specs.declared.token.Token.TheVariants.{Number, Month, Dash, To, Or}
use Rattle.osn_grammar.specs.Simple.{is_long}

-- what is between the two days
abbrev pub joins_days : Token → Bool
joins_days Dash = true
joins_days To = true
joins_days Or = true
joins_days _ = false

-- a month, and two days with that between them
abbrev pub has_month_first : List Token → Bool
has_month_first (Month m ∷ Number first ∷ token ∷ Number last ∷ years) =
    joins_days token && (not (is_long first) && not (is_long last))
has_month_first _ = false

-- these parts with the month after the days: 3-10 May 1640
abbrev pub month_moved : List Token → List Token
month_moved (month ∷ first ∷ token ∷ last ∷ years) = first ∷ token ∷ last ∷ month ∷ years
month_moved _ = []
