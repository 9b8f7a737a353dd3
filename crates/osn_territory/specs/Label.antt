-- Labels, the dates as a territory writes them: this project's profile.
use Rattle.std.specs.Prelude.{ℕ, Bool, ◌&&◌, ◌==◌, List, [], ◌∷◌, filter, Option, Some, None}
use Rattle.std.specs.Ordering.{int_eq}
use Rattle.osn_days.specs.Rules.{Rules}
use Rattle.osn_days.specs.Line.{line}
use Rattle.osn_days.specs.Chain.{date_of}
use Rattle.osn_territory.specs.declared.regime.Regime.{Regime}
use Rattle.osn_territory.specs.declared.label.Label.{Label}
use Rattle.osn_territory.specs.Style.{style_year}

-- the label of a day: the year by the regime's style, month and day by its calendar
abbrev pub local_label : Rules → Regime → ℕ → Label
local_label p regime d = record {
  year = style_year p regime d;
  month = (date_of regime.calendar d).month;
  day = (date_of regime.calendar d).day;
}

-- the two labels are one
abbrev pub same_label : Label → Label → Bool
same_label a b = int_eq a.year b.year && ((a.month == b.month) && (a.day == b.day))

-- the days of the line that have the label
unfoldable pub days_with_label : Rules → Regime → Label → List ℕ
days_with_label p regime label = filter (λ d. same_label (local_label p regime d) label) (line p)

-- the least of days in order, then the other one
abbrev pub first_two : List ℕ → List (Option ℕ)
first_two [] = None ∷ None ∷ []
first_two (a ∷ []) = Some a ∷ None ∷ []
first_two (a ∷ b ∷ ds) = Some a ∷ Some b ∷ []
