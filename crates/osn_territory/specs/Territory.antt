-- Territories as lists of start days with their regimes, and the days that labels mean in them:
-- this project's profile.
use Rattle.std.specs.Prelude.{◌≡◌, ℕ, ◌+◌, ◌-◌, ◌*◌, ◌^◌, ◌≤◌, Bool, true, false, not, ◌&&◌, ◌||◌}
use Rattle.std.specs.Prelude.{nat_le, nat_lt, if◌then◌else◌, List, [], ◌∷◌, filter, fold}
use Rattle.std.specs.List.{list_any}
use Rattle.osn_computus.specs.declared.rule.Rule.TheVariants as Easter
use Rattle.osn_days.specs.declared.calendar.Calendar.TheVariants as Calendar
use Rattle.osn_days.specs.Rules.{Rules}
use Rattle.osn_days.specs.Line.{line}
use Rattle.osn_territory.specs.declared.style.Style.TheVariants as Style
use Rattle.osn_territory.specs.declared.regime.Regime.{Regime}
use Rattle.osn_territory.specs.declared.label.Label.{Label}
use Rattle.osn_territory.specs.declared.period.Period.{Period}
use Rattle.osn_territory.specs.Label.{local_label, same_label, days_with_label}

-- the start days in ascending order, each with its regime, the first on day 1. Then the years with
-- a listed exception in ascending order, each with its Easter day
pub record TerritoryModel : Type 0 where
  pub starts : List (ℕ × Regime)
  pub exceptions : List (ℕ × ℕ)

-- a territory with one regime on every day
abbrev pub of_one_regime : Regime → TerritoryModel
of_one_regime regime = record { starts = (1, regime) ∷ []; exceptions = [] }

-- the regime without any start; each territory has a start
abbrev pub no_start : Regime
no_start = record { calendar = Calendar.Gregorian; style = Style.January; rule = Easter.Gregorian }

-- the regime in force on a day: that of the greatest start day not after it
abbrev pub regime_at : TerritoryModel → ℕ → Regime
regime_at t d = fold (λ before s. if nat_le s.0 d then s.1 else before) no_start t.starts

-- the last day of a period that these starts follow
abbrev pub last_before : ℕ → List (ℕ × Regime) → ℕ
last_before high [] = high
last_before high (next ∷ rest) = next.0 - 1

abbrev pub periods_from : ℕ → List (ℕ × Regime) → List Period
periods_from high [] = []
periods_from high (s ∷ rest) =
    record { first = s.0; last = last_before high rest; regime = s.1 } ∷ periods_from high rest

-- the periods, in order: each from its start to the day before the next start, or to the end of the
-- line
abbrev pub periods_of : Rules → TerritoryModel → List Period
periods_of p t = periods_from p.high t.starts

-- the period holds the day
abbrev pub Holds : ℕ → Period → Type 0
Holds d p = (p.first ≤ d) × (d ≤ p.last)

-- the periods cover the days from the first to the last, each once and in order, and each has a day
abbrev pub Covers : ℕ → ℕ → List Period → Type 0
Covers first last [] = first ≡ last + 1
Covers first last (p ∷ ps) = (p.first ≡ first) × (p.first ≤ p.last) × Covers (p.last + 1) last ps

-- the periods cover the line
abbrev pub CoversLine : Rules → List Period → Type 0
CoversLine p ps = Covers 1 p.high ps

-- the count is at most the number of binary digits of n, which are k from 2 ^ (k - 1) to 2 ^ k - 1
abbrev pub IsWithinBinaryDigits : ℕ → ℕ → Type 0
IsWithinBinaryDigits count n = 2 ^ count ≤ 2 * n

-- the days that the territory dates with the label, in order
unfoldable pub reading : Rules → TerritoryModel → Label → List ℕ
reading p t label = filter (λ d. same_label (local_label p (regime_at t d) d) label) (line p)

abbrev pub is_empty : List ℕ → Bool
is_empty [] = true
is_empty (d ∷ ds) = false

-- whether the label is skipped at the change from an old period to a new one, if both regimes have
-- it on these days and it is read on those
abbrev pub is_skipped_between : Period → Period → List ℕ → List ℕ → List ℕ → Bool
is_skipped_between old new old_days new_days read_days =
    (list_any (λ d. nat_le new.first d) old_days || is_empty old_days)
    && ((list_any (λ d. nat_lt d new.first) new_days || is_empty new_days)
    && (not (is_empty old_days && is_empty new_days)
    && not (list_any (λ d. nat_le old.first d && nat_le d new.last) read_days)))

abbrev pub is_skipped_at : Rules → TerritoryModel → Label → Period → Period → Bool
is_skipped_at p t label old new =
    is_skipped_between old new (days_with_label p old.regime label)
    (days_with_label p new.regime label) (reading p t label)

-- the start days, of the periods that follow an old one, at which the label is skipped
abbrev pub skipped_after : Rules → TerritoryModel → Label → Period → List Period → List ℕ
skipped_after p t label old [] = []
skipped_after p t label old (new ∷ rest) =
    if is_skipped_at p t label old new then new.first ∷ skipped_after p t label new rest
    else skipped_after p t label new rest

abbrev pub skipped_among : Rules → TerritoryModel → Label → List Period → List ℕ
skipped_among p t label [] = []
skipped_among p t label (opening ∷ rest) = skipped_after p t label opening rest

-- the days of the changes at which the label is skipped, in order
abbrev pub skipped : Rules → TerritoryModel → Label → List ℕ
skipped p t label = skipped_among p t label (periods_of p t)

-- the regime of some period has the label on some day of the line
abbrev pub is_dated : Rules → TerritoryModel → Label → Bool
is_dated p t label = list_any (λ s. not (is_empty (days_with_label p s.1 label))) t.starts

-- a date that is missing is explained: one that is read on no day, and that some regime of the
-- territory has, is skipped at a change
abbrev pub IsExplained : Rules → TerritoryModel → Label → List ℕ → Type 0
IsExplained p t label skipped_at =
    is_empty (reading p t label) ≡ true → is_dated p t label ≡ true → is_empty skipped_at ≡ false
