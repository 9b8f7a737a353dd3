-- What the newest rules answer if the first rules have the year or the day.
use Rattle.std.proofs.Common.{◌≡◌, ℕ, zero, suc, ◌+◌, ◌-◌, ◌≤◌, Bool, true, false, not, ◌&&◌}
use Rattle.std.proofs.Common.{nat_le, if◌then◌else◌, List, [], ◌∷◌, map, filter, Option, Some, None}
use Rattle.std.proofs.Common.{refl, sym, ap, ◌∙◌, arith, ℤ, pos, ◌≤ℤ◌, unsigned_abs, IfSome}
use Rattle.std.proofs.Common.{negsuc, is_some, option_map}
use Rattle.std.proofs.lemmas.Bool.{and_from, le-leb, leb-true}
use Rattle.std.specs.List.{range_with_len}
use Rattle.std.proofs.lemmas.Int.{ints}
use Rattle.osn_computus.specs.declared.rule.Rule.TheVariants as rule
use Rattle.osn_computus.proofs.EarlierEasters.{same_easter}
use Rattle.osn_computus.proofs.EarlierLetters.{same_letters}
use Rattle.osn_days.specs.declared.calendar.Calendar.TheVariants as calendar
use Rattle.osn_days.specs.Rules.{Rules, first_rules, newest_rules}
use Rattle.osn_days.specs.Line.{line, IsOnLine, IsYear, IsYearNumber}
use Rattle.osn_territory.specs.declared.regime.Regime.{Regime}
use Rattle.osn_territory.specs.declared.label.Label.{Label}
use Rattle.osn_territory.specs.declared.period.Period.{Period}
use Rattle.osn_territory.specs.Label.{local_label}
use Rattle.osn_territory.specs.Dual.{dual_text}
use Rattle.osn_territory.specs.Territory.{TerritoryModel, regime_at, periods_of, periods_from}
use Rattle.osn_territory.specs.Territory.{reading}
use Rattle.osn_territory.specs.Exceptions.{exception_of}
use Rattle.osn_territory.specs.Easters.{is_easter, easters_by_rule, unless_listed}
use Rattle.osn_territory.specs.EarlierRules.{days_of_line}
use Rattle.osn_territory.proofs.EarlierRulesFacts.{same_local, same_text, same_reading}
use Rattle.osn_territory.proofs.EarlierRulesFacts.{same_easters, plain_year}
use Rattle.osn_register.specs.declared.query.Query.{Query}
use Rattle.osn_register.specs.declared.query.Query.TheVariants as queries
use Rattle.osn_register.specs.declared.answer.Answer.{Answer}
use Rattle.osn_register.specs.declared.answer.Answer.TheVariants.{Easters}
use Rattle.osn_register.specs.declared.answer.Found.{Found}
use Rattle.osn_register.specs.declared.refusal.Refusal.{Refusal}
use Rattle.osn_register.specs.declared.refusal.Refusal.TheVariants.{DayOffLine, YearOffRange}
use Rattle.osn_register.specs.declared.refusal.Refusal.TheVariants.{BadDate}
use Rattle.osn_register.specs.Refusal.{first_refusal, or_else}
use Rattle.osn_register.specs.Plain.{EntryModel, territory_of, sources_of, code_refusal}
use Rattle.osn_register.specs.Plain.{is_between}
use Rattle.osn_register.specs.Sources.{SourcesModel}
use Rattle.osn_register.specs.Answer.{and_source, period_source, easter_source}
use Rattle.osn_register.specs.Answer.{answer, unless, found_under, found_on, period_on}
use Rattle.osn_register.specs.Answer.{on_day, day_answer, reading_answer, easters_answer}
use Rattle.osn_register.specs.Answer.{figures_of, periods_answer, exceptions_answer, label_from}
use Rattle.osn_register.specs.Answer.{changes_answer, feasts_answer, converted_answer}
use Rattle.osn_register.specs.QueryRefusal.{date_refusal, read_refusal, day_refusal, year_refusal}
use Rattle.osn_register.specs.QueryRefusal.{easter_refusal}
use Rattle.osn_register.specs.Answer.{written_answer, refusal_in}
use Rattle.osn_register.proofs.RefusedAlike.{keeps_exceptions, keeps_changes, keeps_feasts}
use Rattle.osn_register.proofs.RefusedAlike.{keeps_converted, keeps_written, refused_unless}
use Rattle.osn_register.proofs.RefusedAlike.{refused_alike}
use Rattle.osn_register.specs.EarlierRules.{start_of, found_until, IsLabelYear, IsListedUntil}
use Rattle.osn_register.specs.EarlierRules.{KeepsReading, KeepsDay, KeepsAnswer}

-- both rules test numbers alike

between : (low high : ℕ) (z : ℤ) → pos low ≤ℤ z → z ≤ℤ pos high
    → is_between (pos low) (pos high) z ≡ true
between low high (pos n) from until =
    and_from (nat_le low n) (nat_le n high) (le-leb low n (omega (arith, ints, from)))
    (le-leb n high (omega (arith, ints, until)))
between low high (negsuc n) from until = absurd (omega (arith, ints, from))

-- a number within a range is within one that goes on longer
both_between : (low high more : ℕ) (z : ℤ) → high ≤ more → (pos low ≤ℤ z) × (z ≤ℤ pos high)
    → is_between (pos low) (pos more) z ≡ is_between (pos low) (pos high) z
both_between low high more z longer within =
    between low more z within.0 (omega (arith, ints, within.1))
    ∙ sym (between low high z within.0 within.1)

same_years : (y : ℤ) → IsYearNumber first_rules y
    → year_refusal newest_rules y ≡ year_refusal first_rules y
same_years y year =
    ap (λ b. first_refusal ((not b, YearOffRange) ∷ []))
    (both_between 1 first_rules.last_year newest_rules.last_year y (omega arith) year)

same_days : (territories : List EntryModel) (code : List ℕ) (day : ℤ) → IsOnLine first_rules day
    → day_refusal newest_rules territories code day ≡ day_refusal first_rules territories code day
same_days territories code day on =
    ap (λ b. or_else (code_refusal territories code) (first_refusal ((not b, DayOffLine) ∷ [])))
    (both_between 1 first_rules.high newest_rules.high day (omega arith) on)

same_dates : (y m d : ℤ) → IsLabelYear first_rules y
    → date_refusal newest_rules y m d ≡ date_refusal first_rules y m d
same_dates y m d year =
    ap (λ b. first_refusal (
    (not b, YearOffRange)
    ∷ (not (is_between (pos 1) (pos 12) m && is_between (pos 1) (pos 31) d), BadDate)
    ∷ []))
    (both_between 0 first_rules.last_label_year newest_rules.last_label_year y (omega arith) year)

-- a day of the first rules is named alike

same_on_day : (r : Regime) (d : ℕ) → d ≤ first_rules.high
    → found_under newest_rules r d ≡ found_under first_rules r d
same_on_day r d until =
    ap (λ (l : Label). let f : Found = record {
      day = d;
      label = l;
      dual = dual_text newest_rules r d;
    } in f) (sym (same_local r d until))
    ∙ ap (λ (text : List ℕ). let f : Found = record {
      day = d;
      label = local_label first_rules r d;
      dual = text;
    } in f) (sym (same_text r d until))

days_step : (t : TerritoryModel) (d : ℕ) (days rest : List ℕ) (here : Bool)
    → nat_le d first_rules.high ≡ here
    → found_until first_rules (map (found_on newest_rules t) days)
    ≡ map (found_on first_rules t) rest
    → (if here
    then found_on newest_rules t d ∷ found_until first_rules (map (found_on newest_rules t) days)
    else found_until first_rules (map (found_on newest_rules t) days))
    ≡ map (found_on first_rules t) (if here then d ∷ rest else rest)
days_step t d days rest true here later =
    ap (λ fs. found_on newest_rules t d ∷ fs) later
    ∙ ap (λ f. f ∷ map (found_on first_rules t) rest)
    (same_on_day (regime_at t d) d (leb-true d first_rules.high here))
days_step t d days rest false here later = later

days_of_both : (t : TerritoryModel) (days : List ℕ)
    → found_until first_rules (map (found_on newest_rules t) days)
    ≡ map (found_on first_rules t) (days_of_line first_rules days)
days_of_both t [] = refl
days_of_both t (d ∷ days) =
    days_step t d days (days_of_line first_rules days) (nat_le d first_rules.high) refl
    (days_of_both t days)

-- the answer to a reading keeps that of the first rules

keeps_reading : (t : Option TerritoryModel) (label : Label)
    → KeepsReading first_rules (reading_answer first_rules t label)
    (reading_answer newest_rules t label)
keeps_reading None label = (refl, refl)
keeps_reading (Some t) label = (
  refl,
  days_of_both t (reading newest_rules t label)
      ∙ ap (map (found_on first_rules t)) (same_reading t label),
)

reading_unless : (p : Rules) (now_refused refused : Option Refusal) (now before : Answer)
    → now_refused ≡ refused → KeepsReading p before now
    → KeepsReading p (unless refused before) (unless now_refused now)
reading_unless p None None now before same kept = kept
reading_unless p (Some f) (Some g) now before same kept = (same, refl)
reading_unless p None (Some g) now before same kept = absurd cc
reading_unless p (Some f) None now before same kept = absurd cc

-- the answer about a day keeps that of the first rules

-- a period without its last day
abbrev begin_of : Period → ℕ × Regime
begin_of period = (period.first, period.regime)

alike_step : (here : Bool) (one other : Period) (many others : Option Period)
    → begin_of one ≡ begin_of other → option_map begin_of many ≡ option_map begin_of others
    → option_map begin_of (if here then Some one else many)
    ≡ option_map begin_of (if here then Some other else others)
alike_step true one other many others same later = ap Some same
alike_step false one other many others same later = later

-- the period that holds a day of both lines starts on one day, with one regime
same_period : (high more d : ℕ) (starts : List (ℕ × Regime)) → d ≤ high → d ≤ more
    → option_map begin_of (period_on (periods_from more starts) d)
    ≡ option_map begin_of (period_on (periods_from high starts) d)
same_period high more d [] until longer = refl
same_period high more d (s ∷ []) until longer =
    rw (le-leb d high until, le-leb d more longer)
    (alike_step (nat_le s.0 d && true) (record { first = s.0; last = more; regime = s.1 })
    (record { first = s.0; last = high; regime = s.1 }) None None refl refl)
same_period high more d (s ∷ next ∷ rest) until longer =
    let one : Period = record { first = s.0; last = next.0 - 1; regime = s.1 } in
    alike_step (nat_le s.0 d && nat_le d (next.0 - 1)) one one
    (period_on (periods_from more (next ∷ rest)) d)
    (period_on (periods_from high (next ∷ rest)) d) refl
    (same_period high more d (next ∷ rest) until longer)

-- a period with its source starts on the same day under both lines
and_start : (sources : Option SourcesModel) (one other : Period) → begin_of one ≡ begin_of other
    → start_of (and_source sources one) ≡ start_of (and_source sources other)
and_start sources one other same =
    ap (λ (b : ℕ × Regime). let s : ℕ × Regime × Option (List ℕ) =
    (b.0, b.1, period_source sources b.0) in s) same

keeps_on_day : (sources : Option SourcesModel) (one other : Option Period) (found before : Found)
    → option_map begin_of one ≡ option_map begin_of other → found ≡ before
    → KeepsDay (on_day sources other before) (on_day sources one found)
keeps_on_day sources None None found before same named = (refl, refl, refl)
keeps_on_day sources (Some p) (Some q) found before same named =
    let start : begin_of p ≡ begin_of q = cc in
    (refl, ap (λ f. f ∷ []) named, ap (λ s. s ∷ []) (and_start sources p q start))
keeps_on_day sources None (Some q) found before same named = absurd cc
keeps_on_day sources (Some p) None found before same named = absurd cc

keeps_day : (t : Option TerritoryModel) (sources : Option SourcesModel) (d : ℕ)
    → d ≤ first_rules.high
    → KeepsDay (day_answer first_rules t sources d) (day_answer newest_rules t sources d)
keeps_day None sources d until = (refl, refl, refl)
keeps_day (Some t) sources d until =
    keeps_on_day sources (period_on (periods_of newest_rules t) d)
    (period_on (periods_of first_rules t) d)
    (found_on newest_rules t d) (found_on first_rules t d)
    (same_period first_rules.high newest_rules.high d t.starts until (omega arith))
    (same_on_day (regime_at t d) d until)

day_unless : (now_refused refused : Option Refusal) (now before : Answer) → now_refused ≡ refused
    → KeepsDay before now → KeepsDay (unless refused before) (unless now_refused now)
day_unless None None now before same kept = kept
day_unless (Some f) (Some g) now before same kept = (same, refl, refl)
day_unless None (Some g) now before same kept = absurd cc
day_unless (Some f) None now before same kept = absurd cc

-- the starts of periods, each with its source
starts_cited : (sources : Option SourcesModel) (high more : ℕ) (starts : List (ℕ × Regime))
    → map start_of (map (and_source sources) (periods_from more starts))
    ≡ map start_of (map (and_source sources) (periods_from high starts))
starts_cited sources high more [] = refl
starts_cited sources high more (s ∷ []) = refl
starts_cited sources high more (s ∷ next ∷ rest) =
    ap (λ ss. (s.0, s.1, period_source sources s.0) ∷ ss)
    (starts_cited sources high more (next ∷ rest))

keeps_periods : (t : Option TerritoryModel) (sources : Option SourcesModel)
    → KeepsDay (periods_answer first_rules t sources) (periods_answer newest_rules t sources)
keeps_periods None sources = (refl, refl, refl)
keeps_periods (Some t) sources = (
  refl,
  refl,
  starts_cited sources first_rules.high newest_rules.high t.starts,
)

-- the Easters of a year are those of the first rules

one_named : (t : TerritoryModel) (d : ℕ) → d ≤ first_rules.high
    → map (found_on newest_rules t) (d ∷ []) ≡ map (found_on first_rules t) (d ∷ [])
one_named t d until = ap (λ f. f ∷ []) (same_on_day (regime_at t d) d until)

-- the days of a range are named alike if each is a day of the first rules
step_named : (t : TerritoryModel) (a : ℕ) (here : Bool) (days : List ℕ)
    → a ≤ first_rules.high
    → map (found_on newest_rules t) days ≡ map (found_on first_rules t) days
    → map (found_on newest_rules t) (if here then a ∷ days else days)
    ≡ map (found_on first_rules t) (if here then a ∷ days else days)
step_named t a true days until later =
    ap (λ fs. found_on newest_rules t a ∷ fs) later
    ∙ ap (λ f. f ∷ map (found_on first_rules t) days) (same_on_day (regime_at t a) a until)
step_named t a false days until later = later

range_named : (t : TerritoryModel) (test : ℕ → Bool) (a n : ℕ) → a + n ≤ first_rules.high + 1
    → map (found_on newest_rules t) (filter test (range_with_len a n))
    ≡ map (found_on first_rules t) (filter test (range_with_len a n))
range_named t test a zero until = refl
range_named t test a (suc n) until =
    step_named t a (test a) (filter test (range_with_len (a + 1) n)) (omega arith)
    (range_named t test (a + 1) n (omega arith))

line_named : (p : Rules) (t : TerritoryModel) (test : ℕ → Bool) → p.high ≤ first_rules.high
    → map (found_on newest_rules t) (filter test (line p))
    ≡ map (found_on first_rules t) (filter test (line p))
unfolding line
line_named p t test until = range_named t test 1 p.high (omega arith)

rules_named : (t : TerritoryModel) (y : ℕ)
    → map (found_on newest_rules t) (easters_by_rule first_rules t y)
    ≡ map (found_on first_rules t) (easters_by_rule first_rules t y)
unfolding easters_by_rule
rules_named t y =
    line_named first_rules t (λ d. is_easter first_rules (regime_at t d).rule y d) (omega arith)

easters_named : (t : TerritoryModel) (y : ℕ) (listed : Option ℕ)
    → IfSome listed (λ d. d ≤ first_rules.high)
    → map (found_on newest_rules t) (unless_listed listed (easters_by_rule first_rules t y))
    ≡ map (found_on first_rules t) (unless_listed listed (easters_by_rule first_rules t y))
easters_named t y None until = rules_named t y
easters_named t y (Some d) until = one_named t d until

keeps_easters : (t : Option TerritoryModel) (sources : Option SourcesModel) (y : ℕ)
    → IsYear first_rules y → IsListedUntil first_rules y t
    → easters_answer newest_rules t sources y ≡ easters_answer first_rules t sources y
keeps_easters None sources y year listed = refl
keeps_easters (Some t) sources y year listed =
    ap (λ days. Easters (map (found_on newest_rules t) days) (is_some (exception_of t y))
    (easter_source sources y)) (same_easters t y year)
    ∙ ap (λ found. Easters found (is_some (exception_of t y)) (easter_source sources y))
    (easters_named t y (exception_of t y) listed)

-- the figures of a year are those of the first rules

keeps_figures : (y : ℕ) → IsYear first_rules y
    → figures_of newest_rules y ≡ figures_of first_rules y
keeps_figures y year =
    rw (
      same_letters calendar.Julian y year,
      same_letters calendar.Gregorian y year,
      same_easter rule.Julian y year,
      same_easter rule.Gregorian y year,
    ) refl

same_unless : (now_refused refused : Option Refusal) (now before : Answer) → now_refused ≡ refused
    → now ≡ before → unless now_refused now ≡ unless refused before
same_unless now_refused refused now before same kept = ap (λ r. unless r now) same
    ∙ ap (unless refused) kept

-- the answer to a query keeps the first rules' answer
pub keeps_answer : (territories : List EntryModel) (q : Query)
    → KeepsAnswer first_rules territories q (answer newest_rules territories q)
keeps_answer territories (queries.Read code year month day) =
    λ within. reading_unless first_rules (read_refusal newest_rules territories code year month day)
    (read_refusal first_rules territories code year month day)
    (reading_answer newest_rules (territory_of code territories) (label_from year month day))
    (reading_answer first_rules (territory_of code territories) (label_from year month day))
    (ap (or_else (code_refusal territories code)) (same_dates year month day within))
    (keeps_reading (territory_of code territories) (label_from year month day))
keeps_answer territories (queries.DayIn code day) =
    λ on. day_unless (day_refusal newest_rules territories code day)
    (day_refusal first_rules territories code day)
    (day_answer newest_rules (territory_of code territories) (sources_of code territories)
    (unsigned_abs day))
    (day_answer first_rules (territory_of code territories) (sources_of code territories)
    (unsigned_abs day)) (same_days territories code day on)
    (keeps_day (territory_of code territories) (sources_of code territories) (unsigned_abs day)
    (omega (arith, ints, on)))
keeps_answer territories (queries.Easter code year) =
    λ within listed. same_unless (easter_refusal newest_rules territories code year)
    (easter_refusal first_rules territories code year)
    (easters_answer newest_rules (territory_of code territories) (sources_of code territories)
    (unsigned_abs year))
    (easters_answer first_rules (territory_of code territories) (sources_of code territories)
    (unsigned_abs year))
    (ap (or_else (code_refusal territories code)) (same_years year within))
    (keeps_easters (territory_of code territories) (sources_of code territories) (unsigned_abs year)
    (plain_year year within) listed)
keeps_answer territories (queries.YearFigures year) =
    λ within. same_unless (year_refusal newest_rules year) (year_refusal first_rules year)
    (figures_of newest_rules (unsigned_abs year)) (figures_of first_rules (unsigned_abs year))
    (same_years year within) (keeps_figures (unsigned_abs year) (plain_year year within))
keeps_answer territories queries.Lands = refl
keeps_answer territories (queries.Periods code) =
    day_unless (code_refusal territories code) (code_refusal territories code)
    (periods_answer newest_rules (territory_of code territories) (sources_of code territories))
    (periods_answer first_rules (territory_of code territories) (sources_of code territories)) refl
    (keeps_periods (territory_of code territories) (sources_of code territories))
keeps_answer territories (queries.Exceptions code) =
    refused_unless (code_refusal territories code)
    (exceptions_answer newest_rules (territory_of code territories) (sources_of code territories))
    (exceptions_answer first_rules (territory_of code territories) (sources_of code territories))
    (keeps_exceptions (territory_of code territories) (sources_of code territories))
keeps_answer territories (queries.Changes code) =
    refused_unless (code_refusal territories code)
    (changes_answer newest_rules (territory_of code territories) (sources_of code territories))
    (changes_answer first_rules (territory_of code territories) (sources_of code territories))
    (keeps_changes (territory_of code territories) (sources_of code territories))
keeps_answer territories (queries.Feasts code year) =
    λ within. refused_alike (easter_refusal newest_rules territories code year)
    (easter_refusal first_rules territories code year)
    (feasts_answer newest_rules (territory_of code territories) (unsigned_abs year))
    (feasts_answer first_rules (territory_of code territories) (unsigned_abs year))
    (ap (or_else (code_refusal territories code)) (same_years year within))
    (keeps_feasts (territory_of code territories) (unsigned_abs year))
keeps_answer territories (queries.Convert code calendar year month day) =
    λ within. refused_alike (read_refusal newest_rules territories code year month day)
    (read_refusal first_rules territories code year month day)
    (converted_answer newest_rules (territory_of code territories) calendar
    (label_from year month day))
    (converted_answer first_rules (territory_of code territories) calendar
    (label_from year month day))
    (ap (or_else (code_refusal territories code)) (same_dates year month day within))
    (keeps_converted (territory_of code territories) calendar (label_from year month day))
keeps_answer territories (queries.Written code text date weekday) =
    refused_unless (code_refusal territories code)
    (written_answer newest_rules (territory_of code territories) date weekday)
    (written_answer first_rules (territory_of code territories) date weekday)
    (keeps_written (territory_of code territories) date weekday)
