-- The periods of a territory are those that hold its days.
use Rattle.std.proofs.Common.{◌≡◌, ◌≤◌, ◌<◌, ℕ, true, false, cond, List, [], ◌∷◌, length}
use Rattle.std.proofs.Common.{Option, Some, None, option_map, IfSome, pos, get_or, refl, sym, ap}
use Rattle.std.proofs.Common.{subst, ◌∙◌, arith, ◌++◌, append_assoc, append-nil}
use Rattle.std.specs.List.{flat_map}
use Rattle.std.specs.Option.{option_to_list}
use Rattle.std.specs.List.{All, HoldsAt}
use Rattle.std.specs.Str.{bytes_eq}
use Rattle.std.proofs.lemmas.Bool.Decides.{nat_tests}
use Rattle.std.proofs.lemmas.Int.{ints}
use Rattle.std.proofs.lemmas.List.{get_or_default}
use Rattle.std.proofs.lemmas.List.Elements.{All-map}
use Rattle.osn_days.specs.declared.weekday.Weekday.{Weekday}
use Rattle.osn_days.specs.Rules.{Rules, newest_rules}
use Rattle.osn_territory.specs.declared.period.Period.{Period}
use Rattle.osn_territory.specs.Territory.{TerritoryModel, CoversLine, Holds, periods_of}
use Rattle.osn_territory.proofs.CoverFacts.{within_at}
use Rattle.osn_territory.proofs.RegimeFacts.{regime_found}
use Rattle.osn_register.specs.declared.answer.Answer.{Answer}
use Rattle.osn_register.specs.declared.answer.Answer.TheVariants.{OnDay}
use Rattle.osn_register.specs.declared.answer.PeriodAndSource.{PeriodAndSource}
use Rattle.osn_register.specs.declared.limits.Limits.{Limits}
use Rattle.osn_register.specs.declared.refusal.Refusal.{Refusal}
use Rattle.osn_register.specs.declared.refusal.Refusal.TheVariants.{DayOffLine}
use Rattle.osn_register.specs.Answer.{unless, day_answer, periods_answer, on_day, and_source}
use Rattle.osn_register.specs.Answer.{found_on, found_under, period_on}
use Rattle.osn_register.specs.Plain.{EntryModel, entry_of, territory_of, sources_of, code_refusal}
use Rattle.osn_register.specs.Plain.{AreSound, is_off_line}
use Rattle.osn_register.specs.Refusal.{first_refusal, or_else}
use Rattle.osn_register.specs.Sources.{SourcesModel}
use Rattle.osn_register.proofs.CoverFacts.{period_on-place}
use Rattle.osn_territory.specs.Dating.{dated_on}
use Rattle.osn_pages.specs.Law.{periods_in, ArePeriodsAnswered}
use Rattle.osn_pages.specs.Page.{day_lines, AnswersPeriods}
use Rattle.osn_pages.specs.Periods.{period_lines}
use Rattle.osn_pages.specs.Reading.{day_line, verdict}
use Rattle.osn_pages.specs.declared.page.Page.{Page}
use Rattle.osn_pages.specs.declared.page.Page.TheVariants as pages

-- the territory of a code, of those that are sound, has periods that cover the line
covers_line_of : (p : Rules) (limits : Limits) (code : List ℕ) (territories : List EntryModel)
    → AreSound p limits territories
    → IfSome (territory_of code territories) (λ t. CoversLine p (periods_of p t))
covers_line_of p limits code [] sound = tt
covers_line_of p limits code (l ∷ ls) sound =
    elim (bytes_eq code l.code) as (λ b. IfSome
    (option_map (λ (k : EntryModel). k.territory) (cond b (Some l) (entry_of code ls)))
    (λ t. CoversLine p (periods_of p t))) [
      | true ↦ sound.0.periods
      | false ↦ covers_line_of p limits code ls sound.1
    ]

on_line : (p : Rules) (d : ℕ) → 1 ≤ d → d ≤ p.high → is_off_line p (pos d) ≡ false
on_line p d low high = grind (arith, ints, nat_tests)

-- the answer about a day, if the code is refused so
abbrev answer_on : Rules → Option Refusal → Option TerritoryModel → Option SourcesModel → ℕ
    → Answer
answer_on p refused t sources d =
    unless (or_else refused (first_refusal ((is_off_line p (pos d), DayOffLine) ∷ [])))
    (day_answer p t sources d)

-- the period at a place is answered to each of its days
answer_at_place : (p : Rules) (t : TerritoryModel) (sources : Option SourcesModel) (i d : ℕ)
    (q : Period) → CoversLine p (periods_of p t) → i < length (periods_of p t)
    → q ≡ get_or (periods_of p t) i q → 1 ≤ q.first → q.last ≤ p.high → Holds d q
    → answer_on p None (Some t) sources d
    ≡ OnDay (found_under p q.regime d) (and_source sources q)
answer_at_place p t sources i d q covers within is low high held =
    let ps = periods_of p t in
    let there : HoldsAt (Holds d) ps i =
    λ x. subst (Holds d) (is ∙ get_or_default ps i q x within) held in
    let regime = regime_found p t ps i q d refl covers within there is in
    ap (λ b. unless (first_refusal ((b, DayOffLine) ∷ [])) (day_answer p (Some t) sources d))
    (on_line p d (omega (arith, low, held.0)) (omega (arith, high, held.1)))
    ∙ ap (λ found. on_day sources found (found_on p t d))
    (period_on-place ps ps i 1 p.high d q refl covers within there is)
    ∙ ap (λ r. let a : Answer = OnDay (found_under p r d) (and_source sources q) in a) (sym regime)

-- a period with its source, if the code is refused so
abbrev IsAnsweredIf : Rules → Option Refusal → Option TerritoryModel → Option SourcesModel
    → PeriodAndSource → Type 0
IsAnsweredIf p refused t sources item =
    (item.period.first ≤ item.period.last) × ((d : ℕ) → Holds d item.period
    → answer_on p refused t sources d ≡ OnDay (found_under p item.period.regime d) item)

-- each period
abbrev AreAnsweredIf : Rules → Option Refusal → Option TerritoryModel → Option SourcesModel
    → Type 0
AreAnsweredIf p refused t sources =
    All (IsAnsweredIf p refused t sources)
    (periods_in (unless refused (periods_answer p t sources)))

each_answered : (p : Rules) (t : TerritoryModel) (sources : Option SourcesModel)
    → CoversLine p (periods_of p t)
    → All (λ q. IsAnsweredIf p None (Some t) sources (and_source sources q)) (periods_of p t)
each_answered p t sources covers i other within =
    let ps = periods_of p t in
    let q = get_or ps i other in
    let is : q ≡ get_or ps i q = get_or_default ps i other q within in
    let range = within_at ps i 1 p.high q covers within is in (
      range.1,
      λ d held. answer_at_place p t sources i d q covers within is range.0 range.2 held,
    )

are_answered : (p : Rules) (t : Option TerritoryModel) (sources : Option SourcesModel)
    → IfSome t (λ t. CoversLine p (periods_of p t)) → AreAnsweredIf p None t sources
are_answered p None sources covers = λ i other within. absurd (omega arith)
are_answered p (Some t) sources covers =
    All-map (IsAnsweredIf p None (Some t) sources) (and_source sources) (periods_of p t)
    (each_answered p t sources covers)

pub are_periods_answered : (p : Rules) (limits : Limits) (territories : List EntryModel)
    (code : List ℕ)
    → AreSound p limits territories → code_refusal territories code ≡ None →
    ArePeriodsAnswered p territories code
unfolding ArePeriodsAnswered
are_periods_answered p limits territories code sound lawful =
    subst (λ refused. AreAnsweredIf p refused (territory_of code territories)
    (sources_of code territories))
    (sym lawful) (are_answered p (territory_of code territories) (sources_of code territories)
    (covers_line_of p limits code territories sound))

-- the line of a day, and then those of the period that holds it
pub day_and_period : (t : TerritoryModel) (sources : Option SourcesModel) (d : ℕ)
    (weekday : Option Weekday) (period : Period)
    (t0 t1 t2 : List ℕ) → period_on (periods_of newest_rules t) d ≡ Some period
    → t1 ≡ t0 ++ day_line (verdict weekday None d) (dated_on newest_rules t d)
    → t2 ≡ t1 ++ period_lines newest_rules sources period
    → t2 ≡ t0 ++ day_lines newest_rules t sources d weekday
day_and_period t sources d weekday period t0 t1 t2 held first second =
    let line = period_lines newest_rules sources period in
    let day = day_line (verdict weekday None d) (dated_on newest_rules t d) in
    second
    ∙ ap (λ s. s ++ line) first
    ∙ append_assoc t0 day line
    ∙ ap (λ s. t0 ++ (day ++ s)) (sym (append-nil line))
    ∙ ap (λ o. t0 ++ (day ++ flat_map (period_lines newest_rules sources) (option_to_list o)))
    (sym held)

-- each page
pub answers_periods : (page : Page) (p : Rules) (limits : Limits) (territories : List EntryModel)
    (code : List ℕ) → AreSound p limits territories → code_refusal territories code ≡ None
    → AnswersPeriods p territories code page
answers_periods (pages.Reading date given) p limits territories code sound lawful = tt
answers_periods (pages.OfDay day weekday) p limits territories code sound lawful = tt
answers_periods (pages.Month year month) p limits territories code sound lawful = tt
answers_periods pages.Periods p limits territories code sound lawful =
    are_periods_answered p limits territories code sound lawful
