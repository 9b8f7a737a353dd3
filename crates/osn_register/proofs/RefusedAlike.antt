-- The queries that both rules refuse alike.
use Rattle.std.proofs.Common.{◌≡◌, ℕ, Option, Some, None, refl, ap, ◌∙◌}
use Rattle.osn_days.specs.declared.calendar.Calendar.{Calendar}
use Rattle.osn_days.specs.declared.weekday.Weekday.{Weekday}
use Rattle.osn_days.specs.Rules.{first_rules, newest_rules}
use Rattle.osn_territory.specs.declared.label.Label.{Label}
use Rattle.osn_territory.specs.Territory.{TerritoryModel}
use Rattle.osn_written.specs.declared.date_reading.DateReading.{DateReading}
use Rattle.osn_register.specs.declared.answer.Answer.{Answer}
use Rattle.osn_register.specs.declared.refusal.Refusal.{Refusal}
use Rattle.osn_register.specs.Answer.{unless, refusal_in, exceptions_answer, changes_answer}
use Rattle.osn_register.specs.Answer.{feasts_answer, converted_answer, written_answer}
use Rattle.osn_register.specs.Sources.{SourcesModel}

-- a query of the listed Easters

pub keeps_exceptions : (t : Option TerritoryModel) (sources : Option SourcesModel)
    → refusal_in (exceptions_answer newest_rules t sources)
    ≡ refusal_in (exceptions_answer first_rules t sources)
keeps_exceptions None sources = refl
keeps_exceptions (Some t) sources = refl

-- a query of the changes

pub keeps_changes : (t : Option TerritoryModel) (sources : Option SourcesModel)
    → refusal_in (changes_answer newest_rules t sources)
    ≡ refusal_in (changes_answer first_rules t sources)
keeps_changes None sources = refl
keeps_changes (Some t) sources = refl

-- a query of the feasts of a year

pub keeps_feasts : (t : Option TerritoryModel) (y : ℕ)
    → refusal_in (feasts_answer newest_rules t y) ≡ refusal_in (feasts_answer first_rules t y)
keeps_feasts None y = refl
keeps_feasts (Some t) y = refl

-- a query of a conversion

pub keeps_converted : (t : Option TerritoryModel) (calendar : Calendar) (label : Label)
    → refusal_in (converted_answer newest_rules t calendar label)
    ≡ refusal_in (converted_answer first_rules t calendar label)
keeps_converted None calendar label = refl
keeps_converted (Some t) calendar label = refl

-- a query of a date as it is written

pub keeps_written : (t : Option TerritoryModel) (date : DateReading) (given : Option Weekday)
    → refusal_in (written_answer newest_rules t date given)
    ≡ refusal_in (written_answer first_rules t date given)
keeps_written None date given = refl
keeps_written (Some t) date given = refl

pub refused_unless : (refused : Option Refusal) (now before : Answer)
    → refusal_in now ≡ refusal_in before
    → refusal_in (unless refused now) ≡ refusal_in (unless refused before)
refused_unless None now before same = same
refused_unless (Some f) now before same = refl

pub refused_alike : (now_refused refused : Option Refusal) (now before : Answer)
    → now_refused ≡ refused → refusal_in now ≡ refusal_in before
    → refusal_in (unless now_refused now) ≡ refusal_in (unless refused before)
refused_alike now_refused refused now before same kept =
    ap (λ r. refusal_in (unless r now)) same ∙ refused_unless refused now before kept
