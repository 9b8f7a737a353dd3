-- A command that prints a page, or reports why there is none, did what its contract says.
use Rattle.std.proofs.Common.{◌≡◌, Bool, List, ℕ, Option, Some, None, Ok, ◌∙◌, ap, refl, subst₂}
use Rattle.std.proofs.Common.{inl, inr, subst}
use Rattle.osn_core.specs.Edition.{EditionModel}
use Rattle.osn_invocation.specs.Invocation.{PageRequestModel}
use Rattle.osn_lines.specs.Streams.{Input, Output}
use Rattle.osn_register.specs.Refusal.{IsRefusalOrNoMemory}
use Rattle.osn_register.specs.declared.limits.Limits.{Limits}
use Rattle.osn_register.specs.declared.refusal.Refusal.{Refusal}
use Rattle.osn_register.specs.declared.refusal.Refusal.TheVariants as refusals
use Rattle.osn_page_commands.specs.PageRequest.{territory_word, date_text_of, topic_of_words}
use Rattle.osn_page_commands.specs.Page.{PrintsTopic, RunsNumbered, PrintsPageOf, PrintsPageOn}
use Rattle.osn_page_commands.specs.Page.{topic_refusal, topic_text, refusal_line}
use Rattle.osn_page_commands.specs.Page.{page_status, lacks_strict_day, PrintsTopicText}
use Rattle.osn_page_commands.specs.Page.{PrintsAsked, PrintsDates, place_of}
use Rattle.osn_page_commands.specs.declared.place.Place.{Place}
use Rattle.osn_page_commands.specs.declared.place.Place.TheVariants.{One, NotOne}
use Rattle.osn_page_commands.specs.declared.page_request.LineRules.{LineRules}
use Rattle.osn_page_commands.specs.declared.page_request.Topic.{Topic}
use Rattle.osn_page_commands.specs.declared.page_request.Topic.TheVariants.{Almanac, Year}
use Rattle.osn_page_commands.specs.declared.page_request.Topic.TheVariants.{Territory, Set, Dates}
use Rattle.osn_page_commands.specs.declared.page_request.Topic.TheVariants.{Territories}
use Rattle.osn_report.specs.Folders.{Folders, ReadsOne}
use Rattle.osn_report.specs.Messages.{EndsBy, ReportsIfMade}
use Rattle.osn_report.specs.declared.fault.CommandFault.TheVariants.{NoMemory}
use Rattle.osn_report.specs.declared.status.Status.{Status}
use Rattle.osn_report.specs.declared.status.Status.TheVariants as statuses

-- NoMemory stays what it is, whatever day is missing
unmade_same : (lacks : Bool) (status : Status) → status ≡ statuses.NoMemory
    → status ≡ page_status lacks status
unmade_same lacks status is = rw is refl

-- there was no memory for the text of a page
lacks_text : (topic : Topic) (text : List ℕ) (o e : Output) (status : Status)
    → o.new ≡ o.old → EndsBy e NoMemory status → PrintsTopicText topic text o e status
lacks_text (Almanac year) text o e status same message = inr (same, message)
lacks_text (Year year is_json) text o e status same message = inr (same, message)
lacks_text (Territory page form) text o e status same message = inr (same, message)
lacks_text (Set given form) text o e status same message = inr (same, message)
lacks_text (Dates rules) text o e status same message = inr (same, message)
lacks_text (Territories is_json) text o e status same message = inr (same, message)

module _ (s : EditionModel) (path code date : List ℕ) (topic : Topic) (o e : Output)
    (status : Status)
  where
    -- the page was printed, and a day that was asked for is missing or not
    pub page_made : (printed : Status) (lacks : Bool)
        → topic_refusal s.territories code topic ≡ None
        → lacks ≡ lacks_strict_day s.territories code date topic
        → PrintsTopicText topic (topic_text s code date topic) o e printed
        → status ≡ page_status lacks printed
        → PrintsPageOf s path code date topic o e status
    page_made printed lacks none is h same =
        rw none (printed, h, same ∙ ap (λ x. page_status x printed) is)

    -- memory ran out, whatever is refused
    unmade_by : (refused : Option Refusal) → topic_refusal s.territories code topic ≡ refused
        → o.new ≡ o.old → EndsBy e NoMemory status → PrintsPageOf s path code date topic o e status
    unmade_by (Some refusal) is same message = rw is (same, inr message)
    unmade_by None is same message =
        rw is (
          status,
          lacks_text topic (topic_text s code date topic) o e status same message,
          unmade_same (lacks_strict_day s.territories code date topic) status message.0,
        )

    pub page_unmade : o.new ≡ o.old → EndsBy e NoMemory status
        → PrintsPageOf s path code date topic o e status
    page_unmade = unmade_by (topic_refusal s.territories code topic) refl

    -- the page is refused
    pub page_refused : (refusal : Refusal) → (refusal ≡ refusals.NoMemory → ⊥) → o.new ≡ o.old
        → IsRefusalOrNoMemory (topic_refusal s.territories code topic) refusal
        → ReportsIfMade e statuses.Refused (refusal_line path code topic refusal) status
        → PrintsPageOf s path code date topic o e status
    page_refused refusal other same (inl some) message = rw some (same, message)
    page_refused refusal other same (inr none) message = absurd (other none.0)

-- the page was printed on the only territory that a word names
pub page_of_one : (s : EditionModel) (path word date : List ℕ) (topic : Topic) (place : Place)
    (code shown : List ℕ) (o e : Output) (status : Status) → place ≡ One code → shown ≡ code
    → PrintsPageOf s path shown date topic o e status
    → PrintsPageOn s path word date topic place o e status
page_of_one s path word date topic place code shown o e status one same h =
    rw one (subst (λ c. PrintsPageOf s path c date topic o e status) same h)

-- there was no memory to find what a word names
pub place_unknown : (s : EditionModel) (path word date : List ℕ) (topic : Topic) (place : Place)
    (o e : Output) (status : Status) → o.new ≡ o.old → EndsBy e NoMemory status
    → PrintsPageOn s path word date topic place o e status
place_unknown s path word date topic (One code) o e status = page_unmade s path code date topic o e
    status
place_unknown s path word date topic (NotOne named) o e status = λ same message. (same, inr message)

module _ (s : EditionModel) (path word date : List ℕ) (i : Input) (o e : Output) (status : Status)
  where
    -- dates of the input were asked for
    pub asked_dates : (topic : Topic) (rules : LineRules) → topic ≡ Dates rules
        → PrintsDates s path word topic i o e status
        → PrintsAsked s path word date topic i o e status
    asked_dates (Dates given) rules is h = h
    asked_dates (Almanac year) rules is h = absurd (cc)
    asked_dates (Year year is_json) rules is h = absurd (cc)
    asked_dates (Territory page form) rules is h = absurd (cc)
    asked_dates (Set given form) rules is h = absurd (cc)
    asked_dates (Territories is_json) rules is h = absurd (cc)

    -- the date of the words was asked for, or none
    pub asked_page : (topic : Topic) → ((rules : LineRules) → topic ≡ Dates rules → ⊥)
        → PrintsPageOn s path word date topic (place_of topic word s.territories) o e status
        → PrintsAsked s path word date topic i o e status
    asked_page (Dates rules) other h = absurd (other rules refl)
    asked_page (Almanac year) other h = h
    asked_page (Year year is_json) other h = h
    asked_page (Territory page form) other h = h
    asked_page (Set given form) other h = h
    asked_page (Territories is_json) other h = h

-- the page was printed that these words ask for
pub page_printed : (limits : Limits) (path : List ℕ) (number : Option ℕ) (words : PageRequestModel)
    (CanFail : Bool → Type 0) (d : Folders) (topic : Topic) (code date : List ℕ) (i : Input)
    (o e : Output) (status : Status) → topic_of_words words ≡ Ok topic → code ≡ territory_word words
    → date ≡ date_text_of words
    → ReadsOne path CanFail d
    (λ file. PrintsTopic limits path number file code date topic i o e status)
    → RunsNumbered limits path number words CanFail d i o e status
page_printed limits path number words CanFail d topic code date i o e status is same text h =
    inr (rw is (subst₂ (λ c w. ReadsOne path CanFail d
    (λ file. PrintsTopic limits path number file c w topic i o e status)) same text h))
