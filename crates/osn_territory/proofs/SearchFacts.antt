-- Outside the days among which a search looks, no period reads a day, and no change is named.
use Rattle.std.proofs.Common.{◌≡◌, ℕ, ◌+◌, ◌-◌, ◌*◌, ◌<◌, ◌≤◌, inl, inr, Bool, true, false, not}
use Rattle.std.proofs.Common.{◌&&◌, ◌||◌, nat_le, nat_lt, List, [], ◌∷◌, Option, Some, None, sym}
use Rattle.std.proofs.Common.{ap}
use Rattle.std.proofs.Common.{arith, refl, subst, length, get_or, zero, suc, is_some, ◌∙◌}
use Rattle.std.proofs.lemmas.Bool.{and_cases, and_left, and_right, and_from, or_from, leb-true}
use Rattle.std.proofs.lemmas.Bool.{false_from_ne_true}
use Rattle.std.proofs.lemmas.Bool.{le-leb, lt-ltb, both_ways, cases_lt, or_left, or_right}
use Rattle.std.specs.List.{list_any}
use Rattle.std.proofs.lemmas.Bool.{ltb-true, ltb-false}
use Rattle.osn_days.specs.declared.calendar.Calendar.{Calendar}
use Rattle.osn_days.specs.declared.calendar.Calendar.TheVariants.{Julian, Gregorian, Swedish}
use Rattle.osn_days.specs.Rules.{Rules}
use Rattle.osn_days.specs.Line.{line}
use Rattle.osn_days.proofs.RangeFacts.{filter_none, any_in}
use Rattle.osn_territory.specs.declared.label.Label.{Label}
use Rattle.osn_territory.specs.declared.period.Period.{Period}
use Rattle.osn_territory.specs.declared.candidate_table.CandidateTable.{CandidateTable}
use Rattle.osn_territory.specs.Style.{is_from_easter}
use Rattle.osn_territory.specs.Label.{days_with_label}
use Rattle.osn_territory.specs.Territory.{is_empty}
use Rattle.osn_territory.specs.PeriodList.{is_held}
use Rattle.osn_territory.specs.LabelSearch.{has_label, days_read, is_skipped_by_days}
use Rattle.osn_territory.specs.LabelSearch.{AreBetween, AllOrNone, IsKnown, AreKnown, years_of}
use Rattle.osn_territory.specs.LabelSearch.{most_for_one, most_tested, is_calendar, goes_by}
use Rattle.osn_territory.specs.LabelSearch.{is_used, three_if}

-- a period that none of the days can lie in reads none
pub reads_none : (p : Rules) (l : Label) (q : Period) (table : Option CandidateTable)
    (first last : ℕ) → IsKnown table q.regime → 1 ≤ q.first → q.first ≤ q.last →
    q.last ≤ p.high → AreBetween p l table first last →
    (nat_le first q.last && nat_le q.first last) ≡ false → [] ≡ days_read p l q
reads_none p l q table first last known low some most between out =
    sym (filter_none (has_label p l q.regime) q.first (q.last + 1 - q.first) (λ d from until.
    false_from_ne_true (has_label p l q.regime d) (λ has.
    let inside = between q.regime d known (omega arith, omega arith) has in
    elim (and_cases (nat_le first q.last) (nat_le q.first last) out) [
      | inl before ↦ both_ways (nat_le first q.last) before
          (le-leb first q.last (omega (arith, inside.0, until, some)))
      | inr past ↦ both_ways (nat_le q.first last) past
          (le-leb q.first last (omega (arith, inside.1, from)))
    ])))

-- no day is before the first one
none_before_first : (p : Rules) (l : Label) (q : Period) (table : Option CandidateTable)
    (first last c : ℕ) → IsKnown table q.regime → AreBetween p l table first last → c ≤ first →
    list_any (λ d. nat_lt d c) (days_with_label p q.regime l) ≡ false
unfolding days_with_label line
none_before_first p l q table first last c known between from =
    false_from_ne_true _ (λ found.
    let e = any_in (λ d. nat_lt d c) (has_label p l q.regime) 1 p.high found in
    let inside = between q.regime e.0 known (e.1.low, omega (arith, e.1.high)) e.1.passes in
    let less = ltb-true e.0 c e.1.tested in
    omega (arith, inside.0, less, from))

-- and no day is after the last one
none_after_last : (p : Rules) (l : Label) (q : Period) (table : Option CandidateTable)
    (first last c : ℕ) → IsKnown table q.regime → AreBetween p l table first last → last < c →
    list_any (λ d. nat_le c d) (days_with_label p q.regime l) ≡ false
unfolding days_with_label line
none_after_last p l q table first last c known between until =
    false_from_ne_true _ (λ found.
    let e = any_in (λ d. nat_le c d) (has_label p l q.regime) 1 p.high found in
    let inside = between q.regime e.0 known (e.1.low, omega (arith, e.1.high)) e.1.passes in
    let more = leb-true c e.0 e.1.tested in
    omega (arith, inside.1, more, until))

-- the first, the second or the third of the conditions fails
named_first : (a b c d : Bool) → a ≡ false → false ≡ (a && (b && (not c && not d)))
named_first a b c d is = sym (and_left a (b && (not c && not d)) is)

named_second : (a b c d : Bool) → b ≡ false → false ≡ (a && (b && (not c && not d)))
named_second a b c d is = sym (and_right a (b && (not c && not d))
    (and_left b (not c && not d) is))

named_third : (a b c d : Bool) → c ≡ true → false ≡ (a && (b && (not c && not d)))
named_third a b c d is = sym (and_right a (b && (not c && not d))
    (and_right b (not c && not d) (and_left (not c) (not d) (ap not is))))

-- a change outside the first and the last of the days is not named, if both years begin on a fixed
-- date
pub names_none : (p : Rules) (l : Label) (old new : Period) (table : Option CandidateTable)
    (first last : ℕ) → IsKnown table old.regime → IsKnown table new.regime → 1 < new.first →
    new.first ≤ p.high → AreBetween p l table first last → AllOrNone p l table first last →
    is_from_easter old.regime.style ≡ false → is_from_easter new.regime.style ≡ false →
    (nat_lt first new.first && nat_le new.first last) ≡ false →
    false ≡ is_skipped_by_days old new (days_with_label p old.regime l)
    (days_with_label p new.regime l)
names_none p l old new table first last known_old known_new later most between
    (inl some) fixed_old fixed_new out =
    let olds = days_with_label p old.regime l in
    let news = days_with_label p new.regime l in
    let change = new.first in
    let late : Bool = list_any (λ d. nat_le change d) olds || is_empty olds in
    let early : Bool = list_any (λ d. nat_lt d change) news || is_empty news in
    let both : Bool = is_empty olds && is_empty news in
    let there : Bool = list_any (is_held old) olds || list_any (is_held new) news in
    elim (and_cases (nat_lt first change) (nat_le change last) out) [
      | inl before ↦ named_second late early both there (or_from _ _
          (none_before_first p l new table first last change known_new between
          (ltb-false first change before))
          (some new.regime known_new fixed_new))
      | inr past ↦ elim (cases_lt last change) [
        | inl less ↦ named_first late early both there (or_from _ _
            (none_after_last p l old table first last change known_old between less)
            (some old.regime known_old fixed_old))
        | inr more ↦ absurd (both_ways (nat_le change last) past (le-leb change last more))
      ]
    ]
names_none p l old new table first last known_old known_new later most between (inr
    (inl none)) fixed_old fixed_new out =
    let olds = days_with_label p old.regime l in
    let news = days_with_label p new.regime l in
    let change = new.first in
    let late : Bool = list_any (λ d. nat_le change d) olds || is_empty olds in
    let early : Bool = list_any (λ d. nat_lt d change) news || is_empty news in
    let both : Bool = is_empty olds && is_empty news in
    let there : Bool = list_any (is_held old) olds || list_any (is_held new) news in
    named_third late early both there
    (and_from (is_empty olds) (is_empty news) (none old.regime known_old)
    (none new.regime known_new))
names_none p l old new table first last known_old known_new later most between (inr
    (inr ends)) fixed_old fixed_new out =
    elim (and_cases (nat_lt first new.first) (nat_le new.first last) out) [
      | inl before ↦ absurd (both_ways (nat_lt first new.first) before
          (lt-ltb first new.first (omega (arith, ends.0, later))))
      | inr past ↦ absurd (both_ways (nat_le new.first last) past
          (le-leb new.first last (omega (arith, ends.1, most))))
    ]

-- how many dates were tested, with those of one period more
pub tested_more : (t : Option CandidateTable) (periods n i tested : ℕ) →
    tested ≤ most_tested t periods i → n ≤ most_for_one t →
    tested + n ≤ most_tested t periods (i + 1)
tested_more None periods n i tested so_far here = omega (arith, so_far, here)
tested_more (Some t) periods n i tested so_far here = omega (arith, so_far, here)

-- for some of the periods, and for all of them
pub tested_until : (t : Option CandidateTable) (periods i : ℕ) → i ≤ periods →
    most_tested t periods i ≤ 3 * periods
tested_until None periods i few = omega (arith, few)
tested_until (Some t) periods i few = omega arith

-- a regime of a period is known if all are
pub known_at : (t : Option CandidateTable) (ps : List Period) (i : ℕ) (q d : Period) →
    AreKnown t ps → i < length ps → get_or ps i d ≡ q → IsKnown t q.regime
known_at t [] i q d known within at = absurd (omega (arith, within))
known_at t (x ∷ ps) zero q d known within at =
    subst (λ (y : Period). IsKnown t y.regime) at known.0
known_at t (x ∷ ps) (suc i) q d known within at =
    known_at t ps i q d known.1 (omega (arith, within)) at

-- without a table each regime is known
pub all_without : (ps : List Period) → AreKnown None ps
all_without [] = tt
all_without (q ∷ qs) = (tt, all_without qs)

-- three dates were tested for each calendar that is used, and no more calendars are than periods

one_calendar : (c : Calendar) → three_if (is_calendar c Julian)
    + (three_if (is_calendar c Gregorian) + three_if (is_calendar c Swedish)) ≡ 3
one_calendar Julian = refl
one_calendar Gregorian = refl
one_calendar Swedish = refl

either_three : (a b : Bool) → three_if (a || b) ≤ three_if a + three_if b
either_three true b = omega arith
either_three false b = omega arith

pub three_for_each : (qs : List Period) → three_if (is_used Julian qs)
    + (three_if (is_used Gregorian qs) + three_if (is_used Swedish qs)) ≤ 3 * length qs
three_for_each [] = omega arith
three_for_each (q ∷ qs) =
    let more = three_for_each qs in
    let one = one_calendar q.regime.calendar in
    let julian = either_three (goes_by Julian q) (is_used Julian qs) in
    let gregorian = either_three (goes_by Gregorian q) (is_used Gregorian qs) in
    let swedish = either_three (goes_by Swedish q) (is_used Swedish qs) in
    omega (arith, more, one, julian, gregorian, swedish)

-- a table that has the calendars that are used knows every period's regime

pub same_calendar : (c d : Calendar) → c ≡ d → is_calendar c d ≡ true
same_calendar c Julian same = ap (λ x. is_calendar x Julian) same
same_calendar c Gregorian same = ap (λ x. is_calendar x Gregorian) same
same_calendar c Swedish same = ap (λ x. is_calendar x Swedish) same

known_among : (t : CandidateTable) (qs rest : List Period) →
    ((c : Calendar) → is_some (years_of t c) ≡ is_used c qs) →
    ((c : Calendar) → is_used c rest ≡ true → is_used c qs ≡ true) → AreKnown (Some t) rest
known_among t qs [] has within = tt
known_among t qs (q ∷ rest) has within =
    let c = q.regime.calendar in
    let here : is_used c (q ∷ rest) ≡ true =
    or_left (goes_by c q) (is_used c rest) (same_calendar c c refl) in (
      has c ∙ within c here,
      known_among t qs rest has (λ d used. within d (or_right (goes_by d q) (is_used d rest) used)),
    )

pub all_known : (t : CandidateTable) (qs : List Period) →
    ((c : Calendar) → is_some (years_of t c) ≡ is_used c qs) → AreKnown (Some t) qs
all_known t qs has = known_among t qs qs has (λ c used. used)
