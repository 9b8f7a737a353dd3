-- Sets of dates in digits, each with the sign of how sure it is. This project's profile.
use Rattle.std.specs.Prelude.{◌≡◌, Bool, false, ℕ, List, ◌∷◌, ◌++◌, map, codes, Option, Some, None}
use Rattle.std.specs.Prelude.{Ok}
use Rattle.std.specs.List.{All, join_by}
use Rattle.osn_days.specs.declared.date.Date.{Date}
use Rattle.osn_grammar.specs.declared.text_reading.DateOrder.{DateOrder}
use Rattle.osn_written.specs.declared.any_date.Extent.{Extent}
use Rattle.osn_written.specs.declared.any_date.Extent.TheVariants as extent
use Rattle.osn_grammar.specs.declared.text_reading.TextReading.TheVariants as say
use Rattle.osn_written.specs.declared.any_date.AnyDate.{AnyDate}
use Rattle.osn_grammar.specs.InDigits.{HasFourDigits, day_of_date, text_with_signs}
use Rattle.osn_grammar.specs.Reading.{members, read_date}

-- one day, or the first one and the last one
abbrev pub Days : Type 0
Days = Date × Option Date

abbrev pub HaveFourDigits : Days → Type 0
HaveFourDigits (d, None) = HasFourDigits d
HaveFourDigits (d, Some e) = HasFourDigits d × HasFourDigits e

-- 1731-02-11~, 1731-02-11~..1731-03-01~
abbrev pub days_text : Bool → Bool → Days → List ℕ
days_text approximate uncertain (d, None) = text_with_signs d approximate uncertain
days_text approximate uncertain (d, Some e) =
    text_with_signs d approximate uncertain ++ (codes ".."
    ++ text_with_signs e approximate uncertain)

-- the set of them: [1543-04-11,1544-04-11]
abbrev pub set_text : Bool → Bool → List Days → List ℕ
set_text approximate uncertain days =
    codes "[" ++ (join_by (days_text approximate uncertain) (codes ",") days ++ codes "]")

-- the dates of which one is meant
abbrev pub extent_of_days : Days → Extent
extent_of_days (d, None) = extent.On (day_of_date d)
extent_of_days (d, Some e) = extent.FromTo (day_of_date d) (day_of_date e)

abbrev pub member : Bool → Bool → Days → AnyDate
member approximate uncertain days = record {
  extent = extent_of_days days;
  weekday = None;
  reckoning = None;
  is_approximate = approximate;
  is_uncertain = uncertain;
  is_supplied = false;
}

-- the text of the set is read as a set, and as that of these dates
pub record IsSetRead (o : DateOrder) (approximate uncertain : Bool) (days : List Days)
    : Type 0 where
  pub is : read_date o (set_text approximate uncertain days) ≡ Ok say.Set
  pub dates : members (set_text approximate uncertain days)
      ≡ map (member approximate uncertain) days

-- as a law: two or more dates or ranges of days in digits are read as a set of them, with each sign
unfoldable pub AreSetsRead : Type 0
AreSetsRead =
    (o : DateOrder) (approximate uncertain : Bool) (first next : Days) (rest : List Days)
    → All HaveFourDigits (first ∷ next ∷ rest)
    → IsSetRead o approximate uncertain (first ∷ next ∷ rest)
