-- The editions of the object of a journal, and the word that names one.
use Rattle.std.specs.Prelude.{◌≡◌, ℕ, true, nat_le, if◌then◌else◌, List, [], length, take}
use Rattle.std.specs.Prelude.{Option, Some, None, is_some, Result, Ok, Err}
use Rattle.osn_core.specs.Sequential.{ObjectState, territories_of}
use Rattle.osn_core.specs.declared.step.Reply.{Reply}
use Rattle.osn_days.specs.Rules.{newest_rules}
use Rattle.osn_register.specs.Answer.{answer}
use Rattle.osn_register.specs.Plain.{EntryModel}
use Rattle.osn_register.specs.declared.query.Query.{Query}
use Rattle.osn_written.specs.WrittenDate.{number_of}
use Rattle.osn_core.specs.declared.edition.Edition.{Edition}
use Rattle.osn_core.specs.declared.edition.Edition.TheVariants.{Newest, Numbered}
use Rattle.osn_core.specs.declared.edition.EditionFault.{EditionFault}
use Rattle.osn_core.specs.declared.edition.EditionFault.TheVariants.{TooLate, NoMemory}

-- ---- an edition

-- what a page is made of: the territories, the number of their edition, and how many edits wait
pub record EditionModel : Type 0 where
  pub territories : List EntryModel
  pub number : ℕ
  pub pending : ℕ

-- what an object has published, with its pending edits
abbrev pub newest_edition : ObjectState → EditionModel
newest_edition s = record {
  territories = territories_of newest_rules s.limits s.batches;
  number = length s.batches;
  pending = length s.pending;
}

-- the object as the publish of a number left it: its first batches, as many as that number, and
-- nothing pending
abbrev pub published_by : ℕ → ObjectState → ObjectState
published_by number s =
    record { limits = s.limits; batches = take number s.batches; pending = [] }

-- the edition of a number, if the object has it, or else the newest one
abbrev pub edition_of : Option ℕ → ObjectState → Option EditionModel
edition_of None s = Some (newest_edition s)
edition_of (Some number) s =
    if nat_le number (length s.batches) then Some (newest_edition (published_by number s))
    else None

-- the reply to a query of an edition, which is that of the object, if the edition is its newest one
abbrev pub reply_in : EditionModel → Query → Reply
reply_in edition query =
    record { edition = edition.number; answer = answer newest_rules edition.territories query }

-- the model of an edition, which is what a page is made of
abbrev pub edition_model : Edition → EditionModel
edition_model (Newest s) = newest_edition s
edition_model (Numbered register number) =
    record { territories = register.territories; number = number; pending = 0 }

-- why the object has no edition of this number
abbrev pub IsEditionFault : Option ℕ → ObjectState → EditionFault → Type 0
IsEditionFault number s (TooLate late newest) =
    (number ≡ Some late) × (newest ≡ length s.batches) × (edition_of number s ≡ None)
IsEditionFault number s NoMemory = is_some number ≡ true

-- ---- the word that names one

abbrev pub number_or_word : List ℕ → Option ℕ → Result (Option ℕ) (List ℕ)
number_or_word word None = Err word
number_or_word word (Some number) = Ok (Some number)

-- the number of the edition that a word names, if there is a word; or the word, if it is not a
-- number
abbrev pub edition_of_word : Option (List ℕ) → Result (Option ℕ) (List ℕ)
edition_of_word None = Ok None
edition_of_word (Some word) = number_or_word word (number_of word)
