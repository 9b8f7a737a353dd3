-- What arrives while a follower answers, in order: bytes of request lines, their end, and what the
-- file of the journal has gained.
use Rattle.std.specs.Prelude.{◌≡◌, ⊤, ℕ, List, [], ◌∷◌, ◌++◌, Option, Some, None}

-- bytes of request lines were read; or they have ended; or the file was looked at, and held these
-- whole lines after those of the look before
pub data Arrival : Type 0 where
  Requests : List ℕ → Arrival
  Ended : Arrival
  Gained : List ℕ → Arrival

-- what a read of request bytes is: a read of no bytes is their end
abbrev pub arrival_of : List ℕ → Arrival
arrival_of [] = Ended
arrival_of (b ∷ bs) = Requests (b ∷ bs)

-- the arrivals now are those before and then these, if those before are known
abbrev pub Arrive : Option (List Arrival) → Option (List Arrival) → List Arrival → Type 0
Arrive None new more = ⊤
Arrive (Some before) new more = new ≡ Some (before ++ more)

-- the lines of the file that the looks have found
abbrev pub file_of : List Arrival → List ℕ
file_of [] = []
file_of (Requests bytes ∷ rest) = file_of rest
file_of (Ended ∷ rest) = file_of rest
file_of (Gained bytes ∷ rest) = bytes ++ file_of rest
