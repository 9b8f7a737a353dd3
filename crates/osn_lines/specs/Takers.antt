-- What became of a taker of lines, by its own words `after` and `stopped`.
use Rattle.std.specs.Prelude.{◌≡◌, ◌≤◌, ℕ, ◌+◌, List, [], ◌∷◌, ◌++◌, length, take, slice_get}
use Rattle.std.specs.Prelude.{Option, Some, IfSome}
use Rattle.std.specs.Io.KnownBytes.{Consumes}
use Rattle.osn_lines.specs.Lines.{lines}

-- whatever lines it had taken, it has taken these after them
abbrev pub Takes : {S : Type 0} → (S → List (List ℕ) → S → Type 0) → S → S → List (List ℕ) → Type 0
Takes {S} after s t more =
    (initial : S) (before : List (List ℕ)) → after initial before s
    → after initial (before ++ more) t

-- whatever lines it had taken, it has taken no other
abbrev pub Rests : {S : Type 0} → (S → List (List ℕ) → S → Type 0) → S → S → Type 0
Rests {S} after s t =
    (initial : S) (before : List (List ℕ)) → after initial before s → after initial before t

-- whatever lines it had taken, it stopped after them, at this line or between two lines
abbrev pub Stops : {S W : Type 0} → (S → List (List ℕ) → S → Type 0) →
    (S → List (List ℕ) → Option (List ℕ) → S → W → Type 0) → S → S → Option (List ℕ) → W → Type 0
Stops {S} {W} after stopped s t at why =
    (initial : S) (before : List (List ℕ)) → after initial before s
    → stopped initial before at t why

-- n lines were taken, and they are all lines of the input, if that is known
pub record TakesAll {S : Type 0} (after : S → List (List ℕ) → S → Type 0) (s t : S)
    (input : Option (List ℕ)) (n : ℕ) : Type 0 where
  pub lines_taken : List (List ℕ)
  pub takes : Takes after s t lines_taken
  pub count : n ≡ length lines_taken
  pub all : IfSome input (λ bytes. lines bytes ≡ lines_taken)

-- n lines were taken, and they are the first n of the input, if that is known
pub record TakesFirst {S : Type 0} (after : S → List (List ℕ) → S → Type 0) (s t : S)
    (input : Option (List ℕ)) (n : ℕ) : Type 0 where
  pub lines_taken : List (List ℕ)
  pub takes : Takes after s t lines_taken
  pub count : n ≡ length lines_taken
  pub first : IfSome input (λ bytes. take n (lines bytes) ≡ lines_taken)

-- n lines were taken, the first n of the input if that is known. The taker stopped after them: at
-- the next line of the input, or between two lines
pub record StopsAfter {S W : Type 0} (after : S → List (List ℕ) → S → Type 0)
    (stopped : S → List (List ℕ) → Option (List ℕ) → S → W → Type 0) (s t : S)
    (input : Option (List ℕ)) (n : ℕ) (why : W) : Type 0 where
  pub lines_taken : List (List ℕ)
  pub at : Option (List ℕ)
  pub stops : (initial : S) (before : List (List ℕ)) → after initial before s →
      stopped initial (before ++ lines_taken) at t why
  pub count : n ≡ length lines_taken
  pub first : IfSome input (λ bytes. take n (lines bytes) ≡ lines_taken)
  pub next : IfSome input (λ bytes. IfSome at (λ line. slice_get (lines bytes) n ≡ Some line))

-- n lines have ended of the bytes that were read: with one line feed more the bytes would have n +
-- 1 lines
pub record HasRead (old new : Option (List ℕ)) (n : ℕ) : Type 0 where
  pub read : List ℕ
  pub consumed : Consumes old new read
  pub ended : length (lines (read ++ 10 ∷ [])) ≡ n + 1

-- n lines were taken, the first n of the input if that is known, and of the bytes that were read no
-- other has ended
pub record TakesEnded {S : Type 0} (after : S → List (List ℕ) → S → Type 0) (s t : S)
    (old new : Option (List ℕ)) (n : ℕ) : Type 0 where
  pub first : TakesFirst after s t old n
  pub read : HasRead old new n

-- Each line that ended in the bytes before the last ones is among the first n. The last ones are at
-- most what one read gives.
pub record HasKeptUp (old new : Option (List ℕ)) (n : ℕ) : Type 0 where
  pub earlier : List ℕ
  pub last : List ℕ
  pub consumed : Consumes old new (earlier ++ last)
  pub few : length last ≤ 65536
  pub ended : length (lines (earlier ++ 10 ∷ [])) ≤ n + 1
