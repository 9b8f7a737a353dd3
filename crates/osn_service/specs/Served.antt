-- The output for lines: the text of each outcome of the sequential object run on their requests, in
-- order.
use Rattle.std.specs.Prelude.{◌≡◌, ◌≤◌, ◌<◌, ◌+◌, ◌⊎◌, ℕ, List, Option, length, take, fold}
use Rattle.std.specs.Io.KnownBytes.{Appends}
use Rattle.osn_core.specs.Sequential.{ObjectState}
use Rattle.osn_service.specs.declared.rules.ServeRules.{ServeRules}
use Rattle.osn_service.specs.Replies.{replies}
use Rattle.osn_service.specs.ReplyText.{reply_line}
use Rattle.osn_service.specs.Session.{line_outcome, line_after}

-- the reply line to a line
abbrev pub line_text : ServeRules → ObjectState → List ℕ → List ℕ
line_text rules s line = reply_line (line_outcome rules s line)

-- the reply lines to all lines, one after another
abbrev pub outputs : ServeRules → ObjectState → List (List ℕ) → List ℕ
outputs rules = replies (line_text rules) (line_after rules)

-- the object after the lines
abbrev pub after_lines : ServeRules → ObjectState → List (List ℕ) → ObjectState
after_lines rules = fold (line_after rules)

-- exactly the replies to the lines are written, which are n
pub record WritesAll (rules : ServeRules) (s : ObjectState) (old new : Option (List ℕ))
    (lines : List (List ℕ)) (n : ℕ) : Type 0 where
  pub count : n ≡ length lines
  pub written : Appends old new (outputs rules s lines)

-- exactly the replies to the first n lines are written
pub record WritesFirst (rules : ServeRules) (s : ObjectState) (old new : Option (List ℕ))
    (lines : List (List ℕ)) (n : ℕ) : Type 0 where
  pub enough : n ≤ length lines
  pub written : Appends old new (outputs rules s (take n lines))

-- a prefix of the replies to all lines is written, with those to n lines whole and no more
pub record WritesInPart (rules : ServeRules) (s : ObjectState) (old new : Option (List ℕ))
    (lines : List (List ℕ)) (n : ℕ) : Type 0 where
  pub bytes : ℕ
  pub enough : n ≤ length lines
  pub written : Appends old new (take bytes (outputs rules s lines))
  pub whole : length (outputs rules s (take n lines)) ≤ bytes
  pub no_more : n < length lines → bytes < length (outputs rules s (take (n + 1) lines))

-- the object is in the state after the lines
abbrev pub IsStateAfter : ServeRules → ObjectState → ObjectState → List (List ℕ) → Type 0
IsStateAfter rules s t lines = t ≡ after_lines rules s lines

-- the object is in the state after the first n lines
abbrev pub IsAfterLines : ServeRules → ObjectState → ObjectState → List (List ℕ) → ℕ → Type 0
IsAfterLines rules s t lines n = t ≡ after_lines rules s (take n lines)

-- the object is in the state after the first n lines, or after one more
abbrev pub IsAfterOrNext : ServeRules → ObjectState → ObjectState → List (List ℕ) → ℕ → Type 0
IsAfterOrNext rules s t lines n =
    IsAfterLines rules s t lines n ⊎ IsAfterLines rules s t lines (n + 1)
