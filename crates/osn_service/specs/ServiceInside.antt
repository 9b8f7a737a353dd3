-- What holds while lines are served: the replies that wait to be written, and the state after them.
use Rattle.std.specs.Prelude.{◌≡◌, ◌≤◌, ◌<◌, ◌+◌, ◌⊎◌, ℕ, nat_le, List, [], ◌∷◌, ◌++◌}
use Rattle.std.specs.Prelude.{Option, length, take, fold}
use Rattle.std.specs.List.{count_by}
use Rattle.std.specs.Io.KnownBytes.{Appends}
use Rattle.osn_service.specs.declared.reply_buffer.ReplyBuffer.{ReplyBuffer}
use Rattle.osn_service.specs.Replies.{replies}

-- the number of bytes at which the replies that wait are written
abbrev pub full : ℕ
full = 65536

-- where each reply ends, the first of which begins at a place
abbrev pub ends_from : {S : Type 0} → (S → List ℕ → List ℕ) → (S → List ℕ → S) → ℕ → S →
    List (List ℕ) → List ℕ
ends_from text after from s [] = []
ends_from text after from s (line ∷ rest) =
    (from + length (text s line)) ∷ ends_from text after (from + length (text s line))
    (after s line) rest

-- no line of these changes anything
abbrev pub ChangesNothing : {S : Type 0} → (S → List ℕ → S) → S → List (List ℕ) → Type 0
ChangesNothing after s [] = Unit {0}
ChangesNothing after s (line ∷ rest) = (after s line ≡ s) × ChangesNothing after s rest

-- no line of these except the first changes anything
abbrev pub ChangesFirst : {S : Type 0} → (S → List ℕ → S) → S → List (List ℕ) → Type 0
ChangesFirst after s [] = Unit {0}
ChangesFirst after s (line ∷ rest) = ChangesNothing after (after s line) rest

-- the lines were answered. The replies to the last of them wait, and of those lines only the first
-- has changed anything
pub record Waits {S : Type 0} (text : S → List ℕ → List ℕ) (after : S → List ℕ → S)
    (initial now : S)
    (lines : List (List ℕ)) (old new : Option (List ℕ)) (buffer : ReplyBuffer) : Type 0 where
  pub done : List (List ℕ)
  pub rest : List (List ℕ)
  pub split : lines ≡ done ++ rest
  pub written : Appends old new (replies text after initial done)
  pub texts : buffer.text.items ≡ replies text after (fold after initial done) rest
  pub places : buffer.ends.items ≡ ends_from text after 0 (fold after initial done) rest
  pub reached : now ≡ fold after initial lines
  pub changes : ChangesFirst after (fold after initial done) rest

-- another reply waits
pub record Pushes (old new : ReplyBuffer) (reply : List ℕ) : Type 0 where
  pub text : new.text.items ≡ old.text.items ++ reply
  pub ends : new.ends.items ≡ old.ends.items ++ length new.text.items ∷ []

-- what waited is written, and nothing waits
pub record Writes (written now : Option (List ℕ)) (old new : ReplyBuffer) : Type 0 where
  pub all : Appends written now old.text.items
  pub text : new.text.items ≡ []
  pub ends : new.ends.items ≡ []

-- some bytes of what waited are written, and this many replies of it not whole
pub record WritesSome (written now : Option (List ℕ)) (buffer : ReplyBuffer)
    (unwritten : ℕ) : Type 0 where
  pub bytes : ℕ
  pub within : bytes ≤ length buffer.text.items
  pub some : Appends written now (take bytes buffer.text.items)
  pub count : unwritten + count_by (λ end. nat_le end bytes) buffer.ends.items
      ≡ length buffer.ends.items

-- a reply was added that changes nothing, or what waited was written before it
abbrev pub Adds : {S : Type 0} → S → S → List ℕ → Option (List ℕ) → Option (List ℕ) → ReplyBuffer →
    ReplyBuffer → Type 0
Adds s u reply written now old new =
    ((u ≡ s) × (now ≡ written) × Pushes old new reply)
    ⊎ (Appends written now old.text.items × (new.text.items ≡ reply)
    × (new.ends.items ≡ length reply ∷ []))

-- nothing was written, or all that waited
abbrev pub Settles : Option (List ℕ) → Option (List ℕ) → ReplyBuffer → ReplyBuffer → Type 0
Settles written now old new =
    ((now ≡ written) × (new.text.items ≡ old.text.items) × (new.ends.items ≡ old.ends.items))
    ⊎ Writes written now old new

-- a prefix of the replies is written, with those to n lines whole and no more, and no line after
-- the next has changed anything
pub record InPart {S : Type 0} (text : S → List ℕ → List ℕ) (after : S → List ℕ → S)
    (initial now : S)
    (lines : List (List ℕ)) (old new : Option (List ℕ)) (n : ℕ) : Type 0 where
  pub bytes : ℕ
  pub enough : n ≤ length lines
  pub within : bytes ≤ length (replies text after initial lines)
  pub written : Appends old new (take bytes (replies text after initial lines))
  pub whole : length (replies text after initial (take n lines)) ≤ bytes
  pub no_more : n < length lines → bytes < length (replies text after initial (take (n + 1) lines))
  pub reached : (now ≡ fold after initial (take n lines))
      ⊎ ((n < length lines) × (now ≡ fold after initial (take (n + 1) lines)))
