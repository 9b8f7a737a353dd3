-- What an audit without a fault says of a transcript: each reply is what the journal gives, and no
-- reader's editions fall.
use Rattle.std.specs.Prelude.{◌≡◌, ◌≤◌, ℕ, ◌==◌, if◌then◌else◌, List, [], ◌∷◌, ◌++◌, length}
use Rattle.std.specs.Prelude.{false, Result, Ok, Err}
use Rattle.std.specs.List.{All}
use Rattle.serde_json.specs.Written.{has_float}
use Rattle.osn_core.specs.History.{NeverFalls}
use Rattle.osn_core.specs.Sequential.{ObjectState}
use Rattle.osn_request.specs.declared.wire_fault.WireFault.{WireFault}
use Rattle.osn_request.specs.Field.{◌>>=◌}
use Rattle.osn_request.specs.Request.{object_of}
use Rattle.osn_service.specs.ReplyText.{line_of}
use Rattle.osn_file_commands.specs.TranscriptAudit.{TranscriptLine, entry_in, line_due}

-- what a line of a transcript says
abbrev pub entry_of : List ℕ → Result TranscriptLine WireFault
entry_of line = object_of line >>= entry_in

-- a line is a query with a reply. Written without spaces, the reply is the line of the object's
-- reply to the query after the first batches, as many as the edition that it names
pub record IsAnswered (s : ObjectState) (line : List ℕ) : Type 0 where
  pub entry : TranscriptLine
  pub says : entry_of line ≡ Ok entry
  pub there : entry.edition ≤ length s.batches
  pub no_float : has_float entry.reply ≡ false
  pub reply : line_of entry.reply ≡ line_due s entry

-- the editions of the replies to a reader in the lines, in order
abbrev pub edition_of_reply : ℕ → Result TranscriptLine WireFault → List ℕ
edition_of_reply reader (Ok e) = if e.reader == reader then e.edition ∷ [] else []
edition_of_reply reader (Err f) = []

abbrev pub editions_of_replies : ℕ → List (List ℕ) → List ℕ
editions_of_replies reader [] = []
editions_of_replies reader (line ∷ rest) =
    edition_of_reply reader (entry_of line) ++ editions_of_replies reader rest

-- each line is answered, and no reader's editions fall
pub record Agrees (s : ObjectState) (lines : List (List ℕ)) : Type 0 where
  pub answered : All (IsAnswered s) lines
  pub forward : (reader : ℕ) → NeverFalls 0 (editions_of_replies reader lines)
