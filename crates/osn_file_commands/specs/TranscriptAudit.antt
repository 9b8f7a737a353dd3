-- The audit of a transcript: its lines compared in turn with the object of a journal, up to the
-- first that is refused. This project's profile.
use Rattle.std.specs.Prelude.{ℕ, ◌-◌, ℤ, pos, int_le, unsigned_abs, nat_lt, ◌&&◌, not, Bool, List}
use Rattle.std.specs.Prelude.{length, take, replicate, slice_index, slice_set, if◌then◌else◌}
use Rattle.std.specs.Prelude.{Some, option_and_then, Result, Ok, Err}
use Rattle.std.specs.Str.{bytes_eq}
use Rattle.serde_json.specs.Data.{Data}
use Rattle.serde_json.specs.Find.{get}
use Rattle.serde_json.specs.Written.{has_float}
use Rattle.osn_days.specs.Rules.{newest_rules}
use Rattle.osn_register.specs.declared.query.Query.{Query}
use Rattle.osn_core.specs.Sequential.{ObjectState, reply_at}
use Rattle.osn_request.specs.declared.member.Member.{Member}
use Rattle.osn_request.specs.declared.member.Member.TheVariants.{Ask, Reply, Edition}
use Rattle.osn_request.specs.declared.wire_fault.WireFault.{WireFault}
use Rattle.osn_request.specs.declared.wire_fault.WireFault.TheVariants.{BadField, WrongReply}
use Rattle.osn_request.specs.declared.wire_fault.WireFault.TheVariants.{UnknownEdition, EditionFell}
use Rattle.osn_request.specs.Field.{◌>>=◌, or_fault, whole_at}
use Rattle.osn_request.specs.LineObject.{if_object}
use Rattle.osn_request.specs.Member.{member_name}
use Rattle.osn_request.specs.declared.version.Version.{Version}
use Rattle.osn_request.specs.Version.{newest_version}
use Rattle.osn_files.specs.declared.fault.LineFault.{LineFault}
use Rattle.osn_files.specs.Questions.{most_readers, question_in}
use Rattle.osn_files.specs.Turns.{on_read, in_turn}
use Rattle.osn_service.specs.declared.outcome.Outcome.TheVariants.{Replied}
use Rattle.osn_service.specs.ReplyText.{line_of, reply_line}

-- what a line of a transcript says: who asked what, the edition that the reply names, and the reply
pub record TranscriptLine : Type 0 where
  pub reader : ℕ
  pub query : Query
  pub edition : ℕ
  pub reply : Data

-- a member that is an object
abbrev pub object_at : Member → Data → Result Data WireFault
object_at m d = or_fault (BadField m) (option_and_then if_object (get (member_name m) d))

abbrev pub edition_in : ℤ → Result ℕ WireFault
edition_in n =
    if int_le (pos 0) n && int_le n (pos 4294967295) then Ok (unsigned_abs n)
    else Err (BadField Edition)

-- the edition that a reply names
abbrev pub edition_of : Data → Result ℕ WireFault
edition_of reply = whole_at Edition reply >>= edition_in

-- what the object of a line says
unfoldable pub entry_in : Data → Result TranscriptLine WireFault
entry_in d = do
  ask ← object_at Ask d
  asked ← question_in ask
  reply ← object_at Reply d
  edition ← edition_of reply
  Ok (record { reader = asked.0; query = asked.1; edition = edition; reply = reply })

-- an edition that is there, and not before the reader's last one
abbrev pub known_edition : ℕ → ℕ → ℕ → Result ℕ WireFault
known_edition editions last edition =
    if nat_lt editions edition then Err UnknownEdition
    else (if nat_lt edition last then Err EditionFell else Ok edition)

-- the line of the reply to the query under the edition
abbrev pub line_due : ObjectState → TranscriptLine → List ℕ
line_due s e = reply_line
    (Replied e.reader (reply_at newest_rules s.limits (take e.edition s.batches) e.query))

-- a reply without a number that is read as a float has this line: the text of such a number is not
-- defined
abbrev pub has_line : Data → List ℕ → Bool
has_line reply line = not (has_float reply) && bytes_eq (line_of reply) line

abbrev pub reply_if_equal : Data → List ℕ → Result Data WireFault
reply_if_equal reply line = if has_line reply line then Ok reply else Err WrongReply

-- the edition of a reader's last reply. Readers are counted from 1
abbrev pub last_of : List ℕ → ℕ → ℕ
last_of last reader = slice_index last (reader - 1)

-- an entry that may be compared with the object: its reader may be given its edition, and its reply
-- has no number that is read as a float
abbrev pub entry_if_valid : ObjectState → List ℕ → TranscriptLine → Result TranscriptLine WireFault
entry_if_valid s last e =
    known_edition (length s.batches) (last_of last e.reader) e.edition
    >>= λ edition. if has_float e.reply then Err WrongReply else Ok e

-- the editions of the readers' last replies, with that of an entry, or why it is refused
abbrev pub after_entry : ObjectState → List ℕ → TranscriptLine → Result (List ℕ) WireFault
after_entry s last e =
    known_edition (length s.batches) (last_of last e.reader) e.edition
    >>= λ edition. reply_if_equal e.reply (line_due s e)
    >>= λ reply. Ok (slice_set last (e.reader - 1) e.edition)

-- the editions of the readers' last replies with that of a line's object, or the fault of the line
abbrev pub after_object : ObjectState → Version → List ℕ → Data → Result (List ℕ) LineFault
after_object s version last d = on_read (entry_in d >>= after_entry s last) Ok

-- no reader has a reply
abbrev pub no_replies : List ℕ
no_replies = replicate most_readers 0

-- the editions of the readers' last replies after the lines of a transcript, or the first fault and
-- the number of its line, counted from 1
abbrev pub after_lines : ObjectState → List (List ℕ) → Result (List ℕ) (ℕ × LineFault)
after_lines s = in_turn (after_object s) 1 (Some newest_version) no_replies

abbrev pub count_or_fault : ℕ → Result (List ℕ) (ℕ × LineFault) → Result ℕ (ℕ × LineFault)
count_or_fault n (Ok last) = Ok n
count_or_fault n (Err f) = Err f

-- how many lines of a transcript agree, which is all of them, or the first fault
abbrev pub agreed_lines : ObjectState → List (List ℕ) → Result ℕ (ℕ × LineFault)
agreed_lines s transcript = count_or_fault (length transcript) (after_lines s transcript)
