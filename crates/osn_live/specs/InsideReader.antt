-- How a reader keeps its state.
use Rattle.std.specs.Prelude.{◌≡◌, true, Option, Some, None, Result, IfOk, OnErr}
use Rattle.std.specs.declared.alloc.AllocError.{AllocError}
use Rattle.left_right.specs.Sides.{view}
use Rattle.osn_days.specs.Rules.{newest_rules}
use Rattle.osn_register.specs.declared.query.Query.{Query}
use Rattle.osn_register.specs.Answer.{takes_memory}
use Rattle.osn_core.specs.declared.step.Reply.{Reply}
use Rattle.osn_core.specs.Sequential.{reply_at}
use Rattle.osn_live.specs.declared.protocol.Origin.{Origin}
use Rattle.osn_live.specs.Certificate.{CertificateState}
use Rattle.osn_live.specs.declared.reader.Reader.TheInside.{Inside}
use Rattle.osn_live.specs.Running.{ReaderState, edition_of, origin_of}

abbrev pub reader_in : Inside → ReaderState
reader_in r = record {
  origin = origin_of (edition_of r.limits r.certificate);
  seen = r.certificate.batches;
}

-- the place of the reader belongs to the register that the reader is of
abbrev pub IsPlaced : Inside → Type 0
IsPlaced r = view r.place.place ≡ Some (origin_of (edition_of r.limits r.certificate))

-- a look at one moment gives the answer under the batches that were published then
abbrev pub IsAnswerAt : Origin → Query → Option (CertificateState × Result Reply AllocError) →
    Type 0
IsAnswerAt o query None = Unit {0}
IsAnswerAt o query (Some look) =
    let reply = reply_at newest_rules o.limits look.0.batches query in
    (look.0.book ≡ o.book) × IfOk look.1 (λ r. r ≡ reply)
    × OnErr look.1 (takes_memory reply.answer ≡ true)
