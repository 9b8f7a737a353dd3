use Rattle.std.proofs.Common.{◌≡◌, ◌+◌, ◌*◌, ◌≤◌, ℕ, List, [], ◌++◌, length}
use Rattle.std.specs.Io.KnownBytes.{Consumes}
use Rattle.osn_days.specs.Rules.{newest_rules}
use Rattle.osn_letters.specs.LettersInside.{IsReady, Passes, tally_from, text_from}
use Rattle.osn_letters.specs.TableInside.{letters_tally}
use Rattle.osn_letters.specs.Table.{letters_written, basis}
use Rattle.osn_letters.specs.WriterInside.{waiting}
use Rattle.osn_letters.proofs.CountFacts.{CountsRead}
use Rattle.osn_letters.proofs.stream.write_letters.Given as goal

-- of what was read all that comes of it was written
abbrev pub invariant-loop-call : goal.invariant-loop-call
invariant-loop-call g l =
    record {
      buffer : length l.buffer.items ≡ 65536;
      few : l.letters.parser.line ≤ 1 + 65536 * l._call;
      ready : IsReady l.letters;
      empty : waiting l.letters.table.out ≡ [];
      source : g.R.Source.has_failed l.source ≡ g.R.Source.has_failed l.fn.source;
      sink : g.W.Sink.has_failed l.sink ≡ g.W.Sink.has_failed l.fn.sink;
      progress : (read : List ℕ) × (l._call ≤ length read)
          × Consumes (g.R.Source.remaining l.fn.source) (g.R.Source.remaining l.source) read
          × ((more : List ℕ)
          → Passes (g.W.Sink.contents l.fn.sink) (g.W.Sink.contents l.sink)
          (letters_written (basis newest_rules l.fn.register.territories l.fn.edition l.fn.settings)
          (read ++ more))
          (text_from l.letters more))
          × CountsRead
          (letters_tally (basis newest_rules l.fn.register.territories l.fn.edition l.fn.settings))
          (tally_from l.letters) read;
    }
