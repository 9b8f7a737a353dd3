use Rattle.std.proofs.Common.{◌≡◌, ◌+◌, ◌≤◌, [], drop}
use Rattle.csv.specs.Records.{partial_of}
use Rattle.osn_letters.specs.PlacesInside.{found_from}
use Rattle.osn_letters.proofs.place_reader.PlaceReader.take_all.Given as goal

-- the bytes so far were taken
abbrev pub invariant-loop-byte : goal.invariant-loop-byte
invariant-loop-byte l =
    record {
      partial : partial_of l.self.parser.fields ≡ [];
      line : l.self.parser.line ≤ 1 + l.byte-index;
      entries : found_from l.initial.self l.bytes
          ≡ found_from l.self (drop l.byte-index l.bytes);
    }
