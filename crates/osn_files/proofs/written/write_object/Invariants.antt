use Rattle.std.proofs.Common.{◌≡◌, ◌++◌, drop}
use Rattle.osn_request.specs.Json.{value_tokens}
use Rattle.osn_files.specs.WrittenInside.{members_of, object_of, rest_tokens}
use Rattle.osn_files.proofs.written.write_object.Given as goal

-- the tokens so far and the members that are left make the whole object
abbrev pub invariant-loop-field : goal.invariant-loop-field
invariant-loop-field l =
    record {
      tokens : l.out.tokens ++ rest_tokens (members_of (drop l.field-index l.fields))
          ≡ l.fn.out.tokens ++ value_tokens (object_of l.fields);
      before : l.out.before ≡ l.fn.out.before;
    }
