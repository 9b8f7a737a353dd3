use Rattle.std.proofs.Common.{◌≡◌, rules, to_z, of_z, w64}
use Rattle.osn_files.proofs.written.write_change.Goals as goal

pub returns-clause-tokens : goal.returns-clause-tokens
returns-clause-tokens c =
    let day : to_z w64 (of_z w64 c.args.day) ≡ c.args.day = search rules in
    rw (
      c.word.ensures,
      c.as_str.ensures.value,
      day,
      c.word-2.ensures,
      c.word-3.ensures,
    ) at c.write_object.ensures.tokens
