use Rattle.std.proofs.Common.{◌≡◌, rules, to_z, of_z, w64}
use Rattle.osn_files.proofs.written.write_drop_exception.Goals as goal

pub returns-clause-tokens : goal.returns-clause-tokens
returns-clause-tokens c =
    let year : to_z w64 (of_z w64 c.args.year) ≡ c.args.year = search rules in
    rw (c.as_str.ensures.value, year) at c.write_object.ensures.tokens
