use Rattle.osn_files.proofs.written.write_add_land.Goals as goal

pub returns-clause-tokens : goal.returns-clause-tokens
returns-clause-tokens c =
    rw (
      c.word.ensures,
      c.as_str.ensures.value,
      c.as_str-2.ensures.value,
      c.word-2.ensures,
      c.word-3.ensures,
    ) at c.write_object.ensures.tokens
