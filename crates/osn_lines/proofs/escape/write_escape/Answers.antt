use Rattle.std.proofs.Common.{◌≤◌, ◌++◌, ◌∙◌, append_assoc, ap, flat_map, refl, subst, sym}
use Rattle.std.proofs.Output.{has_written_append}
use Rattle.std.specs.Char.{encode_utf8}
use Rattle.std.specs.Char.Iter.{escape_rest}
use Rattle.osn_lines.proofs.escape.write_escape.Goals as goal

pub loop-part-preserved : goal.loop-part-preserved
loop-part-preserved g c =
    let steps = c.in-Some.ensures.steps in
    let after = escape_rest c.next.new.self in
    let this = encode_utf8 c.in-Some.part in (
      subst (λ n. n ≤ 10) (sym steps.0) c.loop-part.invariant.0,
      λ plain.
          let (done, wrote, whole) = c.loop-part.invariant.1 plain in (
            done ++ this,
            has_written_append _ _ _ _ _ _ wrote (c.in_ok-write_char.ensures.writes wrote.plain
                refl),
            append_assoc done this (flat_map encode_utf8 after)
                ∙ ap (λ cs. done ++ flat_map encode_utf8 cs) (sym steps.1.0) ∙ whole,
          ),
    )
