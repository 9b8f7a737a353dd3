use Rattle.std.proofs.Common.{◌++◌, [], chars, flat_map, refl, sym, ap, ◌∙◌, append_assoc}
use Rattle.std.proofs.Common.{append-nil, rules}
use Rattle.std.proofs.Output.{writes_in_calls_nil, has_written_append, has_written_of_eq}
use Rattle.std.proofs.lemmas.Str.{IsUtf8-past_char, chars_past_char}
use Rattle.std.specs.Str.Iter.{chars_rest}
use Rattle.osn_lines.specs.Escape.{escaped_text, escaped_char}
use Rattle.osn_lines.proofs.EscapedLemmas.{empty_escaped}
use Rattle.osn_lines.proofs.escape.EscapedTextDisplay.fmt.Goals as goal

pub loop-c-init : goal.loop-c-init
loop-c-init g c = (
  search rules,
  λ plain. (
    [],
    record { wrote = writes_in_calls_nil _ _; plain = plain },
    ap (λ text. flat_map escaped_char (chars text))
        (ap chars_rest c.into_iter-c-iterator.ensures.into_iter_gives
        ∙ c.chars-c-items.ensures.rest),
  ),
)

pub loop-c-preserved : goal.loop-c-preserved
loop-c-preserved g c =
    let utf8 = c.loop-c.invariant.0 in
    let parts = c.in-Some.ensures.steps.0 in
    let before = chars_rest c.loop-c.c-iterator in
    let after = chars_rest c.next.new.self in
    let this = escaped_char c.in-Some.c in (
      IsUtf8-past_char before after c.in-Some.c utf8 parts,
      λ plain.
          let (done, wrote, whole) = c.loop-c.invariant.1 plain in (
            done ++ this,
            has_written_append _ _ _ _ _ _ wrote (c.in_ok-write_escaped.ensures wrote.plain refl),
            append_assoc done this (flat_map escaped_char (chars after))
                ∙ ap (λ cs. done ++ flat_map escaped_char cs)
                (sym (chars_past_char before after c.in-Some.c utf8 parts)) ∙ whole,
          ),
    )

pub returns-clause-writes : goal.returns-clause-writes
unfolding escaped_text
returns-clause-writes g c plain ok =
    let (done, wrote, whole) = c.loop-c.invariant.1 plain in
    has_written_of_eq _ _ _ _ _ (sym (append-nil done)
    ∙ ap (λ cs. done ++ flat_map escaped_char cs)
    (sym (empty_escaped _ c.in-None.ensures.steps.0.0)) ∙ whole) wrote
