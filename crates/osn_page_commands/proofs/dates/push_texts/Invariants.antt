use Rattle.std.proofs.Common.{◌≡◌, ◌++◌, drop, map, string_bytes}
use Rattle.std.specs.List.{flat_map}
use Rattle.osn_core.specs.Edition.{edition_model}
use Rattle.osn_page_commands.specs.PageText.{line_text}
use Rattle.osn_page_commands.proofs.dates.push_texts.Given as goal

-- what is printed for the lines that are left is still to come
abbrev pub invariant-loop-text : goal.invariant-loop-text
invariant-loop-text l =
    string_bytes l.initial.out ++ flat_map (line_text (edition_model l.edition) l.code l.rules)
    (map (λ text. text.now) l.texts)
    ≡ string_bytes l.out ++ flat_map (line_text (edition_model l.edition) l.code l.rules)
    (map (λ text. text.now) (drop l.text-index l.texts))
