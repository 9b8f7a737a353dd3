use Rattle.std.proofs.Common.{◌≡◌, drop, map}
use Rattle.std.specs.List.{list_any}
use Rattle.osn_page_commands.specs.PageText.{line_fails}
use Rattle.osn_page_commands.proofs.dates.one_fails.Given as goal

-- the lines that are left decide
abbrev pub invariant-loop-text : goal.invariant-loop-text
invariant-loop-text l =
    list_any (line_fails l.register.territories l.code l.rules) (map (λ text. text.now) l.texts)
    ≡ list_any (line_fails l.register.territories l.code l.rules)
    (map (λ text. text.now) (drop l.text-index l.texts))
