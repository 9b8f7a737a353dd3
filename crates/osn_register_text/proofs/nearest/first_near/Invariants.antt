use Rattle.std.proofs.Common.{◌≡◌, drop, find, map}
use Rattle.osn_lines.specs.Near.{is_near}
use Rattle.osn_register_text.proofs.nearest.first_near.Given as goal

-- what is left decides
abbrev pub invariant-loop-name : goal.invariant-loop-name
invariant-loop-name l =
    find (is_near l.most l.word) (map (λ name. name.now) l.names)
    ≡ find (is_near l.most l.word) (map (λ name. name.now) (drop l.name-index l.names))
