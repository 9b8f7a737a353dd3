use Rattle.std.proofs.Common.{◌≡◌}
use Rattle.toml.specs.View.{members_view}
use Rattle.osn_register_text.specs.Field.{unknown_key}
use Rattle.osn_register_text.proofs.MemberLemmas.{unknown_among}
use Rattle.osn_register_text.proofs.field.unknown_key.Given as goal

-- The first unknown key of all is the first one of those that are left.
abbrev pub invariant-loop-name : goal.invariant-loop-name
invariant-loop-name l =
    unknown_key l.part (members_view l.table.entries) ≡ unknown_among l.part l.name-iterator
