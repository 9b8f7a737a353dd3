use Rattle.std.proofs.Common.{◌≡◌, ◌∙◌, ap, false, true, length, Some, arith}
use Rattle.toml.specs.View.{view}
use Rattle.osn_register_text.proofs.MemberLemmas.{only_member-one, only_member-others}
use Rattle.osn_register_text.proofs.day_field.only_member.Goals as goal
use Rattle.osn_register_text.proofs.day_field.only_member.Goals.{in_default-via-in-Some+else-len-eq1}
use Rattle.osn_register_text.proofs.day_field.only_member.Goals.{in_default-via-in_default}

pub returns-in-Some : goal.returns-in-Some
returns-in-Some c =
    let one : length c.args.table.now.entries ≡ 1 =
    omega (arith, c.len.ensures.len, c.if-len-eq1.true) in
    ap (λ k. Some (k, view c.in-Some.value.now)) c.as_str.ensures.value
    ∙ only_member-one c.args.table.now.entries c.in-Some.name.now c.in-Some.value.now one
    c.in-Some.ensures.first

pub returns-in_default : goal.returns-in_default
returns-in_default c =
    only_member-others c.args.table.now.entries (λ one.
    elim c.in_default.branch [
      | in_default-via-in-Some+else-len-eq1 w ↦ w.if-len-eq1.false (w.len.ensures.len ∙ one)
      | in_default-via-in_default w ↦
          let some : false ≡ true = w.in_default.ensures.variant.1 (omega (arith, one)) in cc
    ])
