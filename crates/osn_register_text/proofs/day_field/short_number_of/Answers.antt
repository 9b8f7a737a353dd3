use Rattle.std.proofs.Common.{◌<◌, ◌≤◌, length, arith}
use Rattle.osn_register_text.proofs.NumberLemmas.{short_below}
use Rattle.osn_register_text.proofs.day_field.short_number_of.Goals as goal

pub overflow_cast-result : goal.overflow_cast-result
overflow_cast-result c =
    let n = c.in_ok-number_of.field-0 in
    let few : length c.args.part.now ≤ 2 = omega (arith, c.if-part-gt2.false) in
    let below : n < 100 = short_below c.args.part.now n c.in_ok-number_of.ensures.value few in
    omega (arith, below)
