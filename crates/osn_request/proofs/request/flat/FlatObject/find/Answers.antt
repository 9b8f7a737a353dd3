use Rattle.std.proofs.Common.{◌-◌, ◌≤◌, ◌∙◌, ap, sym, arith, length, take}
use Rattle.serde_json.specs.Find.{get_member}
use Rattle.osn_request.specs.Flat.{put_all}
use Rattle.osn_request.proofs.FlatLemmas.{last_found, last_other}
use Rattle.osn_request.proofs.request.flat.FlatObject.find.Goals as goal

pub returns-then-eq : goal.returns-then-eq
returns-then-eq c =
    let ms = c.as_slice-members.result.now in
    let n = c.loop-before.before in
    let same = c.as_slice-members.ensures.value in
    let within : n ≤ length ms = rw same c.loop-before.invariant.0 in
    last_found ms n _ c.args.name.now c.loop-before-test.true within (sym c.if-eq.ensures)
    ∙ ap (λ xs. get_member c.args.name.now (put_all (take n xs))) same
    ∙ sym c.loop-before.invariant.1

pub loop-before-preserved : goal.loop-before-preserved
loop-before-preserved c =
    let ms = c.as_slice-members.result.now in
    let n = c.loop-before.before in
    let same = c.as_slice-members.ensures.value in
    let within : n ≤ length ms = rw same c.loop-before.invariant.0 in
    let some = c.loop-before-test.true in
    let other = last_other ms n _ c.args.name.now some within (sym c.if-eq.ensures) in (
      omega (arith, c.loop-before.invariant.0),
      c.loop-before.invariant.1
          ∙ ap (λ xs. get_member c.args.name.now (put_all (take n xs))) (sym same)
          ∙ other
          ∙ ap (λ xs. get_member c.args.name.now (put_all (take (n - 1) xs))) same,
    )
