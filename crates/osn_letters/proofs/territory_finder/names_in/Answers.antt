use Rattle.std.proofs.Common.{◌≡◌, ◌∙◌, [], drop, ap, sym, arith}
use Rattle.osn_letters.proofs.NameFacts.{all_read, none_called, not_listed, only_of_all, past_last}
use Rattle.osn_letters.proofs.NameFacts.{territory_read, with_rest}
use Rattle.osn_letters.proofs.territory_finder.names_in.Goals as goal
use Rattle.osn_letters.proofs.territory_finder.names_in.Goals.{else-loop-index-test}
use Rattle.osn_letters.proofs.territory_finder.names_in.Goals.{then-loop-index-test+in_default}

pub loop-index-init : goal.loop-index-init
loop-index-init c = λ text.
    let territories = c.args.register.now.territories in
    ap (λ found. with_rest text found territories)
    (none_called c.new-names.result text c.new-names.ensures.empty)
    ∙ only_of_all text territories

pub loop-index-preserved : goal.loop-index-preserved
loop-index-preserved c = λ text.
    territory_read c.args.register.now.territories c.loop-index.index c.in-Some.code.now
    c.in-Some.name.now c.in-Some.territory.now text _ _ (sym c.in-Some.ensures.value)
    (c.in_ok-add_territory.ensures text) (c.loop-index.invariant text)

none_left : (c : goal.Left-loop-index) →
    drop c.loop-index.index c.args.register.now.territories ≡ []
none_left c =
    let territories = c.args.register.now.territories in
    elim c.loop-index-test.branch [
      | else-loop-index-test w ↦
          past_last territories c.loop-index.index (omega (
            arith,
            c.limits-index-end.ensures.well_formed.within,
            ap (λ m. m.lands) c.limits-index-end.ensures.value,
            w.loop-index-test.false,
          ))
      | then-loop-index-test+in_default w ↦
          not_listed territories c.loop-index.index (sym w.in_default.ensures.value)
    ]

pub returns : goal.returns
returns c = λ text.
    all_read c.args.register.now.territories c.loop-index.index text _ (none_left c)
    (c.loop-index.invariant text)
