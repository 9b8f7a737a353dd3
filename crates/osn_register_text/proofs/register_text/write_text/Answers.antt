use Rattle.std.proofs.Common.{◌≡◌, ◌++◌, ◌∙◌, string_bytes, option_map, ap, sym, arith, subst}
use Rattle.osn_days.specs.Rules.{newest_rules}
use Rattle.osn_register.specs.NamedTerritories.{listing_of}
use Rattle.osn_register_text.specs.Says.{SaysRegister}
use Rattle.osn_register_text.specs.WrittenText.{edition_line, register_text, territories_text}
use Rattle.std.proofs.lemmas.Option.{slice_get_past}
use Rattle.osn_register_text.proofs.ReadBack.{register_says}
use Rattle.osn_register_text.proofs.TextSteps.{territory_step, territories_end}
use Rattle.osn_register_text.proofs.register_text.write_text.Goals as goal
use Rattle.osn_register_text.proofs.register_text.write_text.Goals.{else-each-test}
use Rattle.osn_register_text.proofs.register_text.write_text.Goals.{then-each-test+in_default}

pub each-init : goal.each-init
unfolding register_text
each-init c =
    let n = c.args.edition in
    ap (λ t. t ++ territories_text newest_rules c.args.register.now.territories)
    (sym (c.in_ok-push_edition.ensures
    ∙ ap (λ t. t ++ edition_line n) c.in_ok-text.ensures.bytes))

pub each-preserved : goal.each-preserved
each-preserved c =
    territory_step c.args.register.now.territories c.each.index c.in-Some.code.now
    c.in-Some.name.now
    c.in-Some.territory.now _ (string_bytes c.each.text)
    (string_bytes c.push_next_territory.new.out)
    c.in-Some.ensures.well_formed.distinct c.in-Some.ensures.value c.each.invariant
    c.in_ok-push_next_territory.ensures

whole : (c : goal.Left-each) → string_bytes c.each.text
    ≡ register_text newest_rules c.args.edition c.args.register.now.territories
whole c =
    let territories = c.args.register.now.territories in
    elim c.each-test.branch [
      | else-each-test w ↦
          territories_end territories c.each.index _ (string_bytes c.each.text)
          (ap (option_map listing_of) (sym (slice_get_past territories c.each.index (omega (
            arith,
            c.limits-index-end.ensures.well_formed.within,
            ap (λ m. m.lands) c.limits-index-end.ensures.value,
            w.each-test.false,
          )))))
          c.each.invariant
      | then-each-test+in_default w ↦
          territories_end territories c.each.index _ (string_bytes c.each.text)
          w.in_default.ensures.value
          c.each.invariant
    ]

pub returns-clause-text : goal.returns-clause-text
returns-clause-text c = whole c

pub returns-clause-reads_back : goal.returns-clause-reads_back
returns-clause-reads_back c =
    let r = c.args.register.now in
    let n = c.args.edition in
    subst (λ text. SaysRegister r text n r.territories) (sym (whole c)) (register_says n r)
