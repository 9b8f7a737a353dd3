use Rattle.std.proofs.Common.{◌≡◌, true, ◌∷◌, ◌++◌, map, ap, sym, subst, ◌∙◌, string_bytes}
use Rattle.osn_days.specs.Rules.{newest_rules}
use Rattle.osn_register.specs.declared.register.NamedTerritory.{NamedTerritory}
use Rattle.osn_register.specs.Plain.{IsWellFormed}
use Rattle.osn_register.specs.Inside.{entry_in, sources_in}
use Rattle.osn_register.proofs.EntryFacts.{copied_absent, copied_room, copied_within, copied_more}
use Rattle.osn_register.proofs.EntryFacts.{copied_named, copied_some, copied_sources, same_register}
use Rattle.osn_register.proofs.EntryFacts.{on_err}
use Rattle.osn_register.specs.Code.{is_code, is_name}
use Rattle.osn_register.proofs.register.Register.copy.Goals as goal
use Rattle.osn_register.proofs.register.Register.copy.Goals.{After-as_str}

well_formed : (c : After-as_str) → IsWellFormed newest_rules c.args.self.now
well_formed c = subst (IsWellFormed newest_rules) c.self.view_is c.self.invariant

-- what is copied, this territory and those left are all
all : (c : After-as_str) → c.loop-code.copied.territories ++ entry_in string_bytes (λ v. v.name)
    (λ v. v.territory) (λ v. sources_in v.sources) (c.in-Some.code.now, c.in-Some.entry.now) ∷ map
    (entry_in string_bytes (λ v. v.name) (λ v. v.territory)
    (λ v. sources_in v.sources)) c.next.new.self ≡ c.args.self.now.territories
all c = ap (λ it. c.loop-code.copied.territories ++ map (entry_in string_bytes (λ v. v.name)
    (λ v. v.territory) (λ v. sources_in v.sources)) it)
    (sym c.in-Some.ensures.steps) ∙ c.loop-code.invariant.1

pub insert_copy-requires-clause-absent : goal.insert_copy-requires-clause-absent
insert_copy-requires-clause-absent c = copied_absent _ _ _ _ c.as_str.result.now (all c)
    (well_formed c).distinct c.as_str.ensures.value

named : (c : After-as_str) → (is_code (string_bytes c.in-Some.code.now) ≡ true)
    × (is_name c.in-Some.entry.now.name ≡ true)
named c = copied_named _ (entry_in {V = NamedTerritory} string_bytes (λ v. v.name)
    (λ v. v.territory) (λ v. sources_in v.sources) (c.in-Some.code.now, c.in-Some.entry.now)) _ _
    (all c) (well_formed c).named

pub insert_copy-requires-clause-code : goal.insert_copy-requires-clause-code
insert_copy-requires-clause-code c = ap is_code c.as_str.ensures.value ∙ (named c).0

pub insert_copy-requires-clause-name : goal.insert_copy-requires-clause-name
insert_copy-requires-clause-name c = (named c).1

pub insert_copy-requires-clause-room : goal.insert_copy-requires-clause-room
insert_copy-requires-clause-room c = copied_room _ _ _ _ _ _ (all c) (well_formed c).within
    (ap (λ m. m.lands) c.loop-code.invariant.0)

pub insert_copy-requires-clause-territory : goal.insert_copy-requires-clause-territory
insert_copy-requires-clause-territory c = copied_within newest_rules _ _ _ _ _ _ (all c)
    (well_formed c).territories c.loop-code.invariant.0

pub insert_copy-requires-clause-sources : goal.insert_copy-requires-clause-sources
insert_copy-requires-clause-sources c = copied_sources _ (entry_in {V = NamedTerritory}
    string_bytes (λ v. v.name) (λ v. v.territory) (λ v. sources_in v.sources)
    (c.in-Some.code.now, c.in-Some.entry.now)) _ _ (all c) (well_formed c).sources

pub loop-code-preserved : goal.loop-code-preserved
loop-code-preserved c =
    let L = entry_in {V = NamedTerritory} string_bytes (λ v. v.name) (λ v. v.territory)
    (λ v. sources_in v.sources) in (
      ap (λ r. r.limits) c.in_ok-insert_copy.ensures.ok ∙ c.loop-code.invariant.0,
      ap (λ r. r.territories ++ map L c.next.new.self) c.in_ok-insert_copy.ensures.ok
          ∙ copied_more c.loop-code.copied.territories (L (c.in-Some.code.now, c.in-Some.entry.now))
          (map L c.next.new.self) c.args.self.now.territories c.as_str.result.now
          (ap (λ it. c.loop-code.copied.territories ++ map L it) (sym c.in-Some.ensures.steps)
          ∙ c.loop-code.invariant.1) c.as_str.ensures.value,
    )

pub returns-clause-value : goal.returns-clause-value
returns-clause-value c = same_register c.loop-code.copied c.args.self.now c.loop-code.invariant.0
    (ap (λ it. c.loop-code.copied.territories ++ map (entry_in string_bytes (λ v. v.name)
    (λ v. v.territory) (λ v. sources_in v.sources)) it)
    (sym c.in-None.ensures.steps.0) ∙ c.loop-code.invariant.1)

pub returns-in_err-insert_copy-clause-memory : goal.returns-in_err-insert_copy-clause-memory
returns-in_err-insert_copy-clause-memory c =
    let L = entry_in {V = NamedTerritory} string_bytes (λ v. v.name) (λ v. v.territory)
    (λ v. sources_in v.sources) in
    on_err c.from_residual.result (copied_some c.loop-code.copied.territories
    (L (c.in-Some.code.now, c.in-Some.entry.now)) (map L c.next.new.self)
    c.args.self.now.territories
    (ap (λ it. c.loop-code.copied.territories ++ map L it) (sym c.in-Some.ensures.steps)
    ∙ c.loop-code.invariant.1))
