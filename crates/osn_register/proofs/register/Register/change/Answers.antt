use Rattle.std.proofs.Common.{◌≡◌, Ok, Err, Option, Some, None, IsSome, ap, sym, subst, ◌∙◌, refl}
use Rattle.std.proofs.Common.{option_map, string_bytes}
use Rattle.std.specs.declared.result.Result.{Result}
use Rattle.std.specs.Result.{OnOk, OnErr}
use Rattle.std.specs.Option.{option_copied_mut}
use Rattle.osn_days.specs.Rules.{newest_rules}
use Rattle.osn_territory.specs.Territory.{TerritoryModel}
use Rattle.osn_register.specs.declared.register.NamedTerritory.{NamedTerritory}
use Rattle.osn_register.specs.Plain.{territory_of, with_territory, IsWellFormed}
use Rattle.osn_register.specs.InsideChange.{change_refusal, territory_after, sources_after}
use Rattle.osn_register.specs.Sources.{SourcesModel}
use Rattle.osn_register.proofs.SourceFacts.{has_after}
use Rattle.osn_register.specs.Inside.{register_in, sources_in}
use Rattle.osn_register.proofs.EntryFacts.{territory_of-map}
use Rattle.osn_register.proofs.TerritoryFacts.{register-with, lawful_in, no_territory, still_sound}
use Rattle.osn_register.proofs.TerritoryFacts.{with_same, IsWellFormed-with}
use Rattle.osn_register.proofs.register.Register.change.Goals as goal

some_of : {A B : Type 0} (f : Option A → Option B) → f None ≡ None → (o : Option A) →
    (f o ≡ None → ⊥) → IsSome o
some_of f none None h = absurd (h none)
some_of f none (Some x) h = refl

-- a code that a lawful change names is kept
pub unwrap-entry-requires : goal.unwrap-entry-requires
unwrap-entry-requires c =
    let es = c.self.inside.territories.entries in
    some_of option_copied_mut refl c.get_mut.result (λ none.
    no_territory c.args.self.now.territories c.args.code.now (change_refusal newest_rules
    c.args.self.now.limits c.args.change) c.requires
    (
    ap (λ r. territory_of c.args.code.now r.territories) (sym c.self.view_is)
    ∙ territory_of-map string_bytes (λ v. v.name) (λ v. v.territory) (λ v. sources_in v.sources)
    c.args.code.now es
    ∙ ap (option_map (λ v. v.territory)) (sym c.get_mut.ensures.value)
    ∙ ap (option_map (λ v. v.territory)) none
    ))

known : (c : goal.After-make-arg-2-1) → territory_of c.args.code.now c.args.self.now.territories
    ≡ Some c.unwrap-entry.result.now.territory
known c =
    ap (λ r. territory_of c.args.code.now r.territories) (sym c.self.view_is)
    ∙ territory_of-map string_bytes (λ v. v.name) (λ v. v.territory)
    (λ v. sources_in v.sources) c.args.code.now
    c.self.inside.territories.entries
    ∙ ap (option_map (λ v. v.territory)) (sym c.get_mut.ensures.value)
    ∙ ap (λ o. option_map (λ v. v.territory) (option_copied_mut o)) c.unwrap-entry.ensures

pub make-requires : goal.make-requires
make-requires c = (
  c.args.self.now.limits,
  lawful_in c.args.self.now.territories c.args.code.now
      (change_refusal newest_rules c.args.self.now.limits
      c.args.change) c.requires
      c.unwrap-entry.result.now.territory (known c),
)

ok_by : {X Y : Type 0} {A B : Type 0} (r : Result X Y) → (A → B) → OnOk r A → OnOk r B
ok_by (Ok x) f a = f a
ok_by (Err y) f a = a

err_by : {X Y : Type 0} {A B : Type 0} (r : Result X Y) → (A → B) → OnErr r A → OnErr r B
err_by (Ok x) f a = a
err_by (Err y) f a = f a

both_ok : {X Y : Type 0} (A B : Type 0) (r : Result X Y) → OnOk r A → OnOk r B → OnOk r (A × B)
both_ok A B (Ok x) a b = (a, b)
both_ok A B (Err y) a b = tt

either : {X Y : Type 0} {A B C : Type 0} (r : Result X Y) → (A → C) → (B → C) → OnOk r A →
    OnErr r B → C
either (Ok x) f g a b = f a
either (Err y) f g a b = g b

-- the register with the territory that the change left, as f makes it of the old one, and its
-- sources, as g makes them
written : (c : goal.After-self-1) (f : TerritoryModel → TerritoryModel)
    (g : SourcesModel → SourcesModel) →
    c.make.new.territory ≡ f c.unwrap-entry.result.now.territory →
    sources_in c.make.new.sources ≡ g (sources_in c.unwrap-entry.result.now.sources) →
    register_in (record {
      alloc = c.self.inside.alloc;
      limits = c.self.inside.limits;
      territories = c.get_mut.follows.lender (record {
        name = c.unwrap-entry.result.now.name;
        territory = c.make.new.territory;
        sources = c.make.new.sources;
      });
    }) ≡ record c.args.self.now {
      territories = with_territory c.args.code.now f g c.args.self.now.territories;
    }
written c f g altered cited =
    let before = c.unwrap-entry.result.now in
    let after : NamedTerritory = record {
      name = before.name;
      territory = c.make.new.territory;
      sources = c.make.new.sources;
    } in
    let found = sym c.get_mut.ensures.value ∙ ap option_copied_mut c.unwrap-entry.ensures in
    register-with string_bytes (λ v. v.name) (λ v. v.territory) (λ v. sources_in v.sources)
    c.self.inside.limits c.self.inside.territories.entries _ c.args.self.now c.args.code.now f g
    before after c.self.view_is (c.get_mut.follows.holds after).0 found refl altered cited

pub invariant_of-self : goal.invariant_of-self
invariant_of-self c =
    let before : IsWellFormed newest_rules c.args.self.now = subst
    (IsWellFormed newest_rules) c.self.view_is
    c.self.invariant in
    let refused = change_refusal newest_rules c.args.self.now.limits c.args.change in
    let source = c.args.source.now in
    either c.make.result
    (λ is. subst (IsWellFormed newest_rules)
    (sym (written c (territory_after c.args.change) (sources_after c.args.change source) is.0.0
    is.0.1))
    (IsWellFormed-with newest_rules c.args.self.now c.args.code.now (territory_after c.args.change)
    (sources_after c.args.change source) before
    (λ t there sound. still_sound newest_rules c.args.self.now.limits c.args.change t
    (lawful_in c.args.self.now.territories c.args.code.now refused c.requires t there) sound)
    (λ s given. has_after c.args.change source s is.1 given)))
    (λ is. subst (IsWellFormed newest_rules) (sym (written c (λ t. t) (λ s. s) is.0 is.1))
    (IsWellFormed-with newest_rules c.args.self.now c.args.code.now (λ t. t) (λ s. s) before
    (λ t there sound. sound) (λ s given. given)))
    (both_ok _ _ c.make.result c.make.ensures.ok c.make.ensures.allowed) c.make.ensures.err

pub returns-clause-ok : goal.returns-clause-ok
returns-clause-ok c = ok_by c.make.result
    (λ is. written c (territory_after c.args.change) (sources_after c.args.change c.args.source.now)
    is.0 is.1) c.make.ensures.ok

pub returns-clause-err : goal.returns-clause-err
returns-clause-err c = err_by c.make.result (λ is. written c (λ t. t) (λ s. s) is.0 is.1 ∙ ap
    (λ ls. record c.args.self.now { territories = ls })
    (with_same c.args.code.now c.args.self.now.territories)) c.make.ensures.err
