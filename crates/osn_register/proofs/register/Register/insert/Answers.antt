use Rattle.std.proofs.Common.{◌≡◌, List, [], ◌∷◌, ◌++◌, None, ap, sym, subst, ◌∙◌, refl}
use Rattle.std.proofs.Common.{string_bytes}
use Rattle.std.specs.String.{string_eq}
use Rattle.indexmap.specs.IndexMap.{get}
use Rattle.indexmap.proofs.CallerLemmas.{insert_entry-new}
use Rattle.osn_days.specs.Rules.{newest_rules}
use Rattle.osn_register.specs.Plain.{EntryModel, RegisterModel, entry_of, IsWellFormed}
use Rattle.osn_register.specs.Inside.{register_in, sources_in}
use Rattle.osn_register.proofs.EntryFacts.{entry_of-none, territories_with_new, IsWellFormed-push}
use Rattle.osn_register.proofs.register.Register.insert.Goals as goal

abbrev with_territories : RegisterModel → List EntryModel → RegisterModel
with_territories r territories = record r { territories = territories }

abbrev with_new : EntryModel → RegisterModel → RegisterModel
with_new l r = record r { territories = r.territories ++ l ∷ [] }

abbrev new_entry : goal.Joined-branch-2 → EntryModel
new_entry c = record {
  code = string_bytes c.args.code;
  name = c.args.entry.name;
  territory = c.args.entry.territory;
  sources = sources_in c.args.entry.sources;
}

-- the register with the new territory last
added : (c : goal.Joined-branch-2) → register_in (record
    { alloc = c.self.inside.alloc; limits = c.self.inside.limits; territories = c.insert.new.self })
    ≡ with_new (new_entry c) c.args.self.now
added c =
    let es = c.self.inside.territories.entries in
    let none : get string_eq c.self.inside.territories c.args.code ≡ None =
    entry_of-none string_bytes (λ v. v.name) (λ v. v.territory) (λ v. sources_in v.sources)
    (string_bytes c.args.code) es
    (ap (λ r. entry_of (string_bytes c.args.code) r.territories) c.self.view_is ∙ c.requires.absent)
    in
    let entries = c.in_ok-insert.ensures.entries
    ∙ insert_entry-new string_eq c.self.inside.territories c.args.code c.args.entry none in
    let territories = territories_with_new string_bytes (λ v. v.name) (λ v. v.territory)
    (λ v. sources_in v.sources) es
    c.insert.new.self.entries c.args.code c.args.entry (new_entry c) entries refl in
    ap (with_territories (register_in c.self.inside)) territories
    ∙ ap (with_new (new_entry c)) c.self.view_is

pub invariant_of-self-2 : goal.invariant_of-self-2
invariant_of-self-2 c =
    let before : IsWellFormed newest_rules c.args.self.now = subst
    (IsWellFormed newest_rules) c.self.view_is
    c.self.invariant in
    subst (IsWellFormed newest_rules) (sym (added c))
    (IsWellFormed-push newest_rules c.args.self.now
    (new_entry c) before c.requires.absent c.requires.code c.requires.name c.requires.room
    c.requires.territory c.requires.sources)

pub returns-clause-ok : goal.returns-clause-ok
returns-clause-ok c = added c
