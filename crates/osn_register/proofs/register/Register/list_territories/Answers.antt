use Rattle.std.proofs.Common.{◌≡◌, List, ℕ, ◌<◌, [], ◌∷◌, ◌++◌, length, map, ap, sym, ◌∙◌, arith}
use Rattle.std.proofs.Common.{string_bytes, append_assoc, append-nil, length-append}
use Rattle.std.proofs.lemmas.List.{length-map}
use Rattle.osn_register.specs.declared.answer.Land.{Land}
use Rattle.osn_register.specs.declared.register.NamedTerritory.{NamedTerritory}
use Rattle.osn_register.specs.Answer as spec
use Rattle.osn_register.specs.Inside.{entry_in, sources_in}
use Rattle.osn_register.specs.Plain.{EntryModel}
use Rattle.osn_register.proofs.EntryFacts.{on_err}
use Rattle.osn_register.proofs.register.Register.list_territories.Goals as goal

-- the territories that are listed, with one more after them, and those that are left are all
listed_more : (so_far : List Land) (listing : Land) (rest all : List Land) (code name : List ℕ) →
    so_far ++ record { code = code; name = name } ∷ rest ≡ all →
    listing.code ≡ code → listing.name ≡ name → (so_far ++ listing ∷ []) ++ rest ≡ all
listed_more so_far listing rest all code name e coded named =
    append_assoc so_far (listing ∷ []) rest
    ∙ ap (λ (c : List ℕ). so_far ++ record { code = c; name = listing.name } ∷ rest) coded
    ∙ ap (λ (n : List ℕ). so_far ++ record { code = code; name = n } ∷ rest) named
    ∙ e

-- if one is left to list, there are some
some_left : {E : Type 0} (L : E → EntryModel) (so_far : List Land) (left rest all : List E) (e : E)
    (territories : List EntryModel) → left ≡ e ∷ rest →
    so_far ++ map spec.land_of (map L left) ≡ map spec.land_of (map L all)
    → map L all ≡ territories →
    0 < length territories
some_left L so_far left rest all e territories is listed kept =
    let counted = ap length (ap (λ es. so_far ++ map spec.land_of (map L es)) (sym is) ∙ listed
    ∙ ap (map spec.land_of) kept) in
    omega (
      arith,
      counted,
      length-append so_far (map spec.land_of (map L (e ∷ rest))),
      length-map territories spec.land_of,
    )

pub loop-code-preserved : goal.loop-code-preserved
loop-code-preserved c =
    let L = entry_in {V = NamedTerritory} string_bytes (λ v. v.name) (λ v. v.territory)
    (λ v. sources_in v.sources) in
    ap (λ ls. ls ++ map spec.land_of (map L c.next.new.self)) c.in_ok-push.ensures.items
    ∙ listed_more c.loop-code.listed.items c.in_ok-listing.field-0
    (map spec.land_of (map L c.next.new.self)) _ (string_bytes c.in-Some.code.now)
    c.in-Some.entry.now.name
    (ap (λ it. c.loop-code.listed.items
    ++ map spec.land_of (map L it)) (sym c.in-Some.ensures.steps)
    ∙ c.loop-code.invariant)
    (c.in_ok-listing.ensures.0 ∙ c.as_str.ensures.value) c.in_ok-listing.ensures.1

pub returns-clause-value : goal.returns-clause-value
returns-clause-value c =
    let L = entry_in {V = NamedTerritory} string_bytes (λ v. v.name) (λ v. v.territory)
    (λ v. sources_in v.sources) in
    sym (append-nil c.loop-code.listed.items)
    ∙ ap (λ it. c.loop-code.listed.items ++ map spec.land_of (map L it))
    (sym c.in-None.ensures.steps.0)
    ∙ c.loop-code.invariant
    ∙ ap (λ r. map spec.land_of r.territories) c.self.view_is

pub returns-in_err-listing-clause-memory : goal.returns-in_err-listing-clause-memory
returns-in_err-listing-clause-memory c = on_err c.from_residual-in_err-listing.result
    (some_left (entry_in {V = NamedTerritory} string_bytes (λ v. v.name) (λ v. v.territory)
    (λ v. sources_in v.sources))
    c.loop-code.listed.items c.loop-code.code-iterator c.next.new.self
    c.self.inside.territories.entries
    (c.in-Some.code.now, c.in-Some.entry.now) c.args.self.now.territories c.in-Some.ensures.steps
    c.loop-code.invariant (ap (λ r. r.territories) c.self.view_is))

pub returns-in_err-push-clause-memory : goal.returns-in_err-push-clause-memory
returns-in_err-push-clause-memory c = on_err c.from_residual-in_err-push.result
    (some_left (entry_in {V = NamedTerritory} string_bytes (λ v. v.name) (λ v. v.territory)
    (λ v. sources_in v.sources))
    c.loop-code.listed.items c.loop-code.code-iterator c.next.new.self
    c.self.inside.territories.entries
    (c.in-Some.code.now, c.in-Some.entry.now) c.args.self.now.territories c.in-Some.ensures.steps
    c.loop-code.invariant (ap (λ r. r.territories) c.self.view_is))
