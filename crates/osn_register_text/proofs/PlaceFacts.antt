-- The territories that are left from a place on.
use Rattle.std.proofs.Common.{◌≡◌, ◌∙◌, ◌+◌, ◌++◌, ℕ, List, [], ◌∷◌, Option, Some, None, drop}
use Rattle.std.proofs.Common.{ap, arith, refl, sym, append_assoc, append-nil, option_map, zero, suc}
use Rattle.std.specs.Prelude.{slice_get}
use Rattle.std.proofs.lemmas.List.{drop_all, drop_more}
use Rattle.std.proofs.lemmas.Option.{get_or_from_slice_get, slice_get_within}
use Rattle.osn_territory.specs.Territory.{TerritoryModel}
use Rattle.osn_register.specs.NamedTerritories.{listing_of}
use Rattle.osn_register.specs.Plain.{EntryModel}
use Rattle.osn_register_text.specs.PlanPage.{absent_code, absent_codes}

-- the one at the place, and those after it
left_at : (territories : List EntryModel) (place : ℕ) (l : EntryModel) → slice_get territories place
    ≡ Some l → drop place territories ≡ l ∷ drop (place + 1) territories
left_at territories place l there =
    drop_more territories place l (slice_get_within territories place l there)
    ∙ ap (λ x. x ∷ drop (place + 1) territories) (get_or_from_slice_get territories place l l there)

-- what a place lists, and the code of it
abbrev Listed : Type 0
Listed = Option (List ℕ × List ℕ × TerritoryModel)

abbrev code_in : Listed → List ℕ
code_in None = []
code_in (Some listed) = listed.0

-- the code of the one at the place was written, if it has one
next_written_of : (target territories : List EntryModel) (place : ℕ) (found : Option EntryModel)
    (code name : List ℕ) (t : TerritoryModel) (all old new : List ℕ)
    → slice_get territories place ≡ found → option_map listing_of found ≡ Some (code, name, t)
    → all ≡ old ++ absent_codes target (drop place territories)
    → new ≡ old ++ absent_code target code
    → all ≡ new ++ absent_codes target (drop (place + 1) territories)
next_written_of target territories place None code name t all old new there is before written =
    absurd (cc)
next_written_of target territories place (Some l) code name t all old new there is before written =
    let rest = absent_codes target (drop (place + 1) territories) in
    before
    ∙ ap (λ xs. old ++ absent_codes target xs) (left_at territories place l there)
    ∙ sym (append_assoc old (absent_code target l.code) rest)
    ∙ ap (λ (listed : Listed). (old ++ absent_code target (code_in listed)) ++ rest) is
    ∙ ap (λ text. text ++ rest) (sym written)

pub next_written : (target territories : List EntryModel) (place : ℕ) (code name : List ℕ)
    (t : TerritoryModel) (all old new : List ℕ)
    → option_map listing_of (slice_get territories place) ≡ Some (code, name, t)
    → all ≡ old ++ absent_codes target (drop place territories)
    → new ≡ old ++ absent_code target code
    → all ≡ new ++ absent_codes target (drop (place + 1) territories)
next_written target territories place code name t all old new =
    next_written_of target territories place (slice_get territories place) code name t all old new
    refl

-- no territory is left if there is none at the place
none_left : (territories : List EntryModel) (place : ℕ) → slice_get territories place ≡ None
    → drop place territories ≡ []
none_left [] place none = drop_all place [] (omega arith)
none_left (l ∷ territories) zero none = absurd (cc)
none_left (l ∷ territories) (suc place) none = none_left territories place none

all_written_of : (target territories : List EntryModel) (place : ℕ) (found : Option EntryModel)
    (all old : List ℕ) → slice_get territories place ≡ found → option_map listing_of found ≡ None
    → all ≡ old ++ absent_codes target (drop place territories) → old ≡ all
all_written_of target territories place None all old there is before =
    sym (before ∙ ap (λ xs. old ++ absent_codes target xs) (none_left territories place there)
    ∙ append-nil old)
all_written_of target territories place (Some l) all old there is before = absurd (cc)

pub all_written : (target territories : List EntryModel) (place : ℕ) (all old : List ℕ)
    → option_map listing_of (slice_get territories place) ≡ None
    → all ≡ old ++ absent_codes target (drop place territories) → old ≡ all
all_written target territories place all old =
    all_written_of target territories place (slice_get territories place) all old refl
