-- What is written and what is left to write are the whole text, at each step of a loop.
use Rattle.std.proofs.Common.{◌≡◌, ℕ, zero, suc, ◌+◌, ◌<◌, ◌≤◌, false, List, [], ◌∷◌, codes}
use Rattle.std.proofs.Common.{◌++◌, length, drop, get_or, Option, Some, None, option_map, is_some}
use Rattle.std.proofs.Common.{slice_get}
use Rattle.std.proofs.Common.{refl, sym, ap, ◌∙◌, append_assoc, append-nil}
use Rattle.std.proofs.lemmas.Bool.{false≢true}
use Rattle.std.proofs.lemmas.List.{drop_more, drop_all}
use Rattle.std.proofs.lemmas.Option.{slice_get_within, get_or_from_slice_get, none-some, same_Some}
use Rattle.osn_days.specs.Rules.{newest_rules}
use Rattle.osn_territory.specs.declared.period.Period.{Period}
use Rattle.osn_territory.specs.declared.regime.Regime.{Regime}
use Rattle.osn_territory.specs.Territory.{TerritoryModel}
use Rattle.osn_register.specs.NamedTerritories.{listing_of, named_of}
use Rattle.osn_register.specs.Plain.{EntryModel, entry_of, sources_of, AreDistinct}
use Rattle.osn_register.specs.Sources.{SourcesModel}
use Rattle.osn_register_text.specs.WrittenText.{change_text, changes_text, territory_text}
use Rattle.osn_register_text.specs.WrittenText.{if_there, entry_text, territories_text}
use Rattle.osn_register_text.proofs.FoundTerritories.{code_of, entry_of-at}

-- one change more
pub change_step : (code : List ℕ) (cited : Option SourcesModel) (before : Regime) (ps : List Period)
    (i : ℕ) (p : Period) (whole out new : List ℕ) → i < length ps → p ≡ get_or ps i p
    → whole ≡ out ++ changes_text code cited before (drop i ps)
    → new ≡ out ++ change_text code cited before p
    → whole ≡ new ++ changes_text code cited p.regime (drop (i + 1) ps)
unfolding changes_text
change_step code cited before ps i p whole out new within is left made =
    let rest = changes_text code cited p.regime (drop (i + 1) ps) in
    let next : drop i ps ≡ p ∷ drop (i + 1) ps =
    drop_more ps i p within ∙ ap (λ q. q ∷ drop (i + 1) ps) (sym is) in
    left ∙ ap (λ qs. out ++ changes_text code cited before qs) next
    ∙ sym (append_assoc out (change_text code cited before p) rest)
    ∙ ap (λ t. t ++ rest) (sym made)

pub changes_end : (code : List ℕ) (cited : Option SourcesModel) (before : Regime) (ps : List Period)
    (i : ℕ) (whole out : List ℕ)
    → length ps ≤ i → whole ≡ out ++ changes_text code cited before (drop i ps) → out ≡ whole
unfolding changes_text
changes_end code cited before ps i whole out end left =
    sym (left ∙ ap (λ qs. out ++ changes_text code cited before qs) (drop_all i ps end)
    ∙ append-nil out)

-- the code, the name and the territory at a place are those of a territory there
abbrev IsListed : List EntryModel → ℕ → List ℕ × List ℕ × TerritoryModel → Type 0
IsListed ls i listing =
    (l : EntryModel) × (slice_get ls i ≡ Some l) × (listing_of l ≡ listing)

listed_by : (ls : List EntryModel) (i : ℕ) (listing : List ℕ × List ℕ × TerritoryModel)
    (o : Option EntryModel) → slice_get ls i ≡ o → Some listing ≡ option_map listing_of o
    → IsListed ls i listing
listed_by ls i listing None at is = absurd (none-some listing (sym is))
listed_by ls i listing (Some l) at is =
    (l, at, sym (same_Some listing (listing_of l) is))

-- one territory more
pub territory_step : (ls : List EntryModel) (i : ℕ) (code name : List ℕ) (t : TerritoryModel)
    (whole out new : List ℕ) → AreDistinct ls
    → Some (code, name, t) ≡ option_map listing_of (slice_get ls i)
    → whole ≡ out ++ territories_text newest_rules (drop i ls)
    → new ≡ out ++ (codes "\n" ++ territory_text newest_rules code name t (sources_of code ls))
    → whole ≡ new ++ territories_text newest_rules (drop (i + 1) ls)
unfolding territories_text
territory_step ls i code name t whole out new distinct is left made =
    let (l, at, same) = listed_by ls i (code, name, t) (slice_get ls i) refl is in
    let blank = codes "\n" in
    let text = entry_text newest_rules l in
    let rest = territories_text newest_rules (drop (i + 1) ls) in
    let within : i < length ls = slice_get_within ls i l at in
    let next : drop i ls ≡ l ∷ drop (i + 1) ls =
    drop_more ls i l within ∙ ap (λ m. m ∷ drop (i + 1) ls) (get_or_from_slice_get ls i l l at) in
    let this : text ≡ territory_text newest_rules code name t (sources_of code ls) =
    ap (λ s. territory_text newest_rules l.code l.name l.territory s)
    (sym (ap (option_map (λ (m : EntryModel). m.sources)) (entry_of-at ls i l distinct at)))
    ∙ ap (λ (m : List ℕ × List ℕ × TerritoryModel).
    territory_text newest_rules m.0 m.1 m.2 (sources_of m.0 ls)) same in
    left ∙ ap (λ ms. out ++ territories_text newest_rules ms) next
    ∙ ap (λ t. out ++ t) (sym (append_assoc blank text rest))
    ∙ sym (append_assoc out (blank ++ text) rest)
    ∙ ap (λ t. (out ++ (blank ++ t)) ++ rest) this
    ∙ ap (λ t. t ++ rest) (sym made)

past : (ls : List EntryModel) (i : ℕ) → slice_get ls i ≡ None → drop i ls ≡ []
past [] zero none = refl
past [] (suc i) none = refl
past (l ∷ ls) zero none = absurd (none-some l (sym none))
past (l ∷ ls) (suc i) none = past ls i none

no_listing : (o : Option EntryModel) → None ≡ option_map listing_of o → o ≡ None
no_listing None is = refl
no_listing (Some l) is = absurd (none-some (listing_of l) is)

pub territories_end : (ls : List EntryModel) (i : ℕ) (whole out : List ℕ)
    → None ≡ option_map listing_of (slice_get ls i)
    → whole ≡ out ++ territories_text newest_rules (drop i ls) → out ≡ whole
unfolding territories_text
territories_end ls i whole out none left =
    sym (left
    ∙ ap (λ ms. out ++ territories_text newest_rules ms)
    (past ls i (no_listing (slice_get ls i) none))
    ∙ append-nil out)

-- ---- the territory of a code

of_code_by : (code name : List ℕ) (t : TerritoryModel) (ls : List EntryModel)
    (o : Option EntryModel) → entry_of code ls ≡ o
    → option_map {U = List ℕ × TerritoryModel} (λ l. (l.name, l.territory)) o ≡ Some (name, t)
    → codes "\n" ++ territory_text newest_rules code name t (option_map (λ l. l.sources) o)
    ≡ territories_text newest_rules (if_there o)
unfolding territories_text
of_code_by code name t ls None at is = absurd (none-some (name, t) is)
of_code_by code name t ls (Some l) at is =
    let same = same_Some (l.name, l.territory) (name, t) is in
    ap (λ c. codes "\n" ++ territory_text newest_rules c name t (Some l.sources))
    (code_of ls code l at)
    ∙ ap (λ (m : List ℕ × TerritoryModel).
    codes "\n" ++ territory_text newest_rules l.code m.0 m.1 (Some l.sources)) (sym same)
    ∙ ap (λ t. codes "\n" ++ t) (sym (append-nil (entry_text newest_rules l)))

-- the text of what is found
pub text_found : (code name : List ℕ) (t : TerritoryModel) (ls : List EntryModel)
    → named_of code ls ≡ Some (name, t)
    → codes "\n" ++ territory_text newest_rules code name t (sources_of code ls)
    ≡ territories_text newest_rules (if_there (entry_of code ls))
text_found code name t ls is = of_code_by code name t ls (entry_of code ls) refl is

none_by : (o : Option EntryModel) → false ≡ is_some o → territories_text newest_rules (if_there o)
    ≡ []
unfolding territories_text
none_by None is = refl
none_by (Some l) is = absurd (false≢true is)

-- and of none
pub text_of_none : (code : List ℕ) (ls : List EntryModel) → false ≡ is_some (entry_of code ls)
    → territories_text newest_rules (if_there (entry_of code ls)) ≡ []
text_of_none code ls none = none_by (entry_of code ls) none
