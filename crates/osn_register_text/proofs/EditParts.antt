-- The edits of changes and listed Easters make them in the last territory.
use Rattle.std.proofs.Common.{◌≡◌, ℕ, ◌+◌, ◌<◌, ◌≤◌, pos, true, false, nat_lt, nat_le, ◌==◌}
use Rattle.std.proofs.Common.{List, [], ◌∷◌, ◌++◌, length, Some, None, refl, sym, ap, ◌∙◌, Option}
use Rattle.std.proofs.Common.{arith, append_assoc, append-nil, length-append}
use Rattle.std.proofs.lemmas.Bool.Decides.{nat_tests}
use Rattle.std.proofs.lemmas.Int.{ints}
use Rattle.std.specs.BTreeMap.{insert_entry}
use Rattle.std.specs.List.{list_any}
use Rattle.std.specs.Map.{lookup}
use Rattle.std.specs.Ordering.{nat_cmp}
use Rattle.std.specs.declared.cmp.Ordering.TheVariants.{Greater}
use Rattle.osn_days.specs.Line.{IsDay, IsYear}
use Rattle.osn_days.specs.Rules.{newest_rules}
use Rattle.osn_territory.specs.declared.period.Period.{Period}
use Rattle.osn_territory.specs.declared.regime.Regime.{Regime}
use Rattle.osn_territory.specs.Changes.{with_start, with_change}
use Rattle.osn_territory.specs.Exceptions.{with_exception}
use Rattle.osn_territory.specs.Territory.{TerritoryModel}
use Rattle.osn_register.specs.declared.edit.Edit.TheVariants.{AddChange, AddException}
use Rattle.osn_register.specs.declared.limits.Limits.{Limits}
use Rattle.osn_register.specs.Answer.{period_source, easter_source}
use Rattle.osn_register.specs.Plain.{EntryModel, entry_of, refusal, effect, with_territory}
use Rattle.osn_register.specs.Plain.{is_off_line, is_off_years, is_style_refused, AreStyled}
use Rattle.osn_register.specs.Plain.{AreListed}
use Rattle.osn_register.specs.Code.{is_code}
use Rattle.osn_register.specs.Sources.{SourcesModel, with_period_source, with_easter_source}
use Rattle.osn_register.proofs.EntryFacts.{apart_first}
use Rattle.osn_register.proofs.YearFacts.{AscendFrom}
use Rattle.osn_register_text.specs.declared.key.Part.TheVariants as parts
use Rattle.osn_register_text.specs.TerritoryText.{Placed}
use Rattle.osn_register_text.specs.Text.{territories_after_all}
use Rattle.osn_register_text.proofs.FoundTerritories.{self}
use Rattle.osn_register_text.proofs.MadeSources.{all_cited}
use Rattle.osn_register_text.proofs.ReadTables.{change_edits, easter_edits, Ascend}

-- ---- the last territory

-- the territories, and one more
abbrev pub last : List EntryModel → List ℕ → List ℕ → TerritoryModel → SourcesModel →
    List EntryModel
last done code name t s =
    done ++ record { code = code; name = name; territory = t; sources = s } ∷ []

entry_of-last : (done : List EntryModel) (code name : List ℕ) (t : TerritoryModel)
    (s : SourcesModel) → entry_of code done ≡ None
    → entry_of code (last done code name t s)
    ≡ Some (record { code = code; name = name; territory = t; sources = s })
entry_of-last [] code name t s none = rw (self code)
entry_of-last (l ∷ ls) code name t s none =
    let (other, more) = apart_first code l ls none in
    rw other (entry_of-last ls code name t s more)

with_territory-last : (done : List EntryModel) (code name : List ℕ) (t : TerritoryModel)
    (s : SourcesModel) (f : TerritoryModel → TerritoryModel) (g : SourcesModel → SourcesModel)
    → entry_of code done ≡ None
    → with_territory code f g (last done code name t s) ≡ last done code name (f t) (g s)
with_territory-last [] code name t s f g none = rw (self code)
with_territory-last (l ∷ ls) code name t s f g none =
    let (other, more) = apart_first code l ls none in
    rw other (ap (λ rest. l ∷ rest) (with_territory-last ls code name t s f g more))

-- an edit that nothing refuses
pub one : (limits : Limits) (territories : List EntryModel) (e : Placed) (es : List Placed)
    → refusal newest_rules limits territories e.1 ≡ None
    → territories_after_all limits territories (e ∷ es)
    ≡ territories_after_all limits (effect territories e.1) es
one limits territories e es free = rw free

-- ---- tests

on_line : (d : ℕ) → IsDay newest_rules d → is_off_line newest_rules (pos d) ≡ false
on_line d on = grind (arith, ints, nat_tests)

in_years : (y : ℕ) → IsYear newest_rules y → is_off_years newest_rules (pos y) ≡ false
in_years y is = grind (arith, ints, nat_tests)

later_day : (k d : ℕ) → 1 ≤ k → k < d → (d == 1) ≡ false
later_day k d low less = grind (arith, nat_tests)

-- ---- changes

-- every start is at most a day
abbrev Until : List (ℕ × Regime) → ℕ → Type 0
Until [] k = Unit {0}
Until (s ∷ ss) k = (s.0 ≤ k) × Until ss k

Until-push : (ss : List (ℕ × Regime)) (k d : ℕ) (r : Regime) → Until ss k → k < d
    → Until (ss ++ (d, r) ∷ []) d
Until-push [] k d r until less = (omega arith, tt)
Until-push (s ∷ ss) k d r until less = (omega (arith, until.0), Until-push ss k d r until.1 less)

not_there : (ss : List (ℕ × Regime)) (k d : ℕ) → Until ss k → k < d
    → list_any (λ s. s.0 == d) ss ≡ false
not_there [] k d until less = refl
not_there (s ∷ ss) k d until less =
    let low = until.0 in
    let other : (s.0 == d) ≡ false = grind (arith, nat_tests) in
    rw other (not_there ss k d until.1 less)

with_start-last : (ss : List (ℕ × Regime)) (k d : ℕ) (r : Regime) → Until ss k → k < d
    → with_start d r ss ≡ ss ++ (d, r) ∷ []
with_start-last [] k d r until less = refl
with_start-last (s ∷ ss) k d r until less =
    let low = until.0 in
    let later : nat_lt d s.0 ≡ false = grind (arith, nat_tests) in
    rw later (ap (λ rest. s ∷ rest) (with_start-last ss k d r until.1 less))

-- the starts of some periods
abbrev pub starts_of : List Period → List (ℕ × Regime)
starts_of [] = []
starts_of (p ∷ ps) = (p.first, p.regime) ∷ starts_of ps

abbrev pub with_starts : TerritoryModel → List (ℕ × Regime) → TerritoryModel
with_starts t ss = record t { starts = ss }

-- the sources with those of some starts
abbrev cite_starts : Option SourcesModel → List (ℕ × Regime) → SourcesModel → SourcesModel
cite_starts cited ss s = record s { periods = all_cited (period_source cited) ss s.periods }

module _ (limits : Limits) (done : List EntryModel) (code name : List ℕ) (is : is_code code ≡ true)
    (none : entry_of code done ≡ None) where
  change_free : (t : TerritoryModel) (s : SourcesModel) (k : ℕ) (p : Period)
      (source : Option (List ℕ)) → 1 ≤ k → k < p.first → Until t.starts k
      → IsDay newest_rules p.first → is_style_refused newest_rules p.regime ≡ false
      → length t.starts ≤ limits.changes
      → refusal newest_rules limits (last done code name t s) (AddChange code
      (pos p.first) p.regime source) ≡ None
  change_free t s k p source low less until on style room =
      let there = entry_of-last done code name t s none in
      let count : nat_lt limits.changes (length t.starts) ≡ false = grind (arith, nat_tests) in
      rw (
        is,
        there,
        on_line p.first on,
        later_day k p.first low less,
        not_there t.starts k p.first until less,
        style,
        count,
      )

  change_made : (t : TerritoryModel) (s : SourcesModel) (k : ℕ) (p : Period)
      (source : Option (List ℕ)) → k < p.first → Until t.starts k
      → effect (last done code name t s) (AddChange code (pos p.first) p.regime source)
      ≡ last done code name (with_starts t (t.starts ++ (p.first, p.regime) ∷ []))
      (with_period_source p.first source s)
  change_made t s k p source less until =
      with_territory-last done code name t s (λ u. with_change u p.first p.regime)
      (with_period_source p.first source) none
      ∙ ap (λ ss. last done code name (with_starts t ss) (with_period_source p.first source s))
      (with_start-last t.starts k p.first p.regime until less)

  pub changes : (t : TerritoryModel) (s : SourcesModel) (cited : Option SourcesModel) (k n : ℕ)
      (ps : List Period) (es : List Placed) → 1 ≤ k
      → Until t.starts k → Ascend k ps → AreStyled newest_rules (starts_of ps)
      → length t.starts + length ps ≤ limits.changes + 1
      → territories_after_all limits (last done code name t s) (change_edits code n cited ps ++ es)
      ≡ territories_after_all limits (last done code name (with_starts t (t.starts ++ starts_of ps))
      (cite_starts cited (starts_of ps) s)) es
  changes t s cited k n [] es low until ascend lawful room =
      ap (λ ss. territories_after_all limits (last done code name (with_starts t ss) s) es)
      (sym (append-nil t.starts))
  changes t s cited k n (p ∷ ps) es low until ascend lawful room =
      let source = period_source cited p.first in
      let e : Placed = (parts.Change n, AddChange code (pos p.first) p.regime source) in
      let rest = change_edits code (n + 1) cited ps ++ es in
      let next = with_starts t (t.starts ++ (p.first, p.regime) ∷ []) in
      let given = with_period_source p.first source s in
      let count = length-append t.starts ((p.first, p.regime) ∷ []) in
      let few : length (t.starts ++ (p.first, p.regime) ∷ []) + length ps ≤ limits.changes + 1 =
      omega (arith, count, room) in
      one limits (last done code name t s) e rest
      (change_free t s k p source low ascend.0 until ascend.1 lawful.0 (omega (arith, room)))
      ∙ ap (λ territories. territories_after_all limits territories rest)
      (change_made t s k p source ascend.0 until)
      ∙ changes next given cited p.first (n + 1) ps es (omega (arith, ascend.0))
      (Until-push t.starts k p.first p.regime until ascend.0) ascend.2 lawful.1 few
      ∙ ap (λ ss. territories_after_all limits (last done code name (with_starts t ss)
      (cite_starts cited (starts_of (p ∷ ps)) s)) es)
      (append_assoc t.starts ((p.first, p.regime) ∷ []) (starts_of ps))

-- ---- listed Easters

-- every year is before a year
abbrev UntilYear : List (ℕ × ℕ) → ℕ → Type 0
UntilYear [] k = Unit {0}
UntilYear (e ∷ es) k = (e.0 < k) × UntilYear es k

UntilYear-push : (es : List (ℕ × ℕ)) (k y d : ℕ) → UntilYear es k → k ≤ y
    → UntilYear (es ++ (y, d) ∷ []) (y + 1)
UntilYear-push [] k y d until less = (omega arith, tt)
UntilYear-push (e ∷ es) k y d until less =
    (omega (arith, until.0), UntilYear-push es k y d until.1 less)

not_listed : (es : List (ℕ × ℕ)) (k y : ℕ) → UntilYear es k → k ≤ y
    → lookup (λ year. y == year) es ≡ None
not_listed [] k y until less = refl
not_listed (e ∷ es) k y until less =
    let low = until.0 in
    let other : (y == e.0) ≡ false = grind (arith, nat_tests) in
    rw other (not_listed es k y until.1 less)

insert_entry-last : (es : List (ℕ × ℕ)) (k y d : ℕ) → UntilYear es k → k ≤ y
    → insert_entry nat_cmp es y d ≡ es ++ (y, d) ∷ []
insert_entry-last [] k y d until less = refl
insert_entry-last (e ∷ es) k y d until less =
    let low = until.0 in
    let later : nat_cmp y e.0 ≡ Greater = grind (arith, nat_tests) in
    rw later (ap (λ rest. e ∷ rest) (insert_entry-last es k y d until.1 less))

abbrev with_exceptions : TerritoryModel → List (ℕ × ℕ) → TerritoryModel
with_exceptions t es = record t { exceptions = es }

-- the sources with those of some listed Easters
abbrev cite_easters : Option SourcesModel → List (ℕ × ℕ) → SourcesModel → SourcesModel
cite_easters cited es s = record s { easters = all_cited (easter_source cited) es s.easters }

module _ (limits : Limits) (done : List EntryModel) (code name : List ℕ) (is : is_code code ≡ true)
    (none : entry_of code done ≡ None) where
  easter_free : (t : TerritoryModel) (s : SourcesModel) (k : ℕ) (e : ℕ × ℕ)
      (source : Option (List ℕ)) → k ≤ e.0 → UntilYear t.exceptions k
      → IsYear newest_rules e.0 → IsDay newest_rules e.1 → length t.exceptions < limits.exceptions
      → refusal newest_rules limits (last done code name t s) (AddException code (pos e.0)
      (pos e.1) source) ≡ None
  easter_free t s k e source less until year on room =
      let there = entry_of-last done code name t s none in
      let count : nat_le limits.exceptions (length t.exceptions)
      ≡ false = grind (arith, nat_tests) in
      rw (
        is,
        there,
        on_line e.1 on,
        in_years e.0 year,
        not_listed t.exceptions k e.0 until less,
        count,
      )

  easter_made : (t : TerritoryModel) (s : SourcesModel) (k : ℕ) (e : ℕ × ℕ)
      (source : Option (List ℕ)) → k ≤ e.0 → UntilYear t.exceptions k
      → effect (last done code name t s) (AddException code (pos e.0) (pos e.1) source)
      ≡ last done code name (with_exceptions t (t.exceptions ++ e ∷ []))
      (with_easter_source e.0 source s)
  easter_made t s k e source less until =
      with_territory-last done code name t s (λ u. with_exception u e.0 e.1)
      (with_easter_source e.0 source) none
      ∙ ap (λ es. last done code name (with_exceptions t es) (with_easter_source e.0 source s))
      (insert_entry-last t.exceptions k e.0 e.1 until less)

  pub easters : (t : TerritoryModel) (s : SourcesModel) (cited : Option SourcesModel) (k n : ℕ)
      (ls : List (ℕ × ℕ)) (es : List Placed)
      → UntilYear t.exceptions k → AscendFrom k ls → AreListed newest_rules ls
      → length t.exceptions + length ls ≤ limits.exceptions
      → territories_after_all limits (last done code name t s) (easter_edits code n cited ls ++ es)
      ≡ territories_after_all limits (last done code name (with_exceptions t (t.exceptions ++ ls))
      (cite_easters cited ls s)) es
  easters t s cited k n [] es until ascend listed room =
      ap (λ xs. territories_after_all limits (last done code name (with_exceptions t xs) s) es)
      (sym (append-nil t.exceptions))
  easters t s cited k n (e ∷ ls) es until ascend listed room =
      let source = easter_source cited e.0 in
      let edit : Placed = (parts.Easter n, AddException code (pos e.0) (pos e.1) source) in
      let rest = easter_edits code (n + 1) cited ls ++ es in
      let next = with_exceptions t (t.exceptions ++ e ∷ []) in
      let given = with_easter_source e.0 source s in
      let count = length-append t.exceptions (e ∷ []) in
      let few : length (t.exceptions ++ e ∷ []) + length ls ≤ limits.exceptions =
      omega (arith, count, room) in
      one limits (last done code name t s) edit rest
      (easter_free t s k e source ascend.0 until listed.0 listed.1 (omega (arith, room)))
      ∙ ap (λ territories. territories_after_all limits territories rest)
      (easter_made t s k e source ascend.0 until) ∙ easters next given cited (e.0 + 1) (n + 1) ls es
      (UntilYear-push t.exceptions k e.0 e.1 until ascend.0) ascend.1 listed.2 few
      ∙ ap (λ xs. territories_after_all limits (last done code name (with_exceptions t xs)
      (cite_easters cited (e ∷ ls) s)) es)
      (append_assoc t.exceptions (e ∷ []) ls)
