-- What is found under a code after edits of one territory.
use Rattle.std.proofs.Common.{◌≡◌, ℕ, Bool, true, false, cond, List, [], ◌∷◌, ◌++◌, map, fold}
use Rattle.std.proofs.Common.{Option}
use Rattle.std.proofs.Common.{Some, None, option_map, is_some, refl, sym, ap, ◌∙◌}
use Rattle.std.proofs.lemmas.Bool.{false≢true}
use Rattle.std.proofs.lemmas.Slice.Eq.{bytes_eq-Decides}
use Rattle.std.specs.Str.{bytes_eq}
use Rattle.std.specs.Option.{option_and_then}
use Rattle.osn_territory.specs.Territory.{TerritoryModel}
use Rattle.osn_register_text.specs.Change.{Change}
use Rattle.osn_register_text.specs.Change.Change.{Add, Alter, Drop}
use Rattle.osn_register_text.specs.Change.Change.{ListDay, DropDay}
use Rattle.osn_register_text.specs.Change.{territory_after, sources_after}
use Rattle.osn_register.specs.Answer.{period_source, easter_source}
use Rattle.osn_register.specs.Sources.{SourcesModel, source_of}
use Rattle.osn_register.specs.Plain.{EntryModel, entry_of, with_territory, effect}
use Rattle.osn_register_text.specs.NeededEdits.{regime_from, regime_in, easter_in, period_cited}
use Rattle.osn_register_text.specs.NeededEdits.{easter_cited}
use Rattle.osn_register_text.specs.NeededEdits.{IsNeeded, AreNeeded}
use Rattle.osn_register_text.specs.CitedSources.{same_source}
use Rattle.osn_register_text.specs.Change.{edit_of}
use Rattle.osn_register_text.proofs.Rows.{look, not_none}
use Rattle.osn_register_text.proofs.SourceRows.{source_itself}
use Rattle.osn_register_text.proofs.NeededChanges.{after, IsDue, AreDue}
use Rattle.osn_register_text.proofs.Fresh.{pair_of, cited_after, IsFresh, AreFresh}

pub code_itself : (code : List ℕ) → bytes_eq code code ≡ true
code_itself code = (bytes_eq-Decides code code).1 refl

-- a change of the territory that has a code

abbrev pub changed : (TerritoryModel → TerritoryModel) → (SourcesModel → SourcesModel) → EntryModel
    → EntryModel
changed f g l = record l { territory = f l.territory; sources = g l.sources }

with_here : (code : List ℕ) (f : TerritoryModel → TerritoryModel)
    (g : SourcesModel → SourcesModel) (ls : List EntryModel) →
    entry_of code (with_territory code f g ls) ≡ option_map (changed f g) (entry_of code ls)
with_here code f g [] = refl
with_here code f g (l ∷ ls) = by (bytes_eq code l.code) refl (with_here code f g ls)
  where
    by : (b : Bool) → bytes_eq code l.code ≡ b →
        entry_of code (with_territory code f g ls) ≡ option_map (changed f g) (entry_of code ls) →
        entry_of code (cond b (changed f g l ∷ ls) (l ∷ with_territory code f g ls))
        ≡ option_map (changed f g) (cond b (Some l) (entry_of code ls))
    by true e later = ap (λ b. cond b (Some (changed f g l)) (entry_of code ls)) e
    by false e later =
        ap (λ b. cond b (Some l) (entry_of code (with_territory code f g ls))) e ∙ later

with_apart : (code other : List ℕ) (f : TerritoryModel → TerritoryModel)
    (g : SourcesModel → SourcesModel) (ls : List EntryModel) →
    bytes_eq other code ≡ false → entry_of other (with_territory code f g ls) ≡ entry_of other ls
with_apart code other f g [] apart = refl
with_apart code other f g (l ∷ ls) apart =
    by (bytes_eq code l.code) refl (with_apart code other f g ls apart)
  where
    by : (b : Bool) → bytes_eq code l.code ≡ b →
        entry_of other (with_territory code f g ls) ≡ entry_of other ls →
        entry_of other (cond b (changed f g l ∷ ls) (l ∷ with_territory code f g ls))
        ≡ entry_of other (l ∷ ls)
    by true e later =
        let elsewhere : bytes_eq other l.code ≡ false =
        ap (bytes_eq other) (sym ((bytes_eq-Decides code l.code).0 e)) ∙ apart in
        ap (λ b. cond b (Some (changed f g l)) (entry_of other ls)) elsewhere
        ∙ sym (ap (λ b. cond b (Some l) (entry_of other ls)) elsewhere)
    by false e later = ap (λ o. cond (bytes_eq other l.code) (Some l) o) later

-- the edit of one change

effect_is : (code : List ℕ) (e : Change) (ls : List EntryModel) →
    effect ls (edit_of code e) ≡ with_territory code (territory_after e) (sources_after e) ls
effect_is code (Add d r c) ls = refl
effect_is code (Alter d r c) ls = refl
effect_is code (Drop d) ls = refl
effect_is code (ListDay y d c) ls = refl
effect_is code (DropDay y) ls = refl

pub step_here : (code : List ℕ) (e : Change) (ls : List EntryModel) (l : EntryModel) →
    entry_of code ls ≡ Some l →
    entry_of code (effect ls (edit_of code e))
    ≡ Some (changed (territory_after e) (sources_after e) l)
step_here code e ls l known =
    ap (entry_of code) (effect_is code e ls)
    ∙ with_here code (territory_after e) (sources_after e) ls
    ∙ ap (option_map (changed (territory_after e) (sources_after e))) known

-- the edits of changes in turn
pub edits_here : (code : List ℕ) (es : List Change) (ls : List EntryModel) (l : EntryModel) →
    entry_of code ls ≡ Some l →
    entry_of code (fold effect ls (map (edit_of code) es))
    ≡ Some (changed (after es) (cited_after es) l)
edits_here code [] ls l known = known
edits_here code (e ∷ es) ls l known = edits_here code es (effect ls (edit_of code e))
    (changed (territory_after e) (sources_after e) l) (step_here code e ls l known)

pub edits_apart : (code other : List ℕ) (es : List Change) (ls : List EntryModel) →
    bytes_eq other code ≡ false →
    entry_of other (fold effect ls (map (edit_of code) es)) ≡ entry_of other ls
edits_apart code other [] ls apart = refl
edits_apart code other (e ∷ es) ls apart =
    edits_apart code other es (effect ls (edit_of code e)) apart
    ∙ ap (entry_of other) (effect_is code e ls)
    ∙ with_apart code other (territory_after e) (sources_after e) ls apart

-- what is found of the territory of a code

pub regime_found : (code : List ℕ) (ls : List EntryModel) (l : EntryModel) (d : ℕ) →
    entry_of code ls ≡ Some l → regime_in ls code d ≡ look d l.territory.starts
regime_found code ls l d known = ap (λ o. option_and_then (λ t. regime_from t d)
    (option_map (λ (k : EntryModel). k.territory) o)) known

pub easter_found : (code : List ℕ) (ls : List EntryModel) (l : EntryModel) (y : ℕ) →
    entry_of code ls ≡ Some l → easter_in ls code y ≡ look y l.territory.exceptions
easter_found code ls l y known = ap (λ o. option_and_then (λ (t : TerritoryModel).
    look y t.exceptions) (option_map (λ (k : EntryModel). k.territory) o)) known

pub period_found : (code : List ℕ) (ls : List EntryModel) (l : EntryModel) (d : ℕ) →
    entry_of code ls ≡ Some l → period_cited ls code d ≡ source_of d l.sources.periods
period_found code ls l d known = ap (λ o. period_source
    (option_map (λ (k : EntryModel). k.sources) o) d) known

pub easter_source_found : (code : List ℕ) (ls : List EntryModel) (l : EntryModel) (y : ℕ) →
    entry_of code ls ≡ Some l → easter_cited ls code y ≡ source_of y l.sources.easters
easter_source_found code ls l y known = ap (λ o. easter_source
    (option_map (λ (k : EntryModel). k.sources) o) y) known

-- two sources that are one do not differ
not_apart : (a b : Option (List ℕ)) → a ≡ b → same_source a b ≡ false → ⊥
not_apart a b e apart = false≢true (sym apart ∙ ap (same_source a) (sym e) ∙ source_itself a)

-- a change that is due, and finds the source from before, is an edit that is needed
is_needed : (target ls : List EntryModel) (code : List ℕ) (w : EntryModel) (old : SourcesModel)
    (l : EntryModel) (e : Change) →
    entry_of code target ≡ Some w → entry_of code ls ≡ Some l →
    IsDue (pair_of old w.sources) w.territory l.territory e → IsFresh old l.sources e →
    IsNeeded target ls (edit_of code e)
is_needed target ls code w old l (Add d r c) is known due fresh = (
  regime_found code ls l d known ∙ due.0,
  regime_found code target w d is ∙ due.1,
  due.3 ∙ sym (period_found code target w d is),
)
is_needed target ls code w old l (Alter d r c) is known due fresh = (
  ap is_some (regime_found code ls l d known) ∙ due.0,
  (λ same cited. not_apart (source_of d old.periods) (source_of d w.sources.periods)
      (sym fresh ∙ sym (period_found code ls l d known) ∙ cited ∙ due.3)
      (due.1 (sym (regime_found code ls l d known) ∙ same))),
  regime_found code target w d is ∙ due.2,
  due.3 ∙ sym (period_found code target w d is),
)
is_needed target ls code w old l (Drop d) is known due fresh = (
  ap is_some is,
  ap is_some (regime_found code ls l d known) ∙ due.0,
  regime_found code target w d is ∙ due.1,
)
is_needed target ls code w old l (ListDay y d c) is known due fresh = (
  easter_found code ls l y known ∙ due.0,
  easter_found code target w y is ∙ due.1,
  due.3 ∙ sym (easter_source_found code target w y is),
)
is_needed target ls code w old l (DropDay y) is known due fresh = (
  ap is_some is,
  ap is_some (easter_found code ls l y known) ∙ due.0,
  (λ same cited. not_apart (source_of y old.easters) (source_of y w.sources.easters)
      (sym fresh ∙ sym (easter_source_found code ls l y known) ∙ sym cited
      ∙ easter_source_found code target w y is)
      (due.1 (sym (easter_found code target w y is) ∙ same ∙ easter_found code ls l y known))),
)

pub are_needed : (target ls : List EntryModel) (code : List ℕ) (w : EntryModel)
    (old : SourcesModel) (l : EntryModel) (es : List Change) →
    entry_of code target ≡ Some w → entry_of code ls ≡ Some l →
    AreDue (pair_of old w.sources) w.territory l.territory es → AreFresh old l.sources es →
    AreNeeded target ls (map (edit_of code) es)
are_needed target ls code w old l [] is known due fresh = tt
are_needed target ls code w old l (e ∷ es) is known due fresh = (
  is_needed target ls code w old l e is known due.0 fresh.0,
  are_needed target (effect ls (edit_of code e)) code w old
      (changed (territory_after e) (sources_after e) l) es is (step_here code e ls l known) due.1
      fresh.1,
)

-- a territory more

pub added_here : (ls : List EntryModel) (l : EntryModel) → entry_of l.code ls ≡ None →
    entry_of l.code (ls ++ l ∷ []) ≡ Some l
added_here [] l none = ap (λ b. cond b (Some l) None) (code_itself l.code)
added_here (k ∷ ls) l none = by (bytes_eq l.code k.code) none (added_here ls l)
  where
    by : (b : Bool) → cond b (Some k) (entry_of l.code ls) ≡ None →
        (entry_of l.code ls ≡ None → entry_of l.code (ls ++ l ∷ []) ≡ Some l) →
        cond b (Some k) (entry_of l.code (ls ++ l ∷ [])) ≡ Some l
    by true none later = not_none none
    by false none later = later none

pub added_apart : (other : List ℕ) (ls : List EntryModel) (l : EntryModel) →
    bytes_eq other l.code ≡ false → entry_of other (ls ++ l ∷ []) ≡ entry_of other ls
added_apart other [] l apart = ap (λ b. cond b (Some l) None) apart
added_apart other (k ∷ ls) l apart =
    ap (λ o. cond (bytes_eq other k.code) (Some k) o) (added_apart other ls l apart)

-- the code that is found is the one that is looked for
pub code_found : (code : List ℕ) (ls : List EntryModel) (l : EntryModel) → entry_of code ls ≡ Some l
    → l.code ≡ code
code_found code [] l found = not_none (sym found)
code_found code (k ∷ ls) l found = by (bytes_eq code k.code) refl found (code_found code ls l)
  where
    by : (b : Bool) → bytes_eq code k.code ≡ b → cond b (Some k) (entry_of code ls) ≡ Some l →
        (entry_of code ls ≡ Some l → l.code ≡ code) → l.code ≡ code
    by true e found later =
        ap (λ (o : Option EntryModel). elim o [ None ↦ code | Some m ↦ m.code ]) (sym found)
        ∙ sym ((bytes_eq-Decides code k.code).0 e)
    by false e found later = later found
