-- The entries of a table of places, as they are kept.
use Rattle.std.proofs.Common.{◌≡◌, ◌∙◌, ℕ, List, [], ◌∷◌, ◌++◌, Option, Some, None}
use Rattle.std.proofs.Common.{true, false, cond, find, map, option_map, refl, sym, ap}
use Rattle.std.specs.Map.{lookup}
use Rattle.std.specs.Str.{bytes_eq}
use Rattle.osn_letters.specs.PlaceEntries.{PlaceEntry, code_of, entry_in}

module _ {K V : Type 0} (text : K → List ℕ) (code : V → List ℕ) where
  pub code_of-map : (place : List ℕ) (es : List (K × V)) →
      code_of place (map (entry_in text code) es)
      ≡ option_map code (lookup (λ k. bytes_eq place (text k)) es)
  code_of-map place [] = refl
  code_of-map place (e ∷ es) =
      elim (bytes_eq place (text e.0)) as (λ b. option_map (λ (l : PlaceEntry). l.code)
      (cond b (Some (entry_in text code e)) (find (λ l. bytes_eq place l.place)
      (map (entry_in text code) es))) ≡ option_map code
      (cond b (Some e.1) (lookup (λ k. bytes_eq place (text k)) es))) [
        | true ↦ refl
        | false ↦ code_of-map place es
      ]

  no_value : (o : Option V) → option_map code o ≡ None → o ≡ None
  no_value None h = refl
  no_value (Some v) h = absurd (cc h)

  pub code_of-none : (place : List ℕ) (es : List (K × V)) →
      code_of place (map (entry_in text code) es) ≡ None →
      lookup (λ k. bytes_eq place (text k)) es ≡ None
  code_of-none place es none = no_value (lookup (λ k. bytes_eq place (text k)) es)
      (sym (code_of-map place es) ∙ none)

  entries-push : (es : List (K × V)) (e : K × V) →
      map (entry_in text code) (es ++ e ∷ [])
      ≡ map (entry_in text code) es ++ entry_in text code e ∷ []
  entries-push [] e = refl
  entries-push (d ∷ es) e = ap (λ ls. entry_in text code d ∷ ls) (entries-push es e)

  -- after one new key
  pub entries_with : (old new : List (K × V)) (k : K) (v : V) → new ≡ old ++ (k, v) ∷ [] →
      map (entry_in text code) new
      ≡ map (entry_in text code) old ++ entry_in text code (k, v) ∷ []
  entries_with old new k v e = ap (map (entry_in text code)) e ∙ entries-push old (k, v)
