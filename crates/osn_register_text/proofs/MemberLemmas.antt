-- The members of a table, as the entries of its map.
use Rattle.std.proofs.Common.{◌≡◌, ℕ, if◌then◌else◌, List, [], ◌∷◌, length, slice_get, Option, Some}
use Rattle.std.proofs.Common.{None, String, Global, string_bytes, refl, ap, arith}
use Rattle.std.specs.Map.{keys_of}
use Rattle.toml.specs.View.{members_view, view}
use Rattle.toml.specs.declared.value.Value.{Value}
use Rattle.osn_register_text.specs.declared.key.Part.{Part}
use Rattle.osn_register_text.specs.Key.{is_key_of}
use Rattle.osn_register_text.specs.Field.{unknown_key}
use Rattle.osn_register_text.specs.DayField.{only_member}

-- the first of some keys that a table may not have
abbrev pub unknown_among : Part → List (String Global) → Option (List ℕ)
unknown_among part [] = None
unknown_among part (k ∷ ks) =
    if is_key_of part (string_bytes k) then unknown_among part ks else Some (string_bytes k)

-- the first unknown key of members is that of their keys
pub unknown_key-keys : (part : Part) (es : List (String Global × Value))
    → unknown_key part (members_view es) ≡ unknown_among part (keys_of es)
unknown_key-keys part [] = refl
unknown_key-keys part (e ∷ es) =
    ap (λ rest. if is_key_of part (string_bytes e.0) then rest else Some (string_bytes e.0))
    (unknown_key-keys part es)

-- the only member of a map's entries
pub only_member-one : (es : List (String Global × Value)) (k : String Global) (v : Value)
    → length es ≡ 1 → slice_get es 0 ≡ Some (k, v)
    → Some (string_bytes k, view v) ≡ only_member (members_view es)
only_member-one [] k v one first = absurd (omega (arith, one))
only_member-one (e ∷ []) k v one first =
    let same : (k, v) ≡ e = cc in
    ap (λ m. Some (string_bytes m.0, view m.1)) same
only_member-one (e ∷ f ∷ es) k v one first = absurd (omega (arith, one))

pub only_member-others : (es : List (String Global × Value)) → ¬ (length es ≡ 1)
    → None ≡ only_member (members_view es)
only_member-others [] other = refl
only_member-others (e ∷ []) other = absurd (other refl)
only_member-others (e ∷ f ∷ es) other = refl
