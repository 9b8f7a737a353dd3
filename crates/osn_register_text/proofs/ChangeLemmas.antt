-- A change that is read is added to the edits, and then those after it.
use Rattle.std.proofs.Common.{◌≡◌, ◌<◌, ◌+◌, ℕ, ℤ, List, [], ◌∷◌, ◌++◌, length, get_or, drop}
use Rattle.std.proofs.Common.{Option, Some, Result, Ok, Err, refl, ap, sym, ◌∙◌, append_assoc}
use Rattle.toml.specs.Data.{item, Members}
use Rattle.toml.specs.View.{items_view, view}
use Rattle.toml.specs.declared.value.Value.{Value}
use Rattle.toml.proofs.Views.{items_view-drop}
use Rattle.osn_territory.specs.declared.regime.Regime.{Regime}
use Rattle.osn_register.specs.declared.edit.Edit.TheVariants.{AddChange}
use Rattle.osn_register_text.specs.declared.key.Part.TheVariants.{Change}
use Rattle.osn_register_text.specs.declared.fault.KeyFault.{KeyFault}
use Rattle.osn_register_text.specs.Field.{Place, ◌>>=◌, table_of}
use Rattle.osn_register_text.specs.TerritoryText.{Placed, change_of, changes_from}
use Rattle.osn_register_text.specs.Inside.{onto}

onto_push : (before : List Placed) (e : Placed) (more : Result (List Placed) KeyFault)
    → onto before (more >>= λ es. Ok (e ∷ es)) ≡ onto (before ++ e ∷ []) more
onto_push before e (Ok es) = ap Ok (sym (append_assoc before (e ∷ []) es))
onto_push before e (Err f) = refl

abbrev pub change_place : List ℕ → ℕ → Place
change_place code n = record { code = code; part = Change n }

pub changes_read : (code : List ℕ) (i : ℕ) (before : Option ℤ) (regime : Regime)
    (vs : List Value) (v : Value) (ms : Members) (day : ℤ) (changed : Regime)
    (source : Option (List ℕ)) (done : List Placed)
    → i < length vs → v ≡ get_or vs i v
    → table_of (change_place code (i + 1)) (view v) ≡ Ok ms
    → change_of (change_place code (i + 1)) before regime ms ≡ Ok (day, changed, source)
    → onto done (changes_from code (i + 1) before regime (items_view (drop i vs)))
    ≡ onto (done ++ (Change (i + 1), AddChange code day changed source) ∷ [])
    (changes_from code (i + 1 + 1) (Some day) changed (items_view (drop (i + 1) vs)))
changes_read code i before regime vs v ms day changed source done within is table read =
    let rest = items_view (drop (i + 1) vs) in
    ap (λ ds. onto done (changes_from code (i + 1) before regime ds))
    (items_view-drop vs i v within ∙ ap (λ x. item (view x) rest) (sym is))
    ∙ rw (table, read)
    (onto_push done (Change (i + 1), AddChange code day changed source)
    (changes_from code (i + 1 + 1) (Some day) changed rest))
