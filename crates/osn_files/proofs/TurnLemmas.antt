-- A fault of lines in turn is at none of those before.
use Rattle.std.proofs.Common.{◌≡◌, ℕ, ◌+◌, ◌<◌, ◌≤◌, List, [], ◌∷◌, Option, Some, None, Result, Ok}
use Rattle.std.proofs.Common.{Err, IfErr, refl, sym, subst, arith}
use Rattle.std.proofs.lemmas.Result.{IfErr-weaker}
use Rattle.serde_json.specs.Data.{Data}
use Rattle.osn_request.specs.Request.{object_of}
use Rattle.osn_request.specs.declared.version.Version.{Version}
use Rattle.osn_files.specs.declared.fault.LineFault.{LineFault}
use Rattle.osn_files.specs.Turns.{on_read, go_on, in_turn}
use Rattle.osn_files.specs.Version.{version_of}

later_by : {A B : Type 0} (n : ℕ) (r : Result A LineFault) (next : A → Result B (ℕ × LineFault))
    → ((t : A) → IfErr (next t) (λ e. n + 1 ≤ e.0)) → IfErr (go_on n r next) (λ e. n ≤ e.0)
later_by n (Ok t) next each = IfErr-weaker (next t) _ _ (λ e le. omega (arith, le)) (each t)
later_by n (Err f) next each = omega arith

later : {A : Type 0} (step : Version → A → Data → Result A LineFault) (n : ℕ) (version : Version)
    (a : A) (ls : List (List ℕ)) → IfErr (in_turn step n (Some version) a ls) (λ e. n ≤ e.0)
later step n version a [] = tt
later step n version a (line ∷ rest) =
    later_by n (on_read (object_of line) (step version a))
    (λ t. in_turn step (n + 1) (Some version) t rest)
    (λ t. later step (n + 1) version t rest)

headed : {A : Type 0} (step : Version → A → Data → Result A LineFault) (a : A)
    (ls : List (List ℕ)) → IfErr (in_turn step 1 None a ls) (λ e. 1 ≤ e.0)
headed step a [] = omega arith
headed step a (head ∷ rest) =
    later_by 1 (on_read (version_of head) Ok) (λ version. in_turn step 2 (Some version) a rest)
    (λ version. later step 2 version a rest)

-- if no version is known no line was taken
pub faults_after : {A : Type 0} (step : Version → A → Data → Result A LineFault) (n : ℕ)
    (version : Option Version) (a : A) (ls : List (List ℕ)) → (version ≡ None → n ≡ 0)
    → IfErr (in_turn step (n + 1) version a ls) (λ e. n < e.0)
faults_after step n None a ls fresh =
    subst (λ (m : ℕ). IfErr (in_turn step (m + 1) None a ls) (λ e. m < e.0)) (sym (fresh refl))
    (IfErr-weaker (in_turn step 1 None a ls) _ _ (λ e le. omega (arith, le)) (headed step a ls))
faults_after step n (Some version) a ls fresh =
    IfErr-weaker (in_turn step (n + 1) (Some version) a ls) _ _ (λ e le. omega (arith, le))
    (later step (n + 1) version a ls)

-- lines are counted from 1
pub faults_from_1 : {A : Type 0} (step : Version → A → Data → Result A LineFault)
    (version : Option Version) (a : A) (ls : List (List ℕ))
    → IfErr (in_turn step 1 version a ls) (λ e. 0 < e.0)
faults_from_1 step version a ls = faults_after step 0 version a ls (λ none. refl)
