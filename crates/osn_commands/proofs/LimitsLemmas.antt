-- The settings of limits, in the words of the calls that find them.
use Rattle.std.proofs.Common.{◌≡◌, ◌<◌, ◌∙◌, ℕ, ◌+◌, ◌==◌, Bool, true, false, List, [], ◌∷◌}
use Rattle.std.proofs.Common.{if◌then◌else◌, length, Option, Some, None, Result, Ok, Err, arith, ap}
use Rattle.std.proofs.Common.{refl, option_map}
use Rattle.std.specs.Prelude.{unwrap_or}
use Rattle.std.specs.Result.{result_ok}
use Rattle.std.specs.Str.Parse.{ParsesUnsigned, digits_value, without_leading_plus}
use Rattle.std.proofs.lemmas.Option.{same_Some}
use Rattle.clap.specs.Words.{Text}
use Rattle.osn_invocation.specs.Invocation.{is_number, number_or}
use Rattle.osn_invocation.proofs.NumberLemmas.{number_read}
use Rattle.osn_register.specs.declared.limits.Limits.{Limits}
use Rattle.osn_written.specs.WrittenDate.{parts_at, with_first}
use Rattle.osn_commands.specs.Limits.{◌>>=◌, number_of, onto_first, settings, with_setting}
use Rattle.osn_commands.specs.Limits.{with_settings}

-- what is read as this number, and else as any other one, is the number
number_by : {E : Type 0} (text : Text) (r : Result ℕ E) (t : Bool)
    → is_number (without_leading_plus text) ≡ t
    → ((other : ℕ) → unwrap_or (result_ok r) other ≡ number_or other text)
    → result_ok r ≡ number_of text
number_by text (Ok n) true e h =
    let is : n ≡ digits_value 10 (without_leading_plus text) = h 0 ∙ rw e refl in
    rw e (ap Some is)
number_by text (Ok n) false e h =
    let other : n ≡ n + 1 = h (n + 1) ∙ rw e refl in
    absurd (omega (arith, other))
number_by text (Err f) true e h =
    let v = digits_value 10 (without_leading_plus text) in
    let other : v + 1 ≡ v = h (v + 1) ∙ rw e refl in
    absurd (omega (arith, other))
number_by text (Err f) false e h = rw e refl

-- what `parse` gives
pub number_parsed : {E : Type 0} (text : Text) (r : Result ℕ E) → ParsesUnsigned 32 10 text r
    → result_ok r ≡ number_of text
number_parsed {E = E} text (Ok n) h =
    number_by {E = E} text (Ok n) (is_number (without_leading_plus text)) refl
    (λ other. number_read {E = E} (ParsesUnsigned 32 10) (λ t x p. p) other text (Some n) h)
number_parsed {E = E} text (Err f) h =
    number_by {E = E} text (Err f) (is_number (without_leading_plus text)) refl
    (λ other. number_read {E = E} (ParsesUnsigned 32 10) (λ t x p. p) other text None (f, h))

-- the settings of a text by what is before and after its first comma
abbrev settings_by : List ℕ → Option (List ℕ × List ℕ) → List (List ℕ)
settings_by text None = text ∷ []
settings_by text (Some parts) = parts.0 ∷ settings parts.1

one_more : (b : ℕ) (rest : List ℕ) (t : Bool) (parts : Option (List ℕ × List ℕ))
    → settings rest ≡ settings_by rest parts
    → (if t then [] ∷ settings rest else onto_first b (settings rest))
    ≡ settings_by (b ∷ rest) (if t then Some ([], rest) else option_map (with_first b) parts)
one_more b rest true parts h = refl
one_more b rest false None h = ap (onto_first b) h
one_more b rest false (Some parts) h = ap (onto_first b) h

pub settings_cut : (text : List ℕ) → settings text ≡ settings_by text (parts_at 44 text)
settings_cut [] = refl
settings_cut (b ∷ rest) = one_more b rest (b == 44) (parts_at 44 rest) (settings_cut rest)

-- what comes after a comma is shorter
shorter_by : (b : ℕ) (rest : List ℕ) (t : Bool) (parts : Option (List ℕ × List ℕ))
    (first further : List ℕ)
    → ((first further : List ℕ) → parts ≡ Some (first, further) → length further < length rest)
    → (if t then Some ([], rest) else option_map (with_first b) parts) ≡ Some (first, further)
    → length further < length (b ∷ rest)
shorter_by b rest true parts first further h e =
    let is : rest ≡ further = ap (λ x. x.1) (same_Some _ _ e) in
    omega (arith, ap length is)
shorter_by b rest false None first further h e = absurd (cc)
shorter_by b rest false (Some parts) first further h e =
    let is : parts.1 ≡ further = ap (λ x. x.1) (same_Some _ _ e) in
    omega (arith, h parts.0 parts.1 refl, ap length is)

pub shorter : (text first further : List ℕ) → parts_at 44 text ≡ Some (first, further)
    → length further < length text
shorter [] first further e = absurd (cc)
shorter (b ∷ rest) first further e =
    shorter_by b rest (b == 44) (parts_at 44 rest) first further (shorter rest) e

-- a setting before a comma is set first
pub first_set : (limits set : Limits) (text first further : List ℕ)
    → parts_at 44 text ≡ Some (first, further) → with_setting limits first ≡ Some set
    → with_settings limits (settings text) ≡ with_settings set (settings further)
first_set limits set text first further cut is = rw (settings_cut text, cut, is) refl

-- if it sets nothing, the text has no limits
pub none_set : (limits : Limits) (text first further : List ℕ)
    → parts_at 44 text ≡ Some (first, further) → with_setting limits first ≡ None
    → with_settings limits (settings text) ≡ None
none_set limits text first further cut is = rw (settings_cut text, cut, is) refl

-- a text with no comma has one setting
one_set : (o : Option Limits) → (o >>= (λ limits. Some limits)) ≡ o
one_set None = refl
one_set (Some limits) = refl

pub only_set : (limits : Limits) (text : List ℕ) → parts_at 44 text ≡ None
    → with_settings limits (settings text) ≡ with_setting limits text
only_set limits text cut = rw (settings_cut text, cut) (one_set (with_setting limits text))
