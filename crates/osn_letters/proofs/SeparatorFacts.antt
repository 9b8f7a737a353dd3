-- A separator that was found stays, and each byte before it is read as by it.
use Rattle.std.proofs.Common.{◌≡◌, ◌∙◌, ◌⊎◌, inl, inr, ℕ, ◌==◌, Bool, true, false, if◌then◌else◌}
use Rattle.std.proofs.Common.{List, [], ◌∷◌, Option, Some, None, refl, sym, ap, subst}
use Rattle.std.proofs.lemmas.Bool.Decides.{Decides-eqb}
use Rattle.csv.specs.declared.parser.Action.{Action}
use Rattle.csv.specs.declared.parser.Action.TheVariants as act
use Rattle.csv.specs.declared.parser.State.{State}
use Rattle.csv.specs.declared.parser.State.TheVariants as st
use Rattle.csv.specs.Machine.{step}
use Rattle.osn_letters.specs.declared.separator.Separator.{Separator}
use Rattle.osn_letters.specs.declared.separator.Separator.TheVariants.{Comma, Semicolon, Tab}
use Rattle.osn_letters.specs.Records.{Reading, after, read_byte, reading_after}
use Rattle.osn_letters.specs.Separators.{config_by, or_comma, separator_after}
use Rattle.osn_letters.specs.Separators.{separator_byte, separator_of}

-- a separator that was found stays
pub found_stays : (r : Reading) (bytes : List ℕ) (x : Separator) → r.separator ≡ Some x
    → (reading_after r bytes).separator ≡ Some x
found_stays r [] x found = found
found_stays r (b ∷ bytes) x found =
    found_stays (after r b) bytes x
    (ap (λ f. separator_after f b (read_byte r.separator r.state b).1) found)

-- the end of a record does not change what separates its fields
pub ended_separator : (found : Option Separator) (b : ℕ)
    → or_comma (separator_after found b act.EndRecord) ≡ or_comma found
ended_separator None b = refl
ended_separator (Some x) b = refl

-- ---- a byte that is not a separator

none_of : (t u v : Bool)
    → (if t then Some Comma else if u then Some Semicolon else if v then Some Tab else None) ≡ None
    → (t ≡ false) × (u ≡ false) × (v ≡ false)
none_of true u v h = absurd (cc h)
none_of false true v h = absurd (cc h)
none_of false false true h = absurd (cc h)
none_of false false false h = (refl, refl, refl)

pub no_separator : (b : ℕ) → separator_of b ≡ None → (x : Separator)
    → (b == separator_byte x) ≡ false
no_separator b h Comma = (none_of (b == 44) (b == 59) (b == 9) h).0
no_separator b h Semicolon = (none_of (b == 44) (b == 59) (b == 9) h).1
no_separator b h Tab = (none_of (b == 44) (b == 59) (b == 9) h).2

-- a byte that is not a separator is read alike by each separator
other_step : (b : ℕ) → separator_of b ≡ None → (p q : Separator) (s : State)
    → step (config_by p) s b ≡ step (config_by q) s b
other_step b h p q st.StartRecord = rw (no_separator b h p, no_separator b h q) refl
other_step b h p q st.StartField = rw (no_separator b h p, no_separator b h q) refl
other_step b h p q st.InField = rw (no_separator b h p, no_separator b h q) refl
other_step b h p q st.InQuoted = refl
other_step b h p q st.AfterQuote = rw (no_separator b h p, no_separator b h q) refl
other_step b h p q st.InEscape = refl
other_step b h p q st.InComment = refl
other_step b h p q st.AfterCr = rw (no_separator b h p, no_separator b h q) refl

-- ---- a byte that is one

one_of : (b : ℕ) (t u v : Bool) → (b == 44) ≡ t → (b == 59) ≡ u → (b == 9) ≡ v → (x : Separator)
    → (if t then Some Comma else if u then Some Semicolon else if v then Some Tab else None)
    ≡ Some x → b ≡ separator_byte x
one_of b true u v c d e x h =
    let same : Comma ≡ x = cc in
    (Decides-eqb b 44).0 c ∙ ap separator_byte same
one_of b false true v c d e x h =
    let same : Semicolon ≡ x = cc in
    (Decides-eqb b 59).0 d ∙ ap separator_byte same
one_of b false false true c d e x h =
    let same : Tab ≡ x = cc in
    (Decides-eqb b 9).0 e ∙ ap separator_byte same
one_of b false false false c d e x h = absurd (cc h)

-- it ends a field that is in no quotes, and elsewhere it is read by one separator as by another
own_step : (x : Separator) (s : State)
    → (step (config_by x) s (separator_byte x) ≡ (st.StartField, act.EndField))
    ⊎ ((p q : Separator) → step (config_by p) s (separator_byte x)
    ≡ step (config_by q) s (separator_byte x))
own_step Comma st.StartRecord = inl refl
own_step Comma st.StartField = inl refl
own_step Comma st.InField = inl refl
own_step Comma st.InQuoted = inr (λ p q. refl)
own_step Comma st.AfterQuote = inl refl
own_step Comma st.InEscape = inr (λ p q. refl)
own_step Comma st.InComment = inr (λ p q. refl)
own_step Comma st.AfterCr = inl refl
own_step Semicolon st.StartRecord = inl refl
own_step Semicolon st.StartField = inl refl
own_step Semicolon st.InField = inl refl
own_step Semicolon st.InQuoted = inr (λ p q. refl)
own_step Semicolon st.AfterQuote = inl refl
own_step Semicolon st.InEscape = inr (λ p q. refl)
own_step Semicolon st.InComment = inr (λ p q. refl)
own_step Semicolon st.AfterCr = inl refl
own_step Tab st.StartRecord = inl refl
own_step Tab st.StartField = inl refl
own_step Tab st.InField = inl refl
own_step Tab st.InQuoted = inr (λ p q. refl)
own_step Tab st.AfterQuote = inl refl
own_step Tab st.InEscape = inr (λ p q. refl)
own_step Tab st.InComment = inr (λ p q. refl)
own_step Tab st.AfterCr = inl refl

own_found : (x : Separator) → separator_of (separator_byte x) ≡ Some x
own_found Comma = refl
own_found Semicolon = refl
own_found Tab = refl

-- ---- a byte is read as by the separator that is found in the end

-- what a byte finds is that separator
abbrev Finds : Option Separator → ℕ → Action → Separator → Type 0
Finds found b a final = (x : Separator) → separator_after found b a ≡ Some x → final ≡ x

own_settled : (x : Separator) (s : State) (final : Separator)
    → Finds None (separator_byte x) (step (config_by x) s (separator_byte x)).1 final
    → (step (config_by x) s (separator_byte x) ≡ (st.StartField, act.EndField))
    ⊎ ((p q : Separator) → step (config_by p) s (separator_byte x)
    ≡ step (config_by q) s (separator_byte x))
    → step (config_by x) s (separator_byte x) ≡ step (config_by final) s (separator_byte x)
own_settled x s final finds (inl ends) =
    ap (λ y. step (config_by y) s (separator_byte x))
    (sym (finds x (ap (λ a. separator_after None (separator_byte x) a.1) ends ∙ own_found x)))
own_settled x s final finds (inr same) = same x final

none_settled : (o : Option Separator) (b : ℕ) → separator_of b ≡ o → (s : State)
    (final : Separator) → Finds None b (step (config_by (or_comma o)) s b).1 final
    → step (config_by (or_comma o)) s b ≡ step (config_by final) s b
none_settled None b is s final finds = other_step b is Comma final s
none_settled (Some x) b is s final finds =
    let same = one_of b (b == 44) (b == 59) (b == 9) refl refl refl x is in
    subst (λ c. Finds None c (step (config_by x) s c).1 final
    → step (config_by x) s c ≡ step (config_by final) s c) (sym same)
    (λ h. own_settled x s final h (own_step x s)) finds

pub settled : (found : Option Separator) (s : State) (b : ℕ) (final : Separator)
    → Finds found b (read_byte found s b).1 final
    → read_byte found s b ≡ step (config_by final) s b
unfolding read_byte
settled (Some x) s b final finds =
    ap (λ y. step (config_by y) s b) (sym (finds x refl))
settled None s b final finds = none_settled (separator_of b) b refl s final finds
