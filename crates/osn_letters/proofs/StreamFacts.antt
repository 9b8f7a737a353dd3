-- What follows for the whole input, if it is known.
use Rattle.std.proofs.Common.{◌≡◌, ◌≤◌, ◌∙◌, ℕ, List, [], ◌++◌, Bool, true, false, Option, Some}
use Rattle.std.proofs.Common.{None, IfSome, refl}
use Rattle.std.proofs.Common.{sym, ap, subst, append_assoc, append-nil, arith, length}
use Rattle.std.proofs.Common.{length-append}
use Rattle.std.proofs.Common.{inl, inr, Result, Ok, Err, OnOk, IfErr, MatchResult}
use Rattle.std.specs.Result.{IsErrAnd}
use Rattle.std.proofs.lemmas.Result.{err_from_is_err_and}
use Rattle.std.specs.Io.KnownBytes.{Consumes, IsAtEnd}
use Rattle.osn_lines.proofs.ByteLemmas.{Appends-nothing}
use Rattle.osn_lines.proofs.InputLemmas.{known, known_whole}
use Rattle.osn_letters.specs.declared.fault.LettersFault.{LettersFault}
use Rattle.osn_letters.specs.LettersInside.{Passes}
use Rattle.osn_letters.specs.Table.{Written, EndsEarly, IsWhole, IsLong}
use Rattle.osn_letters.specs.Faults.{is_of_table, is_read_fault, EndsStream}
use Rattle.osn_letters.proofs.LetterFacts.{passes_then, passes_early, passes_whole, passes_ends}

-- a part of what is written of the input was written: of what was read, whatever comes after it
abbrev pub PassesRead : (List ℕ → Written) → (List ℕ → Written) → Option (List ℕ)
    → Option (List ℕ) → List ℕ → Type 0
PassesRead all rest c d read = (more : List ℕ) → Passes c d (all (read ++ more)) (rest more)

pub passes_nothing : (c : Option (List ℕ)) (w : Written) → Passes c c w w
passes_nothing c w = record { text = []; appended = Appends-nothing c; begins = refl }

-- before anything was read
pub nothing_early : (all : List ℕ → Written) (input c : Option (List ℕ)) (fault : LettersFault)
    → is_of_table fault ≡ false → IfSome input (λ text. EndsEarly c c (all text) fault)
nothing_early all None c fault other = tt
nothing_early all (Some text) c fault other =
    passes_ends fault other (passes_nothing c (all text))

-- between two reads
pub between_early : (all rest : List ℕ → Written) (input left c d : Option (List ℕ))
    (read : List ℕ) (fault : LettersFault) → is_of_table fault ≡ false → Consumes input left read
    → PassesRead all rest c d read → IfSome input (λ text. EndsEarly c d (all text) fault)
between_early all rest input left c d read fault other consumed passes =
    known (λ text. EndsEarly c d (all text) fault) input left read consumed
    (λ more. passes_ends fault other (passes more))

-- at the end of the input
pub end_whole : (all rest : List ℕ → Written) (input left c d e : Option (List ℕ))
    (read : List ℕ) → Consumes input left read → IsAtEnd left → PassesRead all rest c d read
    → IsWhole d e (rest []) → IfSome input (λ text. IsWhole c e (all text))
end_whole all rest input left c d e read consumed end passes ended =
    known_whole (λ text. IsWhole c e (all text)) input left read consumed end
    (subst (λ text. IsWhole c e (all text)) (append-nil read)
    (passes_whole c d e (passes []) ended))

pub end_early : (all rest : List ℕ → Written) (input left c d e : Option (List ℕ))
    (read : List ℕ) (fault : LettersFault) → Consumes input left read → IsAtEnd left
    → PassesRead all rest c d read → EndsEarly d e (rest []) fault
    → IfSome input (λ text. EndsEarly c e (all text) fault)
end_early all rest input left c d e read fault consumed end passes ended =
    known_whole (λ text. EndsEarly c e (all text) fault) input left read consumed end
    (subst (λ text. EndsEarly c e (all text) fault) (append-nil read)
    (passes_early (passes []) ended))

-- at what one read gave
pub read_early : (all rest : List ℕ → Written) (input left c d e : Option (List ℕ))
    (read got piece : List ℕ) (fault : LettersFault) → piece ≡ got
    → Consumes input left (read ++ got) → PassesRead all rest c d read
    → ((more : List ℕ) → EndsEarly d e (rest (piece ++ more)) fault)
    → IfSome input (λ text. EndsEarly c e (all text) fault)
read_early all rest input left c d e read got piece fault same consumed passes ended =
    known (λ text. EndsEarly c e (all text) fault) input left (read ++ got) consumed
    (λ more. subst (λ text. EndsEarly c e (all text) fault)
    (ap (λ l. read ++ (l ++ more)) same ∙ sym (append_assoc read got more))
    (passes_early (passes (piece ++ more)) (ended more)))

-- one read more
pub read_passes : (all rest next : List ℕ → Written) (c d e : Option (List ℕ))
    (read got piece : List ℕ) → piece ≡ got → PassesRead all rest c d read
    → ((more : List ℕ) → Passes d e (rest (piece ++ more)) (next more))
    → PassesRead all next c e (read ++ got)
read_passes all rest next c d e read got piece same passes more_passes more =
    subst (λ text. Passes c e (all text) (next more))
    (ap (λ l. read ++ (l ++ more)) same ∙ sym (append_assoc read got more))
    (passes_then (passes (piece ++ more)) (more_passes more))

-- ---- what fails

pub ends_weaker : (is_it old old2 new : Bool) (P Q : Type 0) → old ≡ old2 → (P → Q)
    → EndsStream is_it old new P → EndsStream is_it old2 new Q
ends_weaker true old old2 new P Q same goes (inl failed) = inl failed
ends_weaker true old old2 new P Q same goes (inr long) = inr (goes long)
ends_weaker false old old2 new P Q same goes h = h ∙ same

long_after : (c d : Option (List ℕ)) (w v : Written) → Passes c d w v → IsLong v → IsLong w
long_after c d w v passes long =
    omega (arith, long, ap (λ u. length u.text) passes.begins, length-append passes.text v.text)

pub end_long : (all rest : List ℕ → Written) (input left c d : Option (List ℕ)) (read : List ℕ)
    → Consumes input left read → IsAtEnd left → PassesRead all rest c d read → IsLong (rest [])
    → IfSome input (λ text. IsLong (all text))
end_long all rest input left c d read consumed end passes long =
    known_whole (λ text. IsLong (all text)) input left read consumed end
    (subst (λ text. IsLong (all text)) (append-nil read)
    (long_after c d (all (read ++ [])) (rest []) (passes []) long))

pub read_long : (all rest : List ℕ → Written) (input left c d : Option (List ℕ))
    (read got piece : List ℕ) → piece ≡ got → Consumes input left (read ++ got)
    → PassesRead all rest c d read → ((more : List ℕ) → IsLong (rest (piece ++ more)))
    → IfSome input (λ text. IsLong (all text))
read_long all rest input left c d read got piece same consumed passes long =
    known (λ text. IsLong (all text)) input left (read ++ got) consumed
    (λ more. subst (λ text. IsLong (all text))
    (ap (λ l. read ++ (l ++ more)) same ∙ sym (append_assoc read got more))
    (long_after c d (all (read ++ (piece ++ more))) (rest (piece ++ more))
    (passes (piece ++ more)) (long more)))

-- at least this many bytes were read, so the input has as many
pub input_long : (input left : Option (List ℕ)) (read : List ℕ) (n : ℕ) → n ≤ length read
    → Consumes input left read → IfSome input (λ text. n ≤ length text)
input_long input left read n long consumed =
    known (λ text. n ≤ length text) input left read consumed
    (λ more. omega (arith, long, length-append read more))

-- a fact of each result
pub both_ways : {T E : Type 0} (P : Type 0) (Q : E → Type 0) (r : Result T E) → OnOk r P
    → IfErr r Q → MatchResult r (λ _. P) Q
both_ways P Q (Ok x) ok err = ok
both_ways P Q (Err e) ok err = err

-- a fact of a fault that a `?` passes on
pub ends_by_fault : {T E : Type 0} (P : Type 0) (Q : E → Type 0) (r : Result T E) (fault : E)
    → IsErrAnd r (λ e. e ≡ fault) → Q fault → MatchResult r (λ _. P) Q
ends_by_fault {T} {E} P Q r fault made h =
    let err = err_from_is_err_and r made in
    subst (λ (o : Result T E). MatchResult o (λ _. P) Q) (sym (err.1 ∙ ap Err err.2)) h

-- a fault that is not one of the input
pub unread_fault : (old new : Bool) (Long Read : Type 0) (fault : LettersFault) → new ≡ old
    → is_read_fault fault ≡ false
    → EndsStream (is_read_fault fault) old new Long × (is_read_fault fault ≡ true → Read)
unread_fault old new Long Read fault same unread =
    (rw unread same, λ fault_is. absurd (cc (sym unread ∙ fault_is)))

pub unread_ends : {T : Type 0} (old new : Bool) (Long Read : Type 0) (r : Result T LettersFault)
    → new ≡ old → IfErr r (λ fault. is_read_fault fault ≡ false)
    → MatchResult r (λ _. new ≡ old)
    (λ fault. EndsStream (is_read_fault fault) old new Long × (is_read_fault fault ≡ true → Read))
unread_ends old new Long Read (Ok x) same unread = same
unread_ends old new Long Read (Err fault) same unread =
    unread_fault old new Long Read fault same unread
