-- One write after another, and one read after another, if the bytes are known.
use Rattle.std.proofs.Common.{◌≡◌, ℕ, ◌+◌, List, [], ◌++◌, Option, None, Some, take, drop, refl}
use Rattle.std.proofs.Common.{sym, ap, subst, ◌∙◌, append_assoc, append-nil}
use Rattle.std.proofs.Math.Seq.{take-add}
use Rattle.std.specs.Io.KnownBytes.{Appends, Consumes, Keeps}

pub Appends-nothing : (a : Option (List ℕ)) → Appends a a []
Appends-nothing None = tt
Appends-nothing (Some xs) = sym (append-nil xs)

pub Appends-then : (a b c : Option (List ℕ)) (xs ys : List ℕ) → Appends a b xs → Appends b c ys →
    Appends a c (xs ++ ys)
Appends-then None b c xs ys h k = tt
Appends-then (Some ps) None c xs ys h k = absurd h
Appends-then (Some ps) (Some qs) None xs ys h k = absurd k
Appends-then (Some ps) (Some qs) (Some rs) xs ys h k =
    k ∙ (ap (λ l. l ++ ys) h ∙ append_assoc ps xs ys)

pub Consumes-nothing : (a : Option (List ℕ)) → Consumes a a []
Consumes-nothing None = tt
Consumes-nothing (Some xs) = refl

pub Consumes-then : (a b c : Option (List ℕ)) (xs ys : List ℕ) → Consumes a b xs → Consumes b c ys →
    Consumes a c (xs ++ ys)
Consumes-then None b c xs ys h k = tt
Consumes-then (Some ps) None c xs ys h k = absurd h
Consumes-then (Some ps) (Some qs) None xs ys h k = absurd k
Consumes-then (Some ps) (Some qs) (Some rs) xs ys h k =
    h ∙ (ap (λ l. xs ++ l) k ∙ sym (append_assoc xs ys rs))

-- a write of bytes from a place on
pub Appends-next : (a b c : Option (List ℕ)) (bytes hay : List ℕ) (from n : ℕ) →
    hay ≡ drop from bytes → Appends a b (take from bytes) → Appends b c (take n hay) →
    Appends a c (take (from + n) bytes)
Appends-next a b c bytes hay from n is_hay h k =
    subst (Appends a c) (ap (λ l. take from bytes ++ take n l) is_hay ∙ sym (take-add from n bytes))
    (Appends-then a b c (take from bytes) (take n hay) h k)

-- a read of no bytes
pub Consumes-end : (a b c : Option (List ℕ)) (read buffer : List ℕ) (n : ℕ) → n ≡ 0 →
    Consumes a b read → Consumes b c (take n buffer) → Consumes a c read
Consumes-end a b c read buffer n none h k =
    subst (Consumes a c) (append-nil read) (Consumes-then a b c read [] h
    (subst (λ (i : ℕ). Consumes b c (take i buffer)) none k))

-- a read that failed
pub Consumes-keeps : (a b c : Option (List ℕ)) (read : List ℕ) → Consumes a b read → Keeps b c →
    Consumes a c read
Consumes-keeps None b c read h k = tt
Consumes-keeps (Some xs) None c read h k = absurd h
Consumes-keeps (Some xs) (Some ys) None read h k = absurd k
Consumes-keeps (Some xs) (Some ys) (Some zs) read h k = h ∙ ap (λ l. read ++ l) (sym k)
