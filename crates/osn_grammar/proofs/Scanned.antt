-- One more character of a text is taken, when the parts so far are known.
use Rattle.std.proofs.Common.{◌≡◌, ◌<◌, ℕ, suc, ◌+◌, ◌-◌, List, ◌∷◌, ◌++◌, Result, Ok, Err, OnOk}
use Rattle.std.proofs.Common.{length, get_or, take, drop}
use Rattle.std.proofs.Common.{refl, ap, ◌∙◌, sym, arith, append_assoc, drop-cons}
use Rattle.std.proofs.Math.Seq.{take-length}
use Rattle.std.proofs.lemmas.List.{length-drop}
use Rattle.osn_grammar.specs.declared.token.Token.{Token}
use Rattle.osn_grammar.specs.Scan.{tokens_after, tokens_ended, word_after}

one_before : (rest : List ℕ) (c : ℕ) (before now : List Token) (word word_now : List ℕ)
    → now ≡ before ++ tokens_ended word c rest → word_now ≡ word_after word c rest
    → now ++ tokens_after word_now rest ≡ before ++ tokens_after word (c ∷ rest)
one_before rest c before now word word_now ended word_is =
    ap (λ p. p ++ tokens_after word_now rest) ended
    ∙ append_assoc before (tokens_ended word c rest) (tokens_after word_now rest)
    ∙ ap (λ w. before ++ (tokens_ended word c rest ++ tokens_after w rest)) word_is

from_here : (s : List ℕ) (k c : ℕ) → k < length s → c ≡ get_or s k c
    → c ∷ drop (k + 1) s ≡ drop k s
from_here s k c low is =
    let more : k + 1 ≡ suc k = omega arith in
    sym (drop-cons s k c low ∙ rw (sym is, more) refl)

-- a slice to the end is what is left
pub slice_left : (s : List ℕ) (j : ℕ) → take (length s - j) (drop j s) ≡ drop j s
slice_left s j = ap (λ n. take n (drop j s)) (sym (length-drop j s)) ∙ take-length (drop j s)

-- if the character at a place was taken, the parts so far and those of what is left are as before
pub one_taken : {T E : Type 0} (r : Result T E) (s rest : List ℕ) (k c : ℕ)
    (before now : List Token) (word word_now : List ℕ) → k < length s → c ≡ get_or s k c
    → rest ≡ drop (k + 1) s → OnOk r (now ≡ before ++ tokens_ended word c rest)
    → OnOk r (word_now ≡ word_after word c rest)
    → OnOk r (now ++ tokens_after word_now (drop (k + 1) s) ≡ before
    ++ tokens_after word (drop k s))
one_taken (Ok x) s rest k c before now word word_now low is ahead ended word_is =
    ap (λ left. now ++ tokens_after word_now left) (sym ahead)
    ∙ one_before rest c before now word word_now ended word_is
    ∙ ap (λ left. before ++ tokens_after word left)
    (ap (λ left. c ∷ left) ahead ∙ from_here s k c low is)
one_taken (Err e) s rest k c before now word word_now low is ahead ended word_is = tt
