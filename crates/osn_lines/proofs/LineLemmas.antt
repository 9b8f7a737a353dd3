-- How `lines` continues after bytes that are already cut.
use Rattle.std.proofs.Common.{◌≡◌, ℕ, zero, suc, ◌+◌, ◌<◌, ◌≤◌, Bool, true, false, cond, List, []}
use Rattle.std.proofs.Common.{◌∷◌, ◌++◌, length, take, drop, refl, ap, sym, ◌∙◌, append_assoc}
use Rattle.std.proofs.Common.{append-nil, arith, subst, slice_index, ◌==◌, length-drop}
use Rattle.std.proofs.lemmas.List.{take_more}
use Rattle.std.proofs.Math.Seq.{take-add}
use Rattle.std.proofs.lemmas.Bool.{eqb-true}
use Rattle.osn_lines.specs.Inside.{HasNoFeed, Cuts}
use Rattle.osn_lines.specs.Lines.{lines, onto_first}

-- bytes put before the first line
abbrev pub onto : List ℕ → List (List ℕ) → List (List ℕ)
onto p [] = p ∷ []
onto p (line ∷ rest) = (p ++ line) ∷ rest

onto_first-onto : (b : ℕ) (p : List ℕ) (ls : List (List ℕ)) →
    onto_first b (onto p ls) ≡ onto (b ∷ p) ls
onto_first-onto b p [] = refl
onto_first-onto b p (l ∷ ls) = refl

onto_first-alone : (b : ℕ) (ls : List (List ℕ)) → onto_first b ls ≡ onto (b ∷ []) ls
onto_first-alone b [] = refl
onto_first-alone b (l ∷ ls) = refl

-- bytes without a line feed begin the first line
pub lines-front : (b : ℕ) (p more : List ℕ) → HasNoFeed (b ∷ p) →
    lines ((b ∷ p) ++ more) ≡ onto (b ∷ p) (lines more)
lines-front b [] more h =
    ap (λ t. cond t ([] ∷ lines more) (onto_first b (lines more))) h.0
    ∙ onto_first-alone b (lines more)
lines-front b (c ∷ p) more h =
    ap (λ t. cond t ([] ∷ lines ((c ∷ p) ++ more)) (onto_first b (lines ((c ∷ p) ++ more)))) h.0
    ∙ (ap (onto_first b) (lines-front c p more h.1) ∙ onto_first-onto b (c ∷ p) (lines more))

-- a line feed ends the line
pub lines-feed : (p more : List ℕ) → HasNoFeed p → lines (p ++ 10 ∷ more) ≡ p ∷ lines more
lines-feed [] more h = refl
lines-feed (b ∷ p) more h =
    lines-front b p (10 ∷ more) h ∙ ap (λ l. l ∷ lines more) (append-nil (b ∷ p))

-- bytes without a line feed are one line, if there are any
lines-last : (b : ℕ) (p : List ℕ) → HasNoFeed (b ∷ p) → lines (b ∷ p) ≡ (b ∷ p) ∷ []
lines-last b p h = ap lines (sym (append-nil (b ∷ p))) ∙ lines-front b p [] h

pub HasNoFeed-append : (xs ys : List ℕ) → HasNoFeed xs → HasNoFeed ys → HasNoFeed (xs ++ ys)
HasNoFeed-append [] ys h k = k
HasNoFeed-append (x ∷ xs) ys h k = (h.0, HasNoFeed-append xs ys h.1 k)

-- at the start nothing is cut
pub Cuts-nothing : (bytes : List ℕ) → Cuts bytes [] bytes
Cuts-nothing bytes = record { whole = λ more. refl }

-- a line and its line feed
pub Cuts-line : (line : List ℕ) → HasNoFeed line → Cuts (line ++ 10 ∷ []) (line ∷ []) []
Cuts-line line h =
    record { whole = λ more. ap lines (append_assoc line (10 ∷ []) more) ∙ lines-feed line more h }

-- more bytes are left over too
pub Cuts-more : (bytes left more : List ℕ) (done : List (List ℕ)) → Cuts bytes done left →
    Cuts (bytes ++ more) done (left ++ more)
Cuts-more bytes left more done h = record {
  whole = λ xs.
      ap lines (append_assoc bytes more xs)
      ∙ (h.whole (more ++ xs) ∙ ap (λ ys. done ++ lines ys) (sym (append_assoc left more xs)));
}

-- more bytes are cut after those that were left
pub Cuts-then : (bytes left more rest : List ℕ) (done new : List (List ℕ)) → Cuts bytes done left →
    Cuts (left ++ more) new rest → Cuts (bytes ++ more) (done ++ new) rest
Cuts-then bytes left more rest done new h k = record {
  whole = λ xs.
      (Cuts-more bytes left more done h).whole xs
      ∙ (ap (λ ls. done ++ ls) (k.whole xs) ∙ sym (append_assoc done new (lines (rest ++ xs))));
}

not_true : (t : Bool) → (t ≡ true → ⊥) → t ≡ false
not_true true h = absurd (h refl)
not_true false h = refl

-- if no byte before place k is a line feed, the first k bytes have none
pub HasNoFeed-take : (bytes : List ℕ) (k : ℕ) →
    ((i : ℕ) → i < k → (slice_index bytes i == 10) ≡ true → ⊥) → HasNoFeed (take k bytes)
HasNoFeed-take [] zero h = tt
HasNoFeed-take [] (suc k) h = tt
HasNoFeed-take (b ∷ bytes) zero h = tt
HasNoFeed-take (b ∷ bytes) (suc k) h = (
  not_true (b == 10) (h 0 (omega arith)),
  HasNoFeed-take bytes k (λ i lt e. h (suc i) (omega arith) e),
)

-- a line and its line feed are seen after what was seen
pub seen_line : (piece : List ℕ) (from place : ℕ) → from + place < length piece →
    (slice_index (drop from piece) place == 10) ≡ true →
    take (from + place + 1) piece ≡ take from piece ++ (take place (drop from piece) ++ 10 ∷ [])
seen_line piece from place h e =
    let inside : place < length (drop from piece) = omega (arith, length-drop from piece) in
    ap (λ k. take k piece) (omega arith)
    ∙ (take-add from (place + 1) piece
    ∙ ap (λ l. take from piece ++ l) (take_more (drop from piece) place 0 inside
    ∙ ap (λ b. take place (drop from piece) ++ b ∷ [])
    (eqb-true (slice_index (drop from piece) place) 10 e)))

-- the bytes after the last line feed are the last line, if there are any
pub lines-rest : (part : List ℕ) → HasNoFeed part → 0 < length part → lines part ≡ (part ++ []) ∷ []
lines-rest [] h more = absurd (omega arith)
lines-rest (b ∷ p) h more = lines-last b p h ∙ ap (λ l. l ∷ []) (sym (append-nil (b ∷ p)))

-- if nothing was kept of a line, its end is the line
pub whole_end : (part end : List ℕ) → part ≡ [] → length end ≤ 65536 →
    (end ≡ part ++ end) × (length (part ++ end) ≤ 65536)
whole_end part end none few =
    let same : end ≡ part ++ end = sym (ap (λ l. l ++ end) none) in
    (same, subst (λ (l : List ℕ). length l ≤ 65536) same few)
