-- Which replies are written whole, and the state of the object, if a write failed.
use Rattle.std.proofs.Common.{◌≡◌, ◌≤◌, ◌<◌, ◌+◌, ◌⊎◌, ℕ, zero, suc, Bool, true, false, cond, List}
use Rattle.std.proofs.Common.{[], ◌∷◌, ◌++◌, Option, length, take, fold, refl, sym, ap, subst, ◌∙◌}
use Rattle.std.proofs.Common.{length-append, arith, ⊎_elim, inl, inr, add-one}
use Rattle.std.specs.Prelude.{nat_le}
use Rattle.std.specs.List.{count_by}
use Rattle.std.proofs.Math.Seq.{take-append-add}
use Rattle.std.proofs.lemmas.Bool.Decides.{leb_tells}
use Rattle.std.proofs.lemmas.Bool.{cases_lt}
use Rattle.std.proofs.lemmas.List.Sums.{fold-append, sum_by-cons}
use Rattle.std.proofs.lemmas.List.{take-append-le}
use Rattle.std.specs.Io.KnownBytes.{Appends}
use Rattle.osn_lines.proofs.ByteLemmas.{Appends-then}
use Rattle.osn_service.specs.declared.reply_buffer.ReplyBuffer.{ReplyBuffer}
use Rattle.osn_service.specs.Replies.{replies}
use Rattle.osn_service.specs.ServiceInside.{ends_from, ChangesNothing, ChangesFirst, Waits}
use Rattle.osn_service.specs.ServiceInside.{WritesSome, InPart}
use Rattle.osn_service.proofs.WaitLemmas.{replies-append, length-ends, unchanged, Waits-all}
use Rattle.osn_service.proofs.WaitLemmas.{Waits-at}

-- how many of the replies end within this many bytes
abbrev pub whole_in : List ℕ → ℕ → ℕ
whole_in ends bytes = count_by (λ end. nat_le end bytes) ends

-- how many replies end within the bytes, with one more, which does or does not
whole_cons : (end : ℕ) (ends : List ℕ) (bytes : ℕ) (t : Bool) → nat_le end bytes ≡ t →
    whole_in (end ∷ ends) bytes ≡ cond t 1 0 + whole_in ends bytes
whole_cons end ends bytes t h =
    sum_by-cons (λ e. cond (nat_le e bytes) 1 0) end ends
    ∙ ap (λ b. cond b 1 0 + whole_in ends bytes) h

-- with one more reply that ends within the bytes, one more does
whole_yes : (end : ℕ) (ends : List ℕ) (bytes : ℕ) → nat_le end bytes ≡ true →
    whole_in (end ∷ ends) bytes ≡ whole_in ends bytes + 1
whole_yes end ends bytes h = omega (arith, whole_cons end ends bytes true h)

-- with one more reply that does not end within the bytes, no more do
whole_no : (end : ℕ) (ends : List ℕ) (bytes : ℕ) → nat_le end bytes ≡ false →
    whole_in (end ∷ ends) bytes ≡ whole_in ends bytes
whole_no end ends bytes h = omega (arith, whole_cons end ends bytes false h)

-- what ends after the bytes does not end within them
is_past : (end bytes : ℕ) → bytes < end → nat_le end bytes ≡ false
is_past end bytes lt = ⊎_elim (λ k. absurd (omega (arith, k.1))) (λ k. k.0) (leb_tells end bytes)

-- no reply that begins after the bytes ends within them
none_past : {S : Type 0} (text : S → List ℕ → List ℕ) (after : S → List ℕ → S) (from : ℕ) (s : S)
    (xs : List (List ℕ)) (bytes : ℕ) → bytes < from →
    whole_in (ends_from text after from s xs) bytes ≡ 0
none_past text after from s [] bytes lt = refl
none_past text after from s (x ∷ xs) bytes lt =
    let to = from + length (text s x) in
    let past : bytes < to = omega arith in
    whole_no to (ends_from text after to (after s x) xs) bytes (is_past to bytes past)
    ∙ none_past text after to (after s x) xs bytes past

-- the first j of the replies end within the bytes, and the next doesn't
record Whole {S : Type 0} (text : S → List ℕ → List ℕ) (after : S → List ℕ → S) (from : ℕ) (s : S)
    (xs : List (List ℕ)) (bytes j : ℕ) : Type 0 where
  some : j ≤ length xs
  whole : from + length (replies text after s (take j xs)) ≤ bytes
  no_more : j < length xs → bytes < from + length (replies text after s (take (suc j) xs))

-- with one more reply before them that ends within the bytes, one more of the replies ends within
-- them
Whole-more : {S : Type 0} (text : S → List ℕ → List ℕ) (after : S → List ℕ → S) (from to : ℕ)
    (s : S) (x : List ℕ) (xs : List (List ℕ)) (bytes i : ℕ) → to ≡ from + length (text s x) →
    Whole text after to (after s x) xs bytes i → Whole text after from s (x ∷ xs) bytes (suc i)
Whole-more text after from to s x xs bytes i is_to h = record {
  some = omega (arith, h.some);
  whole =
      omega (arith, h.whole, length-append (text s x) (replies text after (after s x) (take i xs)));
  no_more =
      λ lt. omega (
        arith,
        h.no_more (omega arith),
        length-append (text s x)
            (replies text after (after s x) (take (suc i) xs)),
      );
}

-- none of the replies ends within the bytes if the first does not
Whole-none : {S : Type 0} (text : S → List ℕ → List ℕ) (after : S → List ℕ → S) (from : ℕ) (s : S)
    (x : List ℕ) (xs : List (List ℕ)) (bytes : ℕ) → from ≤ bytes →
    bytes < from + length (text s x) → Whole text after from s (x ∷ xs) bytes 0
Whole-none text after from s x xs bytes le lt = record {
  some = omega arith;
  whole = omega arith;
  no_more = λ _. omega (arith, length-append (text s x) []);
}

-- the replies that end within the bytes are as many as are counted
Whole-counted : {S : Type 0} (text : S → List ℕ → List ℕ) (after : S → List ℕ → S) (from : ℕ)
    (s : S) (xs : List (List ℕ)) (bytes : ℕ) → from ≤ bytes →
    Whole text after from s xs bytes (whole_in (ends_from text after from s xs) bytes)
Whole-counted text after from s [] bytes le =
    record { some = omega arith; whole = omega arith; no_more = λ lt. absurd (omega arith) }
Whole-counted text after from s (x ∷ xs) bytes le =
    let to = from + length (text s x) in
    let ends = ends_from text after to (after s x) xs in
    ⊎_elim
    (λ k. subst (Whole text after from s (x ∷ xs) bytes)
    (sym (whole_yes to ends bytes k.0 ∙ add-one (whole_in ends bytes)))
    (Whole-more text after from to s x xs bytes (whole_in ends bytes) refl
    (Whole-counted text after to (after s x) xs bytes k.1)))
    (λ k. subst (Whole text after from s (x ∷ xs) bytes)
    (sym (whole_no to ends bytes k.0 ∙ none_past text after to (after s x) xs bytes k.1))
    (Whole-none text after from s x xs bytes le k.1))
    (leb_tells to bytes)

-- if no line of some changes anything, none of the first of them does
ChangesNothing-take : {S : Type 0} (after : S → List ℕ → S) (s : S) (xs : List (List ℕ)) (i : ℕ) →
    ChangesNothing after s xs → ChangesNothing after s (take i xs)
ChangesNothing-take after s [] zero h = tt
ChangesNothing-take after s [] (suc i) h = tt
ChangesNothing-take after s (x ∷ xs) zero h = tt
ChangesNothing-take after s (x ∷ xs) (suc i) h = (h.0, ChangesNothing-take after s xs i h.1)

-- the state after all lines is the one after the first j or the first j + 1
reached_at : {S : Type 0} (after : S → List ℕ → S) (s : S) (xs : List (List ℕ)) (j : ℕ) →
    ChangesFirst after s xs → (fold after s xs ≡ fold after s (take j xs))
    ⊎ ((j < length xs) × (fold after s xs ≡ fold after s (take (suc j) xs)))
reached_at after s [] zero h = inl refl
reached_at after s [] (suc j) h = inl refl
reached_at after s (x ∷ xs) zero h = inr (omega arith, unchanged after (after s x) xs h)
reached_at after s (x ∷ xs) (suc j) h =
    inl (unchanged after (after s x) xs h
    ∙ sym (unchanged after (after s x) (take j xs)
    (ChangesNothing-take after (after s x) xs j h)))

-- some of the lines were answered whole, and this many not
pub record PartOf {S : Type 0} (text : S → List ℕ → List ℕ) (after : S → List ℕ → S)
    (initial now : S)
    (lines : List (List ℕ)) (old new : Option (List ℕ)) (unwritten : ℕ) : Type 0 where
  pub n : ℕ
  pub count : n + unwritten ≡ length lines
  pub part : InPart text after initial now lines old new n

-- some of what waited was written
pub PartOf-from : {S : Type 0} (text : S → List ℕ → List ℕ) (after : S → List ℕ → S)
    (initial now : S)
    (lines : List (List ℕ)) (a b c : Option (List ℕ)) (w : ReplyBuffer) (unwritten : ℕ) →
    Waits text after initial now lines a b w → WritesSome b c w unwritten →
    PartOf text after initial now lines a c unwritten
PartOf-from {S} text after initial now lines a b c w unwritten h k =
    let s = fold after initial h.done in
    let first = replies text after initial h.done in
    let j = whole_in (ends_from text after 0 s h.rest) k.bytes in
    let n = length h.done + j in
    let W : Whole text after 0 s h.rest k.bytes j =
    Whole-counted text after 0 s h.rest k.bytes (omega arith) in
    let counted : whole_in w.ends.items k.bytes ≡ j = ap (λ l. whole_in l k.bytes) h.places in
    let size : length lines ≡ length h.done + length h.rest =
    ap length h.split ∙ length-append h.done h.rest in
    let places : length w.ends.items ≡ length h.rest =
    ap length h.places ∙ length-ends text after 0 s h.rest in
    let all : replies text after initial lines ≡ first ++ w.text.items =
    sym (Waits-all text after initial now lines a b w h) in
    let front : (i : ℕ) → take (length h.done + i) lines ≡ h.done ++ take i h.rest =
    λ i. ap (take (length h.done + i)) h.split ∙ take-append-add h.done h.rest i in
    let said : (i : ℕ) → length (replies text after initial (take (length h.done + i) lines))
    ≡ length
    first + length (replies text after s (take i h.rest)) =
    λ i. ap (λ l. length (replies text after initial l)) (front i)
    ∙ (ap length (replies-append text after initial h.done (take i h.rest))
    ∙ length-append first (replies text after s (take i h.rest))) in
    let stands : (i : ℕ) → fold after s (take i h.rest) ≡ fold after initial
    (take (length h.done + i) lines) =
    λ i. sym (ap (fold after initial) (front i) ∙ fold-append after initial h.done (take i h.rest))
    in
    let next : length h.done + suc j ≡ n + 1 = omega arith in
    record {
      n = n;
      count = omega (arith, k.count, counted, places, size);
      part = record {
        bytes = length first + k.bytes;
        enough = omega (arith, W.some, size);
        within = omega (arith, k.within, ap length all, length-append first w.text.items);
        written =
            subst (Appends a c) (sym (ap (take (length first + k.bytes)) all
            ∙ take-append-add first w.text.items k.bytes))
            (Appends-then a b c first (take k.bytes w.text.items) h.written k.some);
        whole = omega (arith, said j, W.whole);
        no_more = λ lt.
            subst (λ (i : ℕ). length first + k.bytes < length
            (replies text after initial (take i lines))) next
            (omega (arith, said (suc j), W.no_more (omega (arith, size))));
        reached =
            ⊎_elim
            (λ e. inl (Waits-at text after initial now lines a b w h ∙ (e ∙ stands j)))
            (λ e. inr (
              omega (arith, e.0, size),
              subst (λ (i : ℕ). now ≡ fold after initial (take i lines)) next
                  (Waits-at text after initial now lines a b w h ∙ (e.1 ∙ stands (suc j))),
            ))
            (reached_at after s h.rest j h.changes);
      };
    }

-- the reply to the next line ends after those before it
next_is_past : {S : Type 0} (text : S → List ℕ → List ℕ) (after : S → List ℕ → S) →
    ((s : S) (line : List ℕ) → 0 < length (text s line)) →
    (initial : S) (lines more : List (List ℕ)) (bytes n : ℕ) → n ≡ length lines →
    bytes ≤ length (replies text after initial lines) → n < length (lines ++ more) →
    bytes < length (replies text after initial (take (n + 1) (lines ++ more)))
next_is_past text after some initial lines [] bytes n e le lt =
    absurd (omega (arith, length-append lines []))
next_is_past text after some initial lines (x ∷ xs) bytes n e le lt =
    let s = fold after initial lines in
    let count : n + 1 ≡ length lines + 1 = omega arith in
    let front : take (n + 1) (lines ++ x ∷ xs) ≡ lines ++ take 1 (x ∷ xs) =
    ap (λ i. take i (lines ++ x ∷ xs)) count ∙ take-append-add lines (x ∷ xs) 1 in
    let size : length (replies text after initial (take (n + 1) (lines ++ x ∷ xs))) ≡ length
    (replies text after initial lines) + length (text s x ++ []) =
    ap (λ l. length (replies text after initial l)) front
    ∙ (ap length (replies-append text after initial lines (x ∷ []))
    ∙ length-append (replies text after initial lines) (text s x ++ [])) in
    omega (arith, size, some s x, length-append (text s x) [])

-- more lines, which were not answered
pub InPart-more : {S : Type 0} (text : S → List ℕ → List ℕ) (after : S → List ℕ → S) →
    ((s : S) (line : List ℕ) → 0 < length (text s line)) →
    (initial now : S) (lines more : List (List ℕ)) (a b : Option (List ℕ)) (n : ℕ) →
    InPart text after initial now lines a b n → InPart text after initial now (lines ++ more) a b n
InPart-more text after some initial now lines more a b n h =
    let said = replies-append text after initial lines more in
    let front : (i : ℕ) → i ≤ length lines → take i (lines ++ more) ≡ take i lines =
    λ i le. take-append-le i lines more le in
    let fronts : (i : ℕ) → i ≤ length lines →
    length (replies text after initial (take i (lines ++ more))) ≡ length
    (replies text after initial (take i lines)) =
    λ i le. ap (λ l. length (replies text after initial l)) (front i le) in
    record {
      bytes = h.bytes;
      enough = omega (arith, h.enough, length-append lines more);
      within =
          omega (
            arith,
            h.within,
            ap length said,
            length-append (replies text after initial lines)
                (replies text after (fold after initial lines) more),
          );
      written =
          subst (Appends a b)
          (sym (ap (take h.bytes) said
          ∙ take-append-le h.bytes (replies text after initial lines)
          (replies text after (fold after initial lines) more) h.within))
          h.written;
      whole = omega (arith, h.whole, fronts n h.enough);
      no_more = λ lt.
          ⊎_elim
          (λ less. omega (arith, h.no_more less, fronts (n + 1) (omega (arith, less))))
          (λ all. next_is_past text after some initial lines more h.bytes n
          (omega (arith, all, h.enough)) h.within lt)
          (cases_lt n (length lines));
      reached =
          ⊎_elim
          (λ e. inl (e ∙ ap (fold after initial) (sym (front n h.enough))))
          (λ e. inr (
            omega (arith, e.0, length-append lines more),
            e.1
                ∙ ap (fold after initial) (sym (front (n + 1) (omega (arith, e.0)))),
          ))
          h.reached;
    }
