-- How replies wait, and are written.
use Rattle.std.proofs.Common.{◌≡◌, ◌+◌, ℕ, List, [], ◌∷◌, ◌++◌, Option, length, fold, refl, sym, ap}
use Rattle.std.proofs.Common.{subst, ◌∙◌, append_assoc, append-nil, length-append, arith, ⊎_elim}
use Rattle.std.proofs.lemmas.List.Sums.{fold-append}
use Rattle.std.specs.Io.KnownBytes.{Appends}
use Rattle.osn_lines.proofs.ByteLemmas.{Appends-nothing, Appends-then}
use Rattle.osn_service.specs.declared.reply_buffer.ReplyBuffer.{ReplyBuffer}
use Rattle.osn_service.specs.Replies.{replies}
use Rattle.osn_service.specs.ServiceInside.{ends_from, ChangesNothing, ChangesFirst, Waits, Writes}
use Rattle.osn_service.specs.ServiceInside.{Adds, Settles}

-- the replies to two lists of lines
pub replies-append : {S : Type 0} (text : S → List ℕ → List ℕ) (after : S → List ℕ → S) (s : S)
    (xs ys : List (List ℕ)) → replies text after s (xs ++ ys) ≡ replies text after s xs ++ replies
    text after (fold after s xs) ys
replies-append text after s [] ys = refl
replies-append text after s (x ∷ xs) ys =
    ap (λ r. text s x ++ r) (replies-append text after (after s x) xs ys)
    ∙ sym (append_assoc (text s x) (replies text after (after s x) xs)
    (replies text after (fold after (after s x) xs) ys))

-- the ends of the replies, if there is one more line
ends-append : {S : Type 0} (text : S → List ℕ → List ℕ) (after : S → List ℕ → S) (from : ℕ) (s : S)
    (xs : List (List ℕ)) (line : List ℕ) →
    ends_from text after from s (xs ++ line ∷ []) ≡ ends_from text after from s xs ++
    (from + length (replies text after s (xs ++ line ∷ []))) ∷ []
ends-append text after from s [] line =
    ap (λ n. (from + n) ∷ []) (sym (ap length (append-nil (text s line))))
ends-append text after from s (x ∷ xs) line =
    let to = from + length (text s x) in
    ap (λ l. to ∷ l)
    (ends-append text after to (after s x) xs line
    ∙ ap (λ n. ends_from text after to (after s x) xs ++ n ∷ [])
    (omega (arith, length-append (text s x) (replies text after (after s x) (xs ++ line ∷ [])))))

-- each line has an end
pub length-ends : {S : Type 0} (text : S → List ℕ → List ℕ) (after : S → List ℕ → S) (from : ℕ)
    (s : S) (xs : List (List ℕ)) → length (ends_from text after from s xs) ≡ length xs
length-ends text after from s [] = refl
length-ends text after from s (x ∷ xs) =
    omega (arith, length-ends text after (from + length (text s x)) (after s x) xs)

-- lines that change nothing, with one more that changes nothing
ChangesNothing-append : {S : Type 0} (after : S → List ℕ → S) (s : S) (xs : List (List ℕ))
    (line : List ℕ) → ChangesNothing after s xs → after s line ≡ s →
    ChangesNothing after s (xs ++ line ∷ [])
ChangesNothing-append after s [] line h e = (e, tt)
ChangesNothing-append after s (x ∷ xs) line h e = (h.0, ChangesNothing-append after s xs line h.1 e)

-- lines that change nothing leave the state as it was
pub unchanged : {S : Type 0} (after : S → List ℕ → S) (s : S) (xs : List (List ℕ)) →
    ChangesNothing after s xs → fold after s xs ≡ s
unchanged after s [] h = refl
unchanged after s (x ∷ xs) h = ap (λ v. fold after v xs) h.0 ∙ unchanged after s xs h.1

-- lines of which only the first changes anything, with one more that changes nothing
ChangesFirst-append : {S : Type 0} (after : S → List ℕ → S) (s : S) (xs : List (List ℕ))
    (line : List ℕ) → ChangesFirst after s xs → after (fold after s xs) line ≡ fold after s xs →
    ChangesFirst after s (xs ++ line ∷ [])
ChangesFirst-append after s [] line h e = tt
ChangesFirst-append after s (x ∷ xs) line h e =
    let k = unchanged after (after s x) xs h in
    ChangesNothing-append after (after s x) xs line h (ap (λ v. after v line) (sym k) ∙ (e ∙ k))

-- nothing is answered yet
pub Waits-nothing : {S : Type 0} (text : S → List ℕ → List ℕ) (after : S → List ℕ → S) (s : S)
    (a : Option (List ℕ)) (w : ReplyBuffer) → w.text.items ≡ [] → w.ends.items ≡ [] →
    Waits text after s s [] a a w
Waits-nothing text after s a w none no_ends = record {
  done = [];
  rest = [];
  split = refl;
  written = Appends-nothing a;
  texts = none;
  places = no_ends;
  reached = refl;
  changes = tt;
}

-- the bytes that were written and those that wait are the replies to all lines
pub Waits-all : {S : Type 0} (text : S → List ℕ → List ℕ) (after : S → List ℕ → S) (initial now : S)
    (lines : List (List ℕ)) (a b : Option (List ℕ)) (w : ReplyBuffer)
    (h : Waits text after initial now lines a b w) →
    replies text after initial h.done ++ w.text.items ≡ replies text after initial lines
Waits-all text after initial now lines a b w h =
    ap (λ l. replies text after initial h.done ++ l) h.texts
    ∙ (sym (replies-append text after initial h.done h.rest)
    ∙ ap (replies text after initial) (sym h.split))

-- the state after the lines that were written and those whose replies wait
pub Waits-at : {S : Type 0} (text : S → List ℕ → List ℕ) (after : S → List ℕ → S) (initial now : S)
    (lines : List (List ℕ)) (a b : Option (List ℕ)) (w : ReplyBuffer)
    (h : Waits text after initial now lines a b w) → now
    ≡ fold after (fold after initial h.done) h.rest
Waits-at text after initial now lines a b w h =
    h.reached ∙ (ap (fold after initial) h.split ∙ fold-append after initial h.done h.rest)

-- all that waits is written
pub Waits-written : {S : Type 0} (text : S → List ℕ → List ℕ) (after : S → List ℕ → S)
    (initial now : S) (lines : List (List ℕ)) (a b c : Option (List ℕ)) (w : ReplyBuffer) →
    Waits text after initial now lines a b w → Appends b c w.text.items →
    Appends a c (replies text after initial lines)
Waits-written text after initial now lines a b c w h k =
    subst (Appends a c) (Waits-all text after initial now lines a b w h)
    (Appends-then a b c (replies text after initial h.done) w.text.items h.written k)

-- all that waits is written, and nothing waits then
pub Waits-write : {S : Type 0} (text : S → List ℕ → List ℕ) (after : S → List ℕ → S)
    (initial now : S)
    (lines : List (List ℕ)) (a b c : Option (List ℕ)) (w w' : ReplyBuffer) →
    Waits text after initial now lines a b w → Writes b c w w' →
    Waits text after initial now lines a c w'
Waits-write text after initial now lines a b c w w' h k = record {
  done = lines;
  rest = [];
  split = sym (append-nil lines);
  written = Waits-written text after initial now lines a b c w h k.all;
  texts = k.text;
  places = k.ends;
  reached = h.reached;
  changes = tt;
}

-- nothing was written, or all that waited
pub Waits-settle : {S : Type 0} (text : S → List ℕ → List ℕ) (after : S → List ℕ → S)
    (initial now u : S) (lines : List (List ℕ)) (a b c : Option (List ℕ)) (w w' : ReplyBuffer) →
    Waits text after initial now lines a b w → Settles b c w w' → u ≡ now →
    Waits text after initial u lines a c w'
Waits-settle {S} text after initial now u lines a b c w w' h settled same =
    subst (λ (v : S). Waits text after initial v lines a c w') (sym same)
    (⊎_elim
    (λ k. record {
      done = h.done;
      rest = h.rest;
      split = h.split;
      written =
          subst (λ (o : Option (List ℕ)). Appends a o (replies text after initial h.done)) (sym k.0)
          h.written;
      texts = k.1 ∙ h.texts;
      places = k.2 ∙ h.places;
      reached = h.reached;
      changes = h.changes;
    })
    (λ k. Waits-write text after initial now lines a b c w w' h k)
    settled)

-- another line
pub after_one : {S : Type 0} (after : S → List ℕ → S) (initial s u : S) (lines : List (List ℕ))
    (line : List ℕ) → s ≡ fold after initial lines → u ≡ after s line →
    u ≡ fold after initial (lines ++ line ∷ [])
after_one after initial s u lines line h e =
    e ∙ (ap (λ v. after v line) h ∙ sym (fold-append after initial lines (line ∷ [])))

-- another reply, which changes nothing
Waits-behind : {S : Type 0} (text : S → List ℕ → List ℕ) (after : S → List ℕ → S) (initial s u : S)
    (lines : List (List ℕ)) (line : List ℕ) (a b c : Option (List ℕ)) (w w' : ReplyBuffer) →
    Waits text after initial s lines a b w → u ≡ s → c ≡ b →
    w'.text.items ≡ w.text.items ++ text s line →
    w'.ends.items ≡ w.ends.items ++ length w'.text.items ∷ [] → u ≡ after s line →
    Waits text after initial u (lines ++ line ∷ []) a c w'
Waits-behind text after initial s u lines line a b c w w' h same kept pushed ended e =
    let v = fold after initial h.done in
    let at = Waits-at text after initial s lines a b w h in
    let all : w'.text.items ≡ replies text after v (h.rest ++ line ∷ []) =
    pushed
    ∙ (ap (λ l. l ++ text s line) h.texts
    ∙ (ap (λ l. replies text after v h.rest ++ l)
    (ap (λ t. text t line) at ∙ sym (append-nil (text (fold after v h.rest) line)))
    ∙ sym (replies-append text after v h.rest (line ∷ [])))) in
    record {
      done = h.done;
      rest = h.rest ++ line ∷ [];
      split = ap (λ l. l ++ line ∷ []) h.split ∙ append_assoc h.done h.rest (line ∷ []);
      written =
          subst (λ (o : Option (List ℕ)). Appends a o (replies text after initial h.done))
          (sym kept)
          h.written;
      texts = all;
      places =
          ended
          ∙ (ap (λ l. l ++ length w'.text.items ∷ []) h.places
          ∙ (ap (λ n. ends_from text after 0 v h.rest ++ n ∷ []) (omega (arith, ap length all))
          ∙ sym (ends-append text after 0 v h.rest line)));
      reached = after_one after initial s u lines line h.reached e;
      changes =
          ChangesFirst-append after v h.rest line h.changes
          (ap (λ t. after t line) (sym at) ∙ (sym e ∙ (same ∙ at)));
    }

-- what waited was written before another reply
Waits-first : {S : Type 0} (text : S → List ℕ → List ℕ) (after : S → List ℕ → S) (initial s u : S)
    (lines : List (List ℕ)) (line : List ℕ) (a b c : Option (List ℕ)) (w w' : ReplyBuffer) →
    Waits text after initial s lines a b w → Appends b c w.text.items → w'.text.items
    ≡ text s line →
    w'.ends.items ≡ length (text s line) ∷ [] → u ≡ after s line →
    Waits text after initial u (lines ++ line ∷ []) a c w'
Waits-first text after initial s u lines line a b c w w' h k texts ends e =
    let v = fold after initial lines in
    let at : text s line ≡ text v line = ap (λ t. text t line) h.reached in
    record {
      done = lines;
      rest = line ∷ [];
      split = refl;
      written = Waits-written text after initial s lines a b c w h k;
      texts = texts ∙ (at ∙ sym (append-nil (text v line)));
      places = ends ∙ ap (λ n. n ∷ []) (omega (arith, ap length at));
      reached = after_one after initial s u lines line h.reached e;
      changes = tt;
    }

-- another reply
pub Waits-add : {S : Type 0} (text : S → List ℕ → List ℕ) (after : S → List ℕ → S) (initial s u : S)
    (reply : List ℕ) (lines : List (List ℕ)) (line : List ℕ) (a b c : Option (List ℕ))
    (w w' : ReplyBuffer) → Waits text after initial s lines a b w → Adds s u reply b c w w' →
    reply ≡ text s line → u ≡ after s line → Waits text after initial u (lines ++ line ∷ []) a c w'
Waits-add text after initial s u reply lines line a b c w w' h adds is_reply e =
    ⊎_elim
    (λ k. Waits-behind text after initial s u lines line a b c w w' h k.0 k.1
    (k.2.text ∙ ap (λ l. w.text.items ++ l) is_reply) k.2.ends e)
    (λ k. Waits-first text after initial s u lines line a b c w w' h k.0 (k.1 ∙ is_reply)
    (k.2 ∙ ap (λ l. length l ∷ []) is_reply) e)
    adds
