-- What follows for the whole input, if it is known, and for each way to end early.
use Rattle.std.proofs.Common.{◌≡◌, ◌≤◌, ℕ, ◌+◌, List, [], ◌∷◌, ◌++◌, Option, None, Some, Result}
use Rattle.std.proofs.Common.{Err, IfSome, IfErr, length, take}
use Rattle.std.proofs.Common.{refl, sym, ap, subst, ◌∙◌, append-nil}
use Rattle.std.proofs.Common.{append_assoc, length-append, arith}
use Rattle.std.specs.Prelude.{slice_get}
use Rattle.std.specs.Io.KnownBytes.{Consumes, IsAtEnd}
use Rattle.std.proofs.lemmas.List.{take_at}
use Rattle.osn_lines.specs.declared.fault.TakeFault.{TakeFault}
use Rattle.osn_lines.specs.declared.fault.TakeFault.TheVariants.{NoMemory, ReadFault, Stopped}
use Rattle.osn_lines.specs.declared.unended_line.UnendedLine.{UnendedLine}
use Rattle.osn_lines.specs.Faults.{MatchFault}
use Rattle.osn_lines.specs.Inside.{IsUnended, IsTaken, IsStopped}
use Rattle.osn_lines.specs.Lines.{lines}
use Rattle.osn_lines.specs.Takers.{Takes, Stops, TakesAll, TakesFirst, StopsAfter, HasRead}
use Rattle.osn_lines.specs.Takers.{TakesEnded, HasKeptUp}
use Rattle.osn_lines.proofs.LineLemmas.{lines-feed}
use Rattle.osn_lines.proofs.TakeLemmas.{Takes-then}

-- the input begins with the bytes that were read
pub known : (P : List ℕ → Type 0) (a b : Option (List ℕ)) (read : List ℕ) → Consumes a b read →
    ((more : List ℕ) → P (read ++ more)) → IfSome a P
known P None b read h f = tt
known P (Some xs) None read h f = absurd h
known P (Some xs) (Some ys) read h f = subst P (sym h) (f ys)

-- at the end the input is the bytes that were read
pub known_whole : (P : List ℕ → Type 0) (a b : Option (List ℕ)) (read : List ℕ) →
    Consumes a b read → IsAtEnd b → P read → IfSome a P
known_whole P None b read h e p = tt
known_whole P (Some xs) None read h e p = absurd h
known_whole P (Some xs) (Some ys) read h e p =
    subst P (sym (h ∙ (ap (λ l. read ++ l) e ∙ append-nil read))) p

pub MatchFault-weaker : {S : Type 0} (fault : TakeFault S) (P Q P' Q' : Type 0)
    (R R' : S → Type 0) → (P → P') → (Q → Q') → ((why : S) → R why → R' why) →
    MatchFault fault P Q R → MatchFault fault P' Q' R'
MatchFault-weaker NoMemory P Q P' Q' R R' p q r h = p h
MatchFault-weaker ReadFault P Q P' Q' R R' p q r h = q h
MatchFault-weaker (Stopped why) P Q P' Q' R R' p q r h = r why h

pub if_err_at : {T E : Type 0} (P : E → Type 0) (r : Result T E) (x y : E) → r ≡ Err x → x ≡ y →
    P y → IfErr r P
if_err_at {T} {E} P r x y e f p = subst (λ (o : Result T E). IfErr o P) (sym (e ∙ ap Err f)) p

slice_get_seam : (xs : List (List ℕ)) (y : List ℕ) (ys : List (List ℕ)) →
    slice_get (xs ++ y ∷ ys) (length xs) ≡ Some y
slice_get_seam [] y ys = refl
slice_get_seam (x ∷ xs) y ys = slice_get_seam xs y ys

slice_get_at : (all xs : List (List ℕ)) (y : List ℕ) (ys : List (List ℕ)) (n : ℕ) → n ≡ length xs →
    all ≡ xs ++ y ∷ ys → slice_get all n ≡ Some y
slice_get_at all xs y ys n count same =
    ap (λ i. slice_get all i) count
    ∙ (ap (λ (l : List (List ℕ)). slice_get l (length xs)) same ∙ slice_get_seam xs y ys)

take_front : (all xs ys : List (List ℕ)) (n : ℕ) → n ≡ length xs → all ≡ xs ++ ys → take n all ≡ xs
take_front all xs ys n count same =
    ap (λ (l : List (List ℕ)). take n l) same ∙ take_at xs ys n (sym count)

from_none : (n m : ℕ) → n ≡ 0 + m → n ≡ m
from_none n m h = omega arith

-- the first lines of all that comes were taken
pub TakesFirst-from : {S : Type 0} (after : S → List (List ℕ) → S → Type 0) (s t : S)
    (a b : Option (List ℕ)) (bytes : List ℕ) (n : ℕ) (Left : List ℕ → Type 0) →
    IsTaken after s t bytes 0 n Left → Consumes a b bytes → TakesFirst after s t a n
TakesFirst-from after s t a b bytes n Left h consumed = record {
  lines_taken = h.lines_taken;
  takes = h.takes;
  count = from_none n _ h.count;
  first =
      known (λ input. take n (lines input) ≡ h.lines_taken) a b bytes consumed
      (λ more. take_front _ h.lines_taken _ n (from_none n _ h.count) (h.cuts.whole more));
}

-- this many lines have ended of the bytes that were read
ended_of : {S : Type 0} (after : S → List (List ℕ) → S → Type 0) (s t : S) (bytes : List ℕ)
    (partial_line : UnendedLine) (n : ℕ) → IsTaken after s t bytes 0 n (IsUnended partial_line) →
    length (lines (bytes ++ 10 ∷ [])) ≡ n + 1
ended_of after s t bytes partial_line n h =
    omega (
      arith,
      h.count,
      ap length
          (h.cuts.whole (10 ∷ []) ∙ ap (λ l. h.lines_taken ++ l) (lines-feed h.left [] h.rest.1)),
      length-append h.lines_taken (h.left ∷ []),
    )

pub HasRead-from : {S : Type 0} (after : S → List (List ℕ) → S → Type 0) (s t : S)
    (a b : Option (List ℕ)) (bytes : List ℕ) (partial_line : UnendedLine) (n : ℕ) →
    IsTaken after s t bytes 0 n (IsUnended partial_line) → Consumes a b bytes → HasRead a b n
HasRead-from after s t a b bytes partial_line n h consumed = record {
  read = bytes;
  consumed = consumed;
  ended = ended_of after s t bytes partial_line n h;
}

-- each of them was taken
pub HasKeptUp-all : (a b : Option (List ℕ)) (n : ℕ) → HasRead a b n → HasKeptUp a b n
HasKeptUp-all a b n h = record {
  earlier = h.read;
  last = [];
  consumed = subst (Consumes a b) (sym (append-nil h.read)) h.consumed;
  few = omega arith;
  ended = omega (arith, h.ended);
}

-- if the last line was to be taken
pub HasKeptUp-at_end : (a b : Option (List ℕ)) (m n : ℕ) → HasRead a b m → n ≡ m → HasKeptUp a b n
HasKeptUp-at_end a b m n h same =
    HasKeptUp-all a b n (subst (λ (i : ℕ). HasRead a b i) (sym same) h)

-- after one more read, of which lines may be left
pub HasKeptUp-more : {S : Type 0} (after : S → List (List ℕ) → S → Type 0) (s t : S)
    (a b : Option (List ℕ)) (bytes more : List ℕ) (partial_line : UnendedLine) (m n : ℕ) →
    IsTaken after s t bytes 0 m (IsUnended partial_line) → Consumes a b (bytes ++ more) →
    length more ≤ 65536 → m ≤ n → HasKeptUp a b n
HasKeptUp-more after s t a b bytes more partial_line m n h consumed few le = record {
  earlier = bytes;
  last = more;
  consumed = consumed;
  few = few;
  ended = omega (arith, ended_of after s t bytes partial_line m h, le);
}

-- a cause for which lines that were read may be left
pub counts_on : {W : Type 0} (fault : TakeFault W) (n m : ℕ)
    → MatchFault fault (n ≤ m) ⊥ (λ why. n ≤ m) → n ≤ m
counts_on NoMemory n m h = h
counts_on ReadFault n m h = absurd h
counts_on (Stopped why) n m h = h

-- if no more is read than was taken and kept
pub TakesEnded-from : {S : Type 0} (after : S → List (List ℕ) → S → Type 0) (s t : S)
    (a b : Option (List ℕ)) (bytes : List ℕ) (partial_line : UnendedLine) (n : ℕ) →
    IsTaken after s t bytes 0 n (IsUnended partial_line) → Consumes a b bytes →
    TakesEnded after s t a b n
TakesEnded-from after s t a b bytes partial_line n h consumed = record {
  first = TakesFirst-from after s t a b bytes n (IsUnended partial_line) h consumed;
  read = HasRead-from after s t a b bytes partial_line n h consumed;
}

-- at the end all lines were taken
lines_at_end : {S : Type 0} (after : S → List (List ℕ) → S → Type 0) (s t : S) (bytes : List ℕ)
    (partial_line : UnendedLine) (n : ℕ) (h : IsTaken after s t bytes 0 n (IsUnended partial_line))
    →
    lines bytes ≡ h.lines_taken ++ lines h.left
lines_at_end after s t bytes partial_line n h =
    ap lines (sym (append-nil bytes))
    ∙ (h.cuts.whole [] ∙ ap (λ l. h.lines_taken ++ lines l) (append-nil h.left))

pub TakesAll-from : {S : Type 0} (after : S → List (List ℕ) → S → Type 0) (s t u : S)
    (a b : Option (List ℕ)) (bytes : List ℕ) (partial_line : UnendedLine) (m n : ℕ) →
    IsTaken after s t bytes 0 m (IsUnended partial_line) → Consumes a b bytes → IsAtEnd b →
    ((part : List ℕ) → IsUnended partial_line part →
    Takes after t u (lines part) × (n ≡ m + length (lines part))) → TakesAll after s u a n
TakesAll-from after s t u a b bytes partial_line m n h consumed end next =
    let k = next h.left h.rest in
    record {
      lines_taken = h.lines_taken ++ lines h.left;
      takes = Takes-then after s t u h.lines_taken (lines h.left) h.takes k.0;
      count = omega (arith, h.count, k.1, length-append h.lines_taken (lines h.left));
      all =
          known_whole (λ input. lines input ≡ h.lines_taken ++ lines h.left) a b bytes consumed end
          (lines_at_end after s t bytes partial_line m h);
    }

-- if memory runs out at the last line
pub TakesFirst-at_end : {S : Type 0} (after : S → List (List ℕ) → S → Type 0) (s t u : S)
    (a b : Option (List ℕ)) (bytes : List ℕ) (partial_line : UnendedLine) (m n : ℕ) →
    IsTaken after s t bytes 0 m (IsUnended partial_line) → Consumes a b bytes → n ≡ m → u ≡ t →
    TakesFirst after s u a n
TakesFirst-at_end {S} after s t u a b bytes partial_line m n h consumed same still =
    subst (λ (v : S). TakesFirst after s v a n) (sym still)
    (subst (λ (i : ℕ). TakesFirst after s t a i) (sym same)
    (TakesFirst-from after s t a b bytes m (IsUnended partial_line) h consumed))

-- if the taker stops at the last line
pub StopsAfter-at_end : {S W : Type 0} (after : S → List (List ℕ) → S → Type 0)
    (stopped : S → List (List ℕ) → Option (List ℕ) → S → W → Type 0) (s t u : S)
    (a b : Option (List ℕ)) (bytes : List ℕ) (partial_line : UnendedLine) (m n : ℕ) (why : W) →
    IsTaken after s t bytes 0 m (IsUnended partial_line) → Consumes a b bytes → IsAtEnd b → n ≡ m →
    ((part : List ℕ) → IsUnended partial_line part →
    (lines part ≡ part ∷ []) × Stops after stopped t u (Some part) why) →
    StopsAfter after stopped s u a n why
StopsAfter-at_end after stopped s t u a b bytes partial_line m n why h consumed end same next =
    let k = next h.left h.rest in
    let count = from_none n _ (same ∙ h.count) in
    let all : lines bytes ≡ h.lines_taken ++ h.left ∷ [] =
    lines_at_end after s t bytes partial_line m h ∙ ap (λ l. h.lines_taken ++ l) k.0 in
    record {
      lines_taken = h.lines_taken;
      at = Some h.left;
      stops = λ initial before x. k.1 initial (before ++ h.lines_taken) (h.takes initial before x);
      count = count;
      first =
          known_whole (λ input. take n (lines input) ≡ h.lines_taken) a b bytes consumed end
          (take_front _ h.lines_taken (h.left ∷ []) n count all);
      next =
          known_whole (λ input. slice_get (lines input) n ≡ Some h.left) a b bytes consumed end
          (slice_get_at _ h.lines_taken h.left [] n count all);
    }

-- if the taker stops at a line that has ended
pub StopsAfter-from : {S W : Type 0} (after : S → List (List ℕ) → S → Type 0)
    (stopped : S → List (List ℕ) → Option (List ℕ) → S → W → Type 0) (s t : S)
    (a b : Option (List ℕ)) (bytes : List ℕ) (n : ℕ) (why : W) →
    IsStopped after stopped s t bytes 0 n why → Consumes a b bytes →
    StopsAfter after stopped s t a n why
StopsAfter-from after stopped s t a b bytes n why h consumed =
    let all : (more : List ℕ) →
    lines (bytes ++ more) ≡ h.lines_taken ++ h.line ∷ lines (h.left ++ more) =
    λ more. h.cuts.whole more ∙ append_assoc h.lines_taken (h.line ∷ []) (lines (h.left ++ more)) in
    record {
      lines_taken = h.lines_taken;
      at = Some h.line;
      stops = h.stops;
      count = from_none n _ h.count;
      first =
          known (λ input. take n (lines input) ≡ h.lines_taken) a b bytes consumed
          (λ more. take_front _ h.lines_taken _ n (from_none n _ h.count) (all more));
      next =
          known (λ input. slice_get (lines input) n ≡ Some h.line) a b bytes consumed
          (λ more. slice_get_at _ h.lines_taken h.line _ n (from_none n _ h.count) (all more));
    }
