-- What one more line, or one more piece of bytes, adds to the lines that were taken.
use Rattle.std.proofs.Common.{◌≡◌, ◌<◌, ◌≤◌, ◌==◌, ℕ, ◌+◌, true, slice_index, take, drop}
use Rattle.std.proofs.Common.{length-drop, length, subst, arith, List, [], ◌∷◌, ◌++◌, ap, sym, ◌∙◌}
use Rattle.std.proofs.Common.{append_assoc, append-nil, length-append, Option, Some}
use Rattle.std.proofs.lemmas.List.{take-append-drop, take_all}
use Rattle.osn_lines.specs.declared.unended_line.UnendedLine.{UnendedLine}
use Rattle.osn_lines.specs.Inside.{HasNoFeed, Holds, IsUnended, Cuts, IsTaken, IsStopped}
use Rattle.osn_lines.specs.Takers.{Takes, Rests, Stops}
use Rattle.osn_lines.proofs.LineLemmas.{HasNoFeed-append, HasNoFeed-take, seen_line, Cuts-nothing}
use Rattle.osn_lines.proofs.LineLemmas.{Cuts-line, Cuts-more, Cuts-then}

pub Takes-nothing : {S : Type 0} (after : S → List (List ℕ) → S → Type 0) (s : S) →
    Takes after s s []
Takes-nothing {S} after s =
    λ initial before h. subst (λ (l : List (List ℕ)). after initial l s) (sym (append-nil before)) h

pub Takes-then : {S : Type 0} (after : S → List (List ℕ) → S → Type 0) (s t u : S)
    (xs ys : List (List ℕ)) → Takes after s t xs → Takes after t u ys → Takes after s u (xs ++ ys)
Takes-then {S} after s t u xs ys h k =
    λ initial before b.
    subst (λ (l : List (List ℕ)). after initial l u) (append_assoc before xs ys)
    (k initial (before ++ xs) (h initial before b))

-- nothing is taken yet
pub IsTaken-nothing : {S : Type 0} (after : S → List (List ℕ) → S → Type 0) (s : S)
    (part : List ℕ) (partial_line : UnendedLine) (n : ℕ) → IsUnended partial_line part →
    IsTaken after s s (part ++ []) n n (IsUnended partial_line)
IsTaken-nothing after s part partial_line n h =
    subst (λ (l : List ℕ). IsTaken after s s l n n (IsUnended partial_line)) (sym (append-nil part))
    (record {
      lines_taken = [];
      left = part;
      cuts = Cuts-nothing part;
      takes = Takes-nothing after s;
      count = omega arith;
      rest = h;
    })

-- a line that ends after what was cut is cut
Cuts-next : (bytes left end : List ℕ) (done : List (List ℕ)) → Cuts bytes done left →
    HasNoFeed left → HasNoFeed end →
    Cuts (bytes ++ (end ++ 10 ∷ [])) (done ++ (left ++ end) ∷ []) []
Cuts-next bytes left end done h no_feed here =
    Cuts-then bytes left (end ++ 10 ∷ []) [] done ((left ++ end) ∷ []) h
    (subst (λ (l : List ℕ). Cuts l ((left ++ end) ∷ []) []) (append_assoc left end (10 ∷ []))
    (Cuts-line (left ++ end) (HasNoFeed-append left end no_feed here)))

-- the bytes up to a line feed at `place` after `from`
cut_bytes : (part piece end : List ℕ) (from place : ℕ) → end ≡ take place (drop from piece) →
    from + place < length piece → (slice_index (drop from piece) place == 10) ≡ true →
    (part ++ take from piece) ++ (end ++ 10 ∷ []) ≡ part ++ take (from + place + 1) piece
cut_bytes part piece end from place is_end long here =
    append_assoc part (take from piece) (end ++ 10 ∷ [])
    ∙ ap (λ l. part ++ l)
    (ap (λ e. take from piece ++ (e ++ 10 ∷ [])) is_end
    ∙ sym (seen_line piece from place long here))

-- what a search for a line feed found after `from`
pub record FeedAt (piece hay end : List ℕ) (from place : ℕ) : Type 0 where
  pub is_hay : hay ≡ drop from piece
  pub is_end : end ≡ take place (drop from piece)
  pub before : (i : ℕ) → 0 ≤ i → i < place → (slice_index hay i == 10) ≡ true → ⊥
  pub within : place < length hay
  pub feed : (slice_index hay place == 10) ≡ true

found_no_feed : (piece hay end : List ℕ) (from place : ℕ) → FeedAt piece hay end from place →
    HasNoFeed end
found_no_feed piece hay end from place f =
    subst HasNoFeed (sym f.is_end)
    (HasNoFeed-take (drop from piece) place
    (λ i lt. subst (λ (l : List ℕ). (slice_index l i == 10) ≡ true → ⊥) f.is_hay
    (f.before i (omega arith) lt)))

found_bytes : (part piece hay end : List ℕ) (from place : ℕ) → FeedAt piece hay end from place →
    (part ++ take from piece) ++ (end ++ 10 ∷ []) ≡ part ++ take (from + place + 1) piece
found_bytes part piece hay end from place f =
    let long : from + place < length piece =
    omega (arith, f.within, ap length f.is_hay, length-drop from piece) in
    let here : (slice_index (drop from piece) place == 10) ≡ true =
    subst (λ (l : List ℕ). (slice_index l place == 10) ≡ true) f.is_hay f.feed in
    cut_bytes part piece end from place f.is_end long here

-- the line that ends at `place` of the rest is taken next
pub IsTaken-next : {S : Type 0} (after : S → List (List ℕ) → S → Type 0) (s t u : S)
    (part piece hay end : List ℕ) (partial_line unended' : UnendedLine) (n m from place : ℕ) →
    IsTaken after s t (part ++ take from piece) n m (IsUnended partial_line) →
    ((p : List ℕ) → Holds partial_line p → Takes after t u ((p ++ end) ∷ [])) →
    FeedAt piece hay end from place → Holds unended' [] →
    IsTaken after s u (part ++ take (from + place + 1) piece) n (m + 1) (IsUnended unended')
IsTaken-next after s t u part piece hay end partial_line unended' n m from place h line f empty =
    subst (λ (l : List ℕ). IsTaken after s u l n (m + 1) (IsUnended unended'))
    (found_bytes part piece hay end from place f)
    (record {
      lines_taken = h.lines_taken ++ (h.left ++ end) ∷ [];
      left = [];
      cuts =
          Cuts-next (part ++ take from piece) h.left end h.lines_taken h.cuts h.rest.1
          (found_no_feed piece hay end from place f);
      takes =
          Takes-then after s t u h.lines_taken ((h.left ++ end) ∷ []) h.takes
          (line h.left h.rest.0);
      count = omega (arith, h.count, length-append h.lines_taken ((h.left ++ end) ∷ []));
      rest = (empty, tt);
    })

-- bytes after a cut at `from`
pub rest_bytes : (part piece : List ℕ) (from : ℕ) →
    (part ++ take from piece) ++ drop from piece ≡ part ++ piece
rest_bytes part piece from =
    append_assoc part (take from piece) (drop from piece)
    ∙ ap (λ l. part ++ l) (take-append-drop from piece)

-- no line ends in the rest, or memory ran out at the next
pub IsTaken-rest : {S : Type 0} (after : S → List (List ℕ) → S → Type 0) (s t u : S)
    (part piece : List ℕ) (partial_line : UnendedLine) (n m from : ℕ) (Left : List ℕ → Type 0) →
    IsTaken after s t (part ++ take from piece) n m (IsUnended partial_line) → u ≡ t →
    ((left : List ℕ) → IsUnended partial_line left → Left (left ++ drop from piece)) →
    IsTaken after s u (part ++ piece) n m Left
IsTaken-rest {S} after s t u part piece partial_line n m from Left h same rest =
    subst (λ (v : S). IsTaken after s v (part ++ piece) n m Left) (sym same)
    (subst (λ (l : List ℕ). IsTaken after s t l n m Left) (rest_bytes part piece from)
    (record {
      lines_taken = h.lines_taken;
      left = h.left ++ drop from piece;
      cuts = Cuts-more (part ++ take from piece) h.left (drop from piece) h.lines_taken h.cuts;
      takes = h.takes;
      count = h.count;
      rest = rest h.left h.rest;
    }))

-- the taker stopped at the line that ends at `place` of the rest
pub IsStopped-next : {S W : Type 0} (after : S → List (List ℕ) → S → Type 0)
    (stopped : S → List (List ℕ) → Option (List ℕ) → S → W → Type 0) (s t u : S)
    (part piece hay end : List ℕ) (partial_line : UnendedLine) (n m q from place : ℕ) (why : W) →
    IsTaken after s t (part ++ take from piece) n m (IsUnended partial_line) →
    ((p : List ℕ) → Holds partial_line p → Stops after stopped t u (Some (p ++ end)) why) →
    FeedAt piece hay end from place → q ≡ m → IsStopped after stopped s u (part ++ piece) n q why
IsStopped-next after stopped s t u part piece hay end partial_line n m q from place why h stops f
    same =
    let k = from + place + 1 in
    let here : Cuts (part ++ take k piece) (h.lines_taken ++ (h.left ++ end) ∷ []) [] =
    subst (λ (l : List ℕ). Cuts l (h.lines_taken ++ (h.left ++ end) ∷ []) [])
    (found_bytes part piece hay end from place f)
    (Cuts-next (part ++ take from piece) h.left end h.lines_taken h.cuts h.rest.1
    (found_no_feed piece hay end from place f)) in
    record {
      lines_taken = h.lines_taken;
      line = h.left ++ end;
      left = drop k piece;
      cuts =
          subst (λ (l : List ℕ). Cuts l (h.lines_taken ++ (h.left ++ end) ∷ []) (drop k piece))
          (rest_bytes part piece k)
          (Cuts-more (part ++ take k piece) [] (drop k piece)
          (h.lines_taken ++ (h.left ++ end) ∷ [])
          here);
      stops =
          λ initial before b. stops h.left h.rest.0 initial (before ++ h.lines_taken)
          (h.takes initial before b);
      count = same ∙ h.count;
    }

-- what the rest adds to the bytes that are kept
pub IsUnended-more : (partial_line unended' : UnendedLine) (hay rest left : List ℕ) → hay ≡ rest →
    ((line : List ℕ) → Holds partial_line line → Holds unended' (line ++ hay)) →
    ((i : ℕ) → 0 ≤ i → i < length hay → (slice_index hay i == 10) ≡ true → ⊥) →
    IsUnended partial_line left → IsUnended unended' (left ++ rest)
IsUnended-more partial_line unended' hay rest left is_hay more none h =
    let no_feed : HasNoFeed rest =
    subst HasNoFeed (take_all (length hay) hay (omega arith) ∙ is_hay)
    (HasNoFeed-take hay (length hay) (λ i lt. none i (omega arith) lt)) in (
      subst (λ (l : List ℕ). Holds unended' (left ++ l)) is_hay (more left h.0),
      HasNoFeed-append left rest h.1 no_feed,
    )

-- another piece was read
pub IsTaken-then : {S : Type 0} (after : S → List (List ℕ) → S → Type 0) (s t u : S)
    (bytes given piece : List ℕ) (partial_line : UnendedLine) (n m q : ℕ) (Left : List ℕ → Type 0) →
    IsTaken after s t bytes n m (IsUnended partial_line) → given ≡ piece →
    ((part : List ℕ) → IsUnended partial_line part → IsTaken after t u (part ++ given) m q Left) →
    IsTaken after s u (bytes ++ piece) n q Left
IsTaken-then after s t u bytes given piece partial_line n m q Left h same next =
    let k =
    subst (λ (l : List ℕ). IsTaken after t u (h.left ++ l) m q Left) same (next h.left h.rest) in
    record {
      lines_taken = h.lines_taken ++ k.lines_taken;
      left = k.left;
      cuts = Cuts-then bytes h.left piece k.left h.lines_taken k.lines_taken h.cuts k.cuts;
      takes = Takes-then after s t u h.lines_taken k.lines_taken h.takes k.takes;
      count = omega (arith, h.count, k.count, length-append h.lines_taken k.lines_taken);
      rest = k.rest;
    }

-- another piece was read, and the taker stopped in it
pub IsStopped-then : {S W : Type 0} (after : S → List (List ℕ) → S → Type 0)
    (stopped : S → List (List ℕ) → Option (List ℕ) → S → W → Type 0) (s t u : S)
    (bytes given piece : List ℕ) (partial_line : UnendedLine) (n m q : ℕ) (why : W) →
    IsTaken after s t bytes n m (IsUnended partial_line) → given ≡ piece →
    ((part : List ℕ) → IsUnended partial_line part →
    IsStopped after stopped t u (part ++ given) m q why) →
    IsStopped after stopped s u (bytes ++ piece) n q why
IsStopped-then {S} {W} after stopped s t u bytes given piece partial_line n m q why h same next =
    let k =
    subst (λ (l : List ℕ). IsStopped after stopped t u (h.left ++ l) m q why) same
    (next h.left h.rest) in
    record {
      lines_taken = h.lines_taken ++ k.lines_taken;
      line = k.line;
      left = k.left;
      cuts =
          subst (λ (l : List (List ℕ)). Cuts (bytes ++ piece) l k.left)
          (sym (append_assoc h.lines_taken k.lines_taken (k.line ∷ [])))
          (Cuts-then bytes h.left piece k.left h.lines_taken (k.lines_taken ++ k.line ∷ [])
          h.cuts k.cuts);
      stops = λ initial before b.
          subst (λ (l : List (List ℕ)). stopped initial l (Some k.line) u why)
          (append_assoc before h.lines_taken k.lines_taken)
          (k.stops initial (before ++ h.lines_taken) (h.takes initial before b));
      count = omega (arith, h.count, k.count, length-append h.lines_taken k.lines_taken);
    }

-- a rest before a read takes nothing
pub IsTaken-rests : {S : Type 0} (after : S → List (List ℕ) → S → Type 0) (s t u : S)
    (bytes : List ℕ) (n m : ℕ) (Left : List ℕ → Type 0) → IsTaken after s t bytes n m Left →
    Rests after t u → IsTaken after s u bytes n m Left
IsTaken-rests after s t u bytes n m Left h r = record {
  lines_taken = h.lines_taken;
  left = h.left;
  cuts = h.cuts;
  takes = λ initial before b. r initial (before ++ h.lines_taken) (h.takes initial before b);
  count = h.count;
  rest = h.rest;
}
