-- Lines that have ended, and lines that are too long.
use Rattle.std.proofs.Common.{◌≡◌, ◌∙◌, ◌+◌, ◌<◌, ◌≤◌, ◌==◌, ◌⊎◌, ℕ, zero, suc, Bool, true, false}
use Rattle.std.proofs.Common.{List, [], ◌∷◌, ◌++◌, length, take, drop, cond, refl, sym, ap, subst}
use Rattle.std.proofs.Common.{arith, if◌then◌else◌, None, Result}
use Rattle.std.proofs.Common.{inl, inr, append-nil, append_assoc, length-append, map, Err}
use Rattle.std.proofs.Math.Seq.{take-append-add, drop-append-add}
use Rattle.std.proofs.lemmas.Bool.{eqb-true, lt-ltb}
use Rattle.std.proofs.lemmas.List.{length-drop}
use Rattle.osn_core.specs.Sequential.{ObjectState}
use Rattle.osn_lines.specs.LastLineFeed.{with_byte, ended_length, ended_bytes, unended_bytes}
use Rattle.osn_lines.specs.Lines.{lines, onto_first, longest_line}
use Rattle.osn_lines.proofs.EndedLemmas.{ended-before, ended-within}
use Rattle.osn_request.specs.Version.{newest_version}
use Rattle.osn_request.specs.declared.wire_fault.WireFault.{WireFault}
use Rattle.osn_request.specs.declared.wire_fault.WireFault.TheVariants.{LineTooLong}
use Rattle.osn_request.specs.Field.{◌>>=◌}
use Rattle.osn_request.specs.Request.{object_in, request_of, value_of}
use Rattle.osn_request.specs.Unknown.{unknown_in}
use Rattle.serde_json.specs.Data.{Data}
use Rattle.osn_service.specs.Outcome.{explained_if}
use Rattle.osn_service.specs.Session.{allowed_request, line_outcome, outcome_of, outcome_unless}
use Rattle.osn_service.specs.declared.outcome.Outcome.{Outcome}
use Rattle.osn_service.specs.declared.rules.ServeRules.{ServeRules}
use Rattle.osn_journal.specs.declared.line_front.LineFront.{LineFront}
use Rattle.osn_journal.specs.FollowerInside.{HasNoLine, IsFrontOf, GivesSameLines}
use Rattle.osn_journal.specs.Outcomes.{outcomes, with_feed, missing_feed}

-- ---- bytes with no line that has ended

one_or_none : (t : Bool) → cond {A = ℕ} t 1 0 ≡ 0 → t ≡ false
one_or_none true h = absurd (omega (arith, h))
one_or_none false h = refl

-- neither is the first byte a line feed, nor has a line of the others ended
no_feed : (b n : ℕ) → with_byte b n ≡ 0 → ((b == 10) ≡ false) × (n ≡ 0)
no_feed b zero h = (one_or_none (b == 10) h, refl)
no_feed b (suc n) h = absurd (omega (arith, h))

pub none_ended : (bytes : List ℕ) → HasNoLine bytes → ended_bytes bytes ≡ []
none_ended bytes h = ap (λ n. take n bytes) h

pub all_unended : (bytes : List ℕ) → HasNoLine bytes → unended_bytes bytes ≡ bytes
all_unended bytes h = ap (λ n. drop n bytes) h

-- with a line feed after them they are a line
lines-feed : (bytes rest : List ℕ) → HasNoLine bytes
    → lines (bytes ++ 10 ∷ rest) ≡ bytes ∷ lines rest
lines-feed [] rest h = refl
lines-feed (b ∷ bs) rest h =
    let parts = no_feed b (ended_length bs) h in
    let more = lines (bs ++ 10 ∷ rest) in
    ap (λ t. cond t ([] ∷ more) (onto_first b more)) parts.0
    ∙ ap (onto_first b) (lines-feed bs rest parts.1)

-- what comes after the last line feed has no line
pub unended-none : (bytes : List ℕ) → HasNoLine (unended_bytes bytes)
unended-none [] = refl
unended-none (b ∷ bs) = by_rest (ended_length bs) refl (unended-none bs)
  where
    by_byte : ended_length bs ≡ 0 → (t : Bool) → (b == 10) ≡ t
        → ended_length (drop (cond t 1 0) (b ∷ bs)) ≡ 0
    by_byte none true is = none
    by_byte none false is = ap (with_byte b) none ∙ ap (λ t. cond t 1 0) is

    by_rest : (n : ℕ) → ended_length bs ≡ n → HasNoLine (unended_bytes bs)
        → ended_length (drop (with_byte b n) (b ∷ bs)) ≡ 0
    by_rest zero e rest = by_byte e (b == 10) refl
    by_rest (suc m) e rest = subst (λ (k : ℕ). ended_length (drop k bs) ≡ 0) e rest

-- ---- a line feed after bytes

with_feed_byte : (n : ℕ) → with_byte 10 n ≡ suc n
with_feed_byte zero = refl
with_feed_byte (suc n) = refl

length-feed : (bytes rest : List ℕ) → ended_length (bytes ++ 10 ∷ rest)
    ≡ length bytes + suc (ended_length rest)
length-feed bytes rest =
    ended-within bytes (10 ∷ rest) (ended_length rest) (with_feed_byte (ended_length rest))
    ∙ omega arith

ended-feed : (bytes rest : List ℕ) → ended_bytes (bytes ++ 10 ∷ rest)
    ≡ bytes ++ 10 ∷ ended_bytes rest
ended-feed bytes rest =
    ap (λ n. take n (bytes ++ 10 ∷ rest)) (length-feed bytes rest)
    ∙ take-append-add bytes (10 ∷ rest) (suc (ended_length rest))

unended-feed : (bytes rest : List ℕ) → unended_bytes (bytes ++ 10 ∷ rest) ≡ unended_bytes rest
unended-feed bytes rest =
    ap (λ n. drop n (bytes ++ 10 ∷ rest)) (length-feed bytes rest)
    ∙ drop-append-add bytes (10 ∷ rest) (suc (ended_length rest))

-- ---- lines that are too long

abbrev IsLong : List ℕ → Type 0
IsLong line = longest_line < length line

-- the reply to a line by its object
abbrev outcome_by : ServeRules → ObjectState → Result Data WireFault → Outcome
outcome_by rules s object = explained_if rules.explains
    (outcome_unless (if rules.strict_members then unknown_in object else None)
    (outcome_of s (allowed_request rules.read_only rules.takes_sources
    (object >>= request_of newest_version rules.readers))))

too_long : (rules : ServeRules) (s : ObjectState) (line : List ℕ) → IsLong line
    → line_outcome rules s line
    ≡ outcome_by rules s (Err LineTooLong)
too_long rules s line long =
    ap (λ t. outcome_by rules s (cond t (Err LineTooLong) (object_in (value_of line))))
    (lt-ltb longest_line (length line) long)

-- two such lines get the same reply
same_outcome : (rules : ServeRules) (s : ObjectState) (x y : List ℕ) → IsLong x → IsLong y
    → line_outcome rules s x ≡ line_outcome rules s y
same_outcome rules s x y long other = too_long rules s x long ∙ sym (too_long rules s y other)

-- two beginnings of a line that is too long, and the same bytes after them
record Alike (x y bytes : List ℕ) : Type 0 where
  same_outcomes : GivesSameLines (ended_bytes (x ++ bytes)) (ended_bytes (y ++ bytes))
  is : (unended_bytes (x ++ bytes) ≡ unended_bytes (y ++ bytes))
      ⊎ (IsLong (unended_bytes (x ++ bytes)) × IsLong (unended_bytes (y ++ bytes)))

alike_feed : (x y rest : List ℕ) → HasNoLine x → HasNoLine y → IsLong x → IsLong y
    → Alike x y (10 ∷ rest)
alike_feed x y rest none_x none_y long_x long_y = record {
  same_outcomes = λ rules s.
      let more = map (line_outcome rules s) (lines (ended_bytes rest)) in
      let with_first : (z : List ℕ) → HasNoLine z
      → outcomes rules s (ended_bytes (z ++ 10 ∷ rest)) ≡ line_outcome rules s z ∷ more =
      λ z none. ap (λ t. map (line_outcome rules s) (lines t)) (ended-feed z rest)
      ∙ ap (map (line_outcome rules s)) (lines-feed z (ended_bytes rest) none) in
      with_first x none_x
      ∙ (ap (λ o. o ∷ more) (same_outcome rules s x y long_x long_y) ∙ sym (with_first y none_y));
  is = inl (unended-feed x rest ∙ sym (unended-feed y rest));
}

alike : (bytes x y : List ℕ) → HasNoLine x → HasNoLine y → IsLong x → IsLong y → Alike x y bytes
alike [] x y none_x none_y long_x long_y =
    let none : (z : List ℕ) → HasNoLine z → HasNoLine (z ++ []) =
    λ z h. ap ended_length (append-nil z) ∙ h in
    let long : (z : List ℕ) → HasNoLine z → IsLong z → IsLong (unended_bytes (z ++ [])) =
    λ z h l. subst IsLong (sym (all_unended (z ++ []) (none z h) ∙ append-nil z)) l in
    record {
      same_outcomes = λ rules s.
          ap (outcomes rules s) (none_ended (x ++ []) (none x none_x))
          ∙ sym (ap (outcomes rules s) (none_ended (y ++ []) (none y none_y)));
      is = inr (long x none_x long_x, long y none_y long_y);
    }
alike (b ∷ bs) x y none_x none_y long_x long_y =
    let longer : (z : List ℕ) → IsLong z → IsLong (z ++ b ∷ []) =
    λ z h. omega (arith, h, length-append z (b ∷ [])) in
    by_byte (b == 10) refl
    (λ first second. alike bs (x ++ b ∷ []) (y ++ b ∷ []) first second (longer x long_x)
    (longer y long_y))
  where
    by_byte : (t : Bool) → (b == 10) ≡ t
        → (HasNoLine (x ++ b ∷ []) → HasNoLine (y ++ b ∷ [])
        → Alike (x ++ b ∷ []) (y ++ b ∷ []) bs)
        → Alike x y (b ∷ bs)
    by_byte true is more =
        subst (λ (c : ℕ). Alike x y (c ∷ bs)) (sym (eqb-true b 10 is))
        (alike_feed x y bs none_x none_y long_x long_y)
    by_byte false is more =
        let none : (z : List ℕ) → HasNoLine z → HasNoLine (z ++ b ∷ []) =
        λ z h. ended-before z (b ∷ []) (ap (λ t. cond t 1 0) is) ∙ h in
        let one = more (none x none_x) (none y none_y) in
        let cut : (z : List ℕ) → (z ++ b ∷ []) ++ bs ≡ z ++ b ∷ bs =
        λ z. append_assoc z (b ∷ []) bs in
        record {
          same_outcomes =
              subst (λ (v : List ℕ). GivesSameLines (ended_bytes v) (ended_bytes (y ++ b ∷ bs)))
              (cut x)
              (subst (λ (w : List ℕ). GivesSameLines (ended_bytes ((x ++ b ∷ []) ++ bs))
              (ended_bytes w)) (cut y) one.same_outcomes);
          is =
              subst (λ (v : List ℕ). (unended_bytes v ≡ unended_bytes (y ++ b ∷ bs))
              ⊎ (IsLong (unended_bytes v) × IsLong (unended_bytes (y ++ b ∷ bs)))) (cut x)
              (subst (λ (w : List ℕ). (unended_bytes ((x ++ b ∷ []) ++ bs) ≡ unended_bytes w)
              ⊎ (IsLong (unended_bytes ((x ++ b ∷ []) ++ bs)) × IsLong (unended_bytes w))) (cut y)
              one.is);
        }

-- ---- the beginning of a line

-- bytes were added to a beginning, and to what waits
pub lines-add : (pending_bytes bytes : List ℕ) (old : LineFront) → IsFrontOf pending_bytes old
    → GivesSameLines (ended_bytes (old.bytes.items ++ bytes)) (ended_bytes (pending_bytes ++ bytes))
lines-add pending_bytes bytes old h = by_front h.is
  where
    by_front : (old.bytes.items ≡ pending_bytes) ⊎ (IsLong old.bytes.items × IsLong pending_bytes)
        → GivesSameLines (ended_bytes (old.bytes.items ++ bytes))
        (ended_bytes (pending_bytes ++ bytes))
    by_front (inl same) = λ rules s. ap (λ l. outcomes rules s (ended_bytes (l ++ bytes))) same
    by_front (inr long) =
        (alike bytes old.bytes.items pending_bytes h.none_here h.none long.0 long.1).same_outcomes

pub rest-add : (pending_bytes bytes : List ℕ) (old new : LineFront) → IsFrontOf pending_bytes old
    → new.bytes.items ≡ unended_bytes (old.bytes.items ++ bytes)
    → IsFrontOf (unended_bytes (pending_bytes ++ bytes)) new
rest-add pending_bytes bytes old new h is = record {
  none = unended-none (pending_bytes ++ bytes);
  none_here =
      subst HasNoLine (sym is) (unended-none (old.bytes.items ++ bytes));
  is =
      subst (λ (l : List ℕ). (l ≡ unended_bytes (pending_bytes ++ bytes))
      ⊎ (IsLong l × IsLong (unended_bytes (pending_bytes ++ bytes)))) (sym is) (by_front h.is);
}
  where
    by_front : (old.bytes.items ≡ pending_bytes) ⊎ (IsLong old.bytes.items × IsLong pending_bytes)
        → (unended_bytes (old.bytes.items ++ bytes) ≡ unended_bytes (pending_bytes ++ bytes))
        ⊎ (IsLong (unended_bytes (old.bytes.items ++ bytes))
        × IsLong (unended_bytes (pending_bytes ++ bytes)))
    by_front (inl same) = inl (ap (λ l. unended_bytes (l ++ bytes)) same)
    by_front (inr long) =
        (alike bytes old.bytes.items pending_bytes h.none_here h.none long.0 long.1).is

-- bytes of a line that is too long were skipped
still_none : (pending_bytes bytes : List ℕ) → HasNoLine pending_bytes → HasNoLine bytes
    → HasNoLine (pending_bytes ++ bytes)
still_none pending_bytes bytes none more = ended-before pending_bytes bytes more ∙ none

pub no_line-pass : (pending_bytes bytes : List ℕ) (old : LineFront) → IsFrontOf pending_bytes old
    → HasNoLine bytes → GivesSameLines [] (ended_bytes (pending_bytes ++ bytes))
no_line-pass pending_bytes bytes old h more = λ rules s.
    sym (ap (outcomes rules s)
    (none_ended (pending_bytes ++ bytes) (still_none pending_bytes bytes h.none more)))

pub rest-pass : (pending_bytes bytes : List ℕ) (old : LineFront) → IsFrontOf pending_bytes old
    → HasNoLine bytes → longest_line < length old.bytes.items
    → IsFrontOf (unended_bytes (pending_bytes ++ bytes)) old
rest-pass pending_bytes bytes old h more long =
    let none = still_none pending_bytes bytes h.none more in
    subst (λ (w : List ℕ). IsFrontOf w old) (sym (all_unended (pending_bytes ++ bytes) none))
    (record {
      none = none;
      none_here = h.none_here;
      is = inr (long, omega (arith, waits h.is, length-append pending_bytes bytes));
    })
  where
    waits : (old.bytes.items ≡ pending_bytes) ⊎ (IsLong old.bytes.items × IsLong pending_bytes)
        → longest_line < length pending_bytes
    waits (inl same) = subst IsLong same long
    waits (inr both) = both.1

-- the line was ended, if there is one
some_feed : (pending_bytes : List ℕ) → 0 < length pending_bytes → missing_feed pending_bytes
    ≡ 10 ∷ []
some_feed [] h = absurd (omega (arith, h))
some_feed (b ∷ bs) h = refl

pub with_feed-some : (pending_bytes : List ℕ) (old : LineFront) → IsFrontOf pending_bytes old
    → 0 < length old.bytes.items → with_feed pending_bytes ≡ pending_bytes ++ 10 ∷ []
with_feed-some pending_bytes old h some =
    ap (λ l. pending_bytes ++ l)
    (ap missing_feed (all_unended pending_bytes h.none) ∙ some_feed pending_bytes (waits h.is))
  where
    waits : (old.bytes.items ≡ pending_bytes) ⊎ (IsLong old.bytes.items × IsLong pending_bytes)
        → 0 < length pending_bytes
    waits (inl same) = subst (λ (l : List ℕ). 0 < length l) same some
    waits (inr both) = omega (arith, both.1)

-- ---- how long they are

pub unended-le : (bytes : List ℕ) → length (unended_bytes bytes) ≤ length bytes
unended-le bytes = omega (arith, length-drop (ended_length bytes) bytes)

-- if a line of the last bytes has ended, no more is after it than those
pub unended-last : (front bytes : List ℕ) → (ended_length bytes ≡ 0 → ⊥)
    → length (unended_bytes (front ++ bytes)) ≤ length bytes
unended-last front bytes some = by_end (ended_length bytes) refl
  where
    by_end : (n : ℕ) → ended_length bytes ≡ n
        → length (unended_bytes (front ++ bytes)) ≤ length bytes
    by_end zero e = absurd (some e)
    by_end (suc k) e =
        omega (
          arith,
          length-drop (ended_length (front ++ bytes)) (front ++ bytes),
          ended-within front bytes k e,
          length-append front bytes,
        )

-- each line has a byte, or its line feed
pub lines-few : (bytes : List ℕ) → length (lines bytes) ≤ length bytes
lines-few [] = omega arith
lines-few (b ∷ bs) = by_byte (b == 10) (lines-few bs)
  where
    onto : (ls : List (List ℕ)) → length ls ≤ length bs → length (onto_first b ls) ≤ suc (length bs)
    onto [] le = omega arith
    onto (l ∷ ls) le = omega (arith, le)

    by_byte : (t : Bool) → length (lines bs) ≤ length bs
        → length (cond t ([] ∷ lines bs) (onto_first b (lines bs))) ≤ suc (length bs)
    by_byte true le = omega (arith, le)
    by_byte false le = onto (lines bs) le
