-- What arrives, its outcomes, and what was written.
use Rattle.std.proofs.Common.{◌≡◌, ◌∙◌, ◌+◌, ◌<◌, ℕ, false, List, [], ◌∷◌}
use Rattle.std.proofs.Common.{◌++◌}
use Rattle.std.proofs.Common.{take, length, Option, Some, None, Ok, Err, refl, sym, ap}
use Rattle.std.proofs.Common.{subst}
use Rattle.std.proofs.Common.{arith, append-nil, append_assoc, length-append}
use Rattle.std.proofs.Math.Seq.{take-append-add}
use Rattle.std.proofs.lemmas.Grind.{flat_map-append}
use Rattle.std.proofs.lemmas.List.Elements.{All-append}
use Rattle.std.specs.List.{All}
use Rattle.std.specs.Io.KnownBytes.{Appends}
use Rattle.osn_core.specs.Sequential.{ObjectState}
use Rattle.osn_register.specs.declared.limits.Limits.{Limits}
use Rattle.osn_lines.specs.LastLineFeed.{ended_bytes, unended_bytes}
use Rattle.osn_lines.proofs.ByteLemmas.{Appends-then}
use Rattle.osn_files.specs.declared.fault.LineFault.{LineFault}
use Rattle.osn_service.specs.Outcome.{is_refused}
use Rattle.osn_service.specs.ReplyText.{reply_line}
use Rattle.osn_service.specs.declared.outcome.Outcome.{Outcome}
use Rattle.osn_service.specs.declared.rules.ServeRules.{ServeRules}
use Rattle.osn_journal.specs.Arrivals.{Arrival, Arrive, Ended, Gained, Requests, arrival_of}
use Rattle.osn_journal.specs.Arrivals.{file_of}
use Rattle.osn_journal.specs.Follows.{IsFirstRefused}
use Rattle.osn_journal.specs.Follows.{WritesAll, WritesFirst, WritesInPart}
use Rattle.osn_journal.specs.RoundInside.{pending_after}
use Rattle.osn_journal.specs.Outcomes.{outcomes, journal_object, outcomes_of, outcomes_then, texts}

-- ---- what arrived

pub Arrive-then : (a b c : Option (List Arrival)) (xs ys : List Arrival) → Arrive a b xs
    → Arrive b c ys → Arrive a c (xs ++ ys)
Arrive-then None b c xs ys h k = tt
Arrive-then (Some ps) b c xs ys h k =
    subst (λ (o : Option (List Arrival)). Arrive o c ys) h k
    ∙ ap Some (append_assoc ps xs ys)

pub Arrive-nothing : (a : Option (List Arrival)) → Arrive a a []
Arrive-nothing None = tt
Arrive-nothing (Some xs) = ap Some (sym (append-nil xs))

pub file-append : (xs ys : List Arrival) → file_of (xs ++ ys) ≡ file_of xs ++ file_of ys
file-append [] ys = refl
file-append (Requests bytes ∷ xs) ys = file-append xs ys
file-append (Ended ∷ xs) ys = file-append xs ys
file-append (Gained bytes ∷ xs) ys =
    ap (λ l. bytes ++ l) (file-append xs ys)
    ∙ sym (append_assoc bytes (file_of xs) (file_of ys))

-- a read and a look
abbrev pub round_of : List ℕ → List ℕ → List Arrival
round_of bytes new_bytes = arrival_of bytes ∷ Gained new_bytes ∷ []

pub file-round : (bytes new_bytes : List ℕ) → file_of (round_of bytes new_bytes) ≡ new_bytes
file-round [] new_bytes = append-nil new_bytes
file-round (b ∷ bs) new_bytes = append-nil new_bytes

-- ---- the outcomes

module _ (rules : ServeRules) (limits : Limits) where
  pub outcomes-read : (file pending_bytes bytes : List ℕ) (more : List Arrival)
      → outcomes_of rules limits file pending_bytes (arrival_of bytes ∷ more)
      ≡ outcomes_of rules limits file (pending_after pending_bytes bytes) more
  outcomes-read file pending_bytes [] more = refl
  outcomes-read file pending_bytes (b ∷ bs) more = refl

  -- by a round whose look shows this object
  pub outcomes-round : (file pending_bytes bytes new_bytes : List ℕ) (s : ObjectState)
      (more : List Arrival)
      → journal_object limits (file ++ new_bytes) ≡ Ok s
      → outcomes_of rules limits file pending_bytes (round_of bytes new_bytes ++ more)
      ≡ outcomes rules s (ended_bytes (pending_after pending_bytes bytes))
      ++ outcomes_of rules limits (file ++ new_bytes)
      (unended_bytes (pending_after pending_bytes bytes))
      more
  outcomes-round file pending_bytes bytes new_bytes s more is =
      let w = pending_after pending_bytes bytes in
      outcomes-read file pending_bytes bytes (Gained new_bytes ∷ more)
      ∙ ap (λ r. outcomes_then rules r (ended_bytes w)
      (outcomes_of rules limits (file ++ new_bytes) (unended_bytes w) more)) is

  -- by one whose look shows a line that is refused
  pub outcomes-refused : (file pending_bytes bytes new_bytes : List ℕ) (e : ℕ × LineFault)
      → journal_object limits (file ++ new_bytes) ≡ Err e
      → outcomes_of rules limits file pending_bytes (round_of bytes new_bytes) ≡ []
  outcomes-refused file pending_bytes bytes new_bytes e is =
      let w = pending_after pending_bytes bytes in
      outcomes-read file pending_bytes bytes (Gained new_bytes ∷ [])
      ∙ ap (λ r. outcomes_then rules r (ended_bytes w)
      (outcomes_of rules limits (file ++ new_bytes) (unended_bytes w) [])) is

texts-append : (xs ys : List Outcome) → texts (xs ++ ys) ≡ texts xs ++ texts ys
texts-append xs ys = flat_map-append reply_line xs ys

-- ---- what was written

module _ (initial old new : Option (List ℕ)) (before : List Outcome)
    (written : Appends initial old (texts before)) where
  front : (more : List Outcome) (n : ℕ)
      → take (length before + n) (before ++ more) ≡ before ++ take n more
  front more n = take-append-add before more n

  front_texts : (more : List Outcome) (n : ℕ) → texts (take (length before + n) (before ++ more))
      ≡ texts before ++ texts (take n more)
  front_texts more n = ap texts (front more n) ∙ texts-append before (take n more)

  pub all-after : (more : List Outcome) (n : ℕ) → WritesAll more old new n
      → WritesAll (before ++ more) initial new (length before + n)
  all-after more n h = record {
    count = omega (arith, h.count, length-append before more);
    written =
        subst (Appends initial new) (sym (texts-append before more))
        (Appends-then initial old new (texts before) (texts more) written h.written);
  }

  pub first-after : (more : List Outcome) (n : ℕ) → WritesFirst more old new n
      → WritesFirst (before ++ more) initial new (length before + n)
  first-after more n h = record {
    enough = omega (arith, h.enough, length-append before more);
    written =
        subst (Appends initial new) (sym (front_texts more n))
        (Appends-then initial old new (texts before) (texts (take n more)) written h.written);
  }

  pub in_part-after : (more : List Outcome) (n : ℕ) → WritesInPart more old new n
      → WritesInPart (before ++ more) initial new (length before + n)
  in_part-after more n h =
      let size : (k : ℕ) → length (texts (take (length before + k) (before ++ more)))
      ≡ length (texts before) + length (texts (take k more)) =
      λ k. ap length (front_texts more k) ∙ length-append (texts before) (texts (take k more)) in
      record {
        bytes = length (texts before) + h.bytes;
        enough = omega (arith, h.enough, length-append before more);
        written =
            subst (Appends initial new)
            (sym (ap (take (length (texts before) + h.bytes)) (texts-append before more)
            ∙ take-append-add (texts before) (texts more) h.bytes))
            (Appends-then initial old new (texts before) (take h.bytes (texts more)) written
            h.written);
        whole = omega (arith, size n, h.whole);
        no_more = λ less.
            let next : length before + (n + 1) ≡ length before + n + 1 = omega arith in
            subst
            (λ (k : ℕ). length (texts before) + h.bytes
            < length (texts (take k (before ++ more))))
            next
            (omega (
              arith,
              size (n + 1),
              h.no_more (omega (arith, less, length-append before more)),
            ));
      }

  pub first_refused-after : (more : List Outcome) (n : ℕ)
      → All (λ outcome. is_refused outcome ≡ false) before
      → IsFirstRefused more n → IsFirstRefused (before ++ more) (length before + n)
  first_refused-after more n none h = record {
    before = before ++ h.before;
    last = h.last;
    split =
        front more n
        ∙ (ap (λ l. before ++ l) h.split ∙ sym (append_assoc before h.before (h.last ∷ [])));
    none = All-append (λ outcome. is_refused outcome ≡ false) before h.before none h.none;
    refused = h.refused;
  }
