-- How the lines of a text are answered from an object that no line changes.
use Rattle.std.proofs.Common.{◌≡◌, ◌∙◌, ◌+◌, ◌≤◌, ℕ, Bool, true, false, List, [], ◌∷◌, ◌++◌}
use Rattle.std.proofs.Common.{take, None}
use Rattle.std.proofs.Common.{length, map, Option, Some, Result, Ok, Err, IfSome, refl, sym, ap}
use Rattle.std.proofs.Common.{subst}
use Rattle.std.proofs.Common.{arith, inl, inr, ⊎_elim}
use Rattle.std.proofs.lemmas.List.{length-map, map-append, take-map}
use Rattle.std.proofs.lemmas.List.Concat.{flat_map-cons}
use Rattle.std.proofs.lemmas.List.Elements.{All-nil, All-cons}
use Rattle.std.specs.List.{All}
use Rattle.std.specs.Io.KnownBytes.{Appends}
use Rattle.std.specs.declared.convert.Infallible.{Infallible}
use Rattle.osn_core.specs.Sequential.{ObjectState}
use Rattle.osn_request.specs.Version.{newest_version}
use Rattle.osn_request.specs.declared.wire_fault.WireFault.{WireFault}
use Rattle.osn_lines.specs.Faults.{IsReadFault}
use Rattle.osn_lines.specs.Lines.{lines}
use Rattle.osn_lines.specs.Streams.{Input, Output}
use Rattle.osn_service.specs.Outcome.{is_refused}
use Rattle.osn_service.specs.ReplyText.{reply_line}
use Rattle.osn_service.specs.declared.outcome.Outcome.{Outcome}
use Rattle.osn_request.specs.declared.request.Request.{Request}
use Rattle.osn_request.specs.declared.request.Request.TheVariants.{Stage, Publish, Ask}
use Rattle.osn_request.specs.Request.{request}
use Rattle.osn_service.specs.Refusals.{IsFirstRefused as IsFirst, NoneRefused}
use Rattle.osn_service.specs.Served as served
use Rattle.osn_service.specs.Served.{after_lines, outputs}
use Rattle.osn_service.specs.Serves.{RefusesNone, Serves, ServesStore, ServesToRefusal}
use Rattle.osn_service.specs.Session.{after_unless, allowed_request, line_after, line_outcome}
use Rattle.osn_service.specs.Session.{refused_member, state_after}
use Rattle.osn_service.specs.Faults.{MatchServed}
use Rattle.osn_service.specs.declared.fault.ServeFault.{ServeFault}
use Rattle.osn_service.specs.declared.fault.ServeFault.TheVariants.{NoMemory, ReadFault, WriteFault}
use Rattle.osn_service.specs.declared.fault.ServiceFault.TheVariants.{Serve}
use Rattle.osn_service.specs.declared.rules.ServeRules.{ServeRules}
use Rattle.osn_service.specs.declared.service.Served.{Served}
use Rattle.osn_journal.specs.Follows.{WritesAll, WritesFirst, WritesInPart, IsFirstRefused}
use Rattle.osn_journal.specs.Follows.{HasNoRefusal}
use Rattle.osn_journal.specs.RoundInside.{Answers}
use Rattle.osn_journal.specs.Outcomes.{outcomes, texts}

-- ---- lines that change nothing

leaves : (takes_sources : Bool) (s : ObjectState) (r : Result Request WireFault)
    → state_after s (allowed_request true takes_sources r) ≡ s
leaves takes_sources s (Ok (Stage edit)) = refl
leaves takes_sources s (Ok Publish) = refl
leaves takes_sources s (Ok (Ask reader query)) = refl
leaves takes_sources s (Err fault) = refl

unless_same : (refused : Option (List ℕ)) (s t : ObjectState) → t ≡ s
    → after_unless refused s t ≡ s
unless_same None s t h = h
unless_same (Some name) s t h = refl

module _ (rules : ServeRules) (s : ObjectState) (reads : rules.read_only ≡ true) where
  stays : (line : List ℕ) → line_after rules s line ≡ s
  stays line =
      let asked = request newest_version rules.readers line in
      unless_same (refused_member rules line) s _
      (ap (λ b. state_after s (allowed_request b rules.takes_sources asked)) reads
      ∙ leaves rules.takes_sources s asked)

  stays_all : (ls : List (List ℕ)) → after_lines rules s ls ≡ s
  stays_all [] = refl
  stays_all (l ∷ ls) = ap (λ t. after_lines rules t ls) (stays l) ∙ stays_all ls

  abbrev line_outcomes : List (List ℕ) → List Outcome
  line_outcomes ls = map (line_outcome rules s) ls

  -- the output is the text of the replies to the lines
  output : (ls : List (List ℕ)) → outputs rules s ls ≡ texts (line_outcomes ls)
  output [] = refl
  output (l ∷ ls) =
      ap (λ t. reply_line (line_outcome rules s l) ++ outputs rules t ls) (stays l)
      ∙ (ap (λ t. reply_line (line_outcome rules s l) ++ t) (output ls)
      ∙ sym (flat_map-cons reply_line (line_outcome rules s l) (line_outcomes ls)))

  first_output : (ls : List (List ℕ)) (n : ℕ)
      → outputs rules s (take n ls) ≡ texts (take n (line_outcomes ls))
  first_output ls n =
      output (take n ls) ∙ ap texts (sym (take-map (line_outcome rules s) n ls))

  count : (ls : List (List ℕ)) → length (line_outcomes ls) ≡ length ls
  count ls = length-map ls (line_outcome rules s)

  none_refused : (ls : List (List ℕ)) → NoneRefused rules s ls
      → All (λ outcome. is_refused outcome ≡ false) (line_outcomes ls)
  none_refused [] h = All-nil (λ outcome. is_refused outcome ≡ false)
  none_refused (l ∷ ls) h =
      All-cons (λ outcome. is_refused outcome ≡ false) (line_outcome rules s l) (line_outcomes ls)
      h.0 (none_refused ls (subst (λ (t : ObjectState). NoneRefused rules t ls) (stays l) h.1))

  first_refused : (ls : List (List ℕ)) (n : ℕ) → IsFirst rules s ls n
      → IsFirstRefused (line_outcomes ls) n
  first_refused ls n h = record {
    before = line_outcomes h.before;
    last = line_outcome rules s h.line;
    split =
        take-map (line_outcome rules s) n ls
        ∙ (ap line_outcomes h.split ∙ map-append (line_outcome rules s) h.before (h.line ∷ []));
    none = none_refused h.before h.none;
    refused =
        subst (λ (t : ObjectState). is_refused (line_outcome rules t h.line) ≡ true)
        (stays_all h.before) h.refused;
  }

  -- ---- what was written

  all : (ls : List (List ℕ)) (old new : Option (List ℕ)) (n : ℕ)
      → served.WritesAll rules s old new ls n → WritesAll (line_outcomes ls) old new n
  all ls old new n h = record {
    count = h.count ∙ sym (count ls);
    written = subst (Appends old new) (output ls) h.written;
  }

  first : (ls : List (List ℕ)) (old new : Option (List ℕ)) (n : ℕ)
      → served.WritesFirst rules s old new ls n → WritesFirst (line_outcomes ls) old new n
  first ls old new n h = record {
    enough = omega (arith, h.enough, count ls);
    written = subst (Appends old new) (first_output ls n) h.written;
  }

  in_part : (ls : List (List ℕ)) (old new : Option (List ℕ)) (n : ℕ)
      → served.WritesInPart rules s old new ls n → WritesInPart (line_outcomes ls) old new n
  in_part ls old new n h = record {
    bytes = h.bytes;
    enough = omega (arith, h.enough, count ls);
    written = subst (λ (l : List ℕ). Appends old new (take h.bytes l)) (output ls) h.written;
    whole = omega (arith, h.whole, ap length (first_output ls n));
    no_more = λ less.
        omega (
          arith,
          h.no_more (omega (arith, less, count ls)),
          ap length (first_output ls (n + 1)),
        );
  }

  module _ (t : ObjectState) (text : List ℕ) (i : Input) (o : Output)
      (known : i.bytes ≡ Some text) (sound : i.unread ≡ false) (few : length text ≤ 196608) where
    -- a fact of the known bytes
    of_text : (P : List ℕ → Type 0) → IfSome i.bytes P → P text
    of_text P h = subst (λ (b : Option (List ℕ)). IfSome b P) known h

    -- ---- the object stays, and the replies were written

    pub same_ok : (done : Served) → ServesStore {F = Infallible} rules s t i o (Ok done) → t ≡ s
    same_ok done h = by_end done.refused h
      where
        by_end : (b : Bool)
            → MatchServed b (λ n. Serves rules s t i o (Ok n) × RefusesNone rules s i (Ok n))
            (ServesToRefusal rules s t i o) done.lines → t ≡ s
        by_end false h = of_text _ h.0.object ∙ stays_all (lines text)
        by_end true h = of_text _ h.object ∙ stays_all (take done.lines (lines text))

    pub answers_ok : (done : Served) → ServesStore {F = Infallible} rules s t i o (Ok done)
        → Answers rules s text o.old o.new (Ok done)
    answers_ok done h = by_end done.refused h
      where
        by_end : (b : Bool)
            → MatchServed b (λ n. Serves rules s t i o (Ok n) × RefusesNone rules s i (Ok n))
            (ServesToRefusal rules s t i o) done.lines
            → MatchServed b
            (λ n. WritesAll (outcomes rules s text) o.old o.new n
            × HasNoRefusal rules (outcomes rules s text))
            (λ n. WritesFirst (outcomes rules s text) o.old o.new n
            × IsFirstRefused (outcomes rules s text) n × (rules.stop_at_refusal ≡ true))
            done.lines
        by_end false h = (
          all (lines text) o.old o.new done.lines (of_text _ h.0.written),
          λ stop. none_refused (lines text) (of_text _ (h.1 stop)),
        )
        by_end true h = (
          first (lines text) o.old o.new done.lines (of_text _ h.written),
          first_refused (lines text) done.lines (of_text _ h.first),
          h.stops_at_refusal,
        )

    pub same_err : (n : ℕ) (why : ServeFault)
        → ServesStore {F = Infallible} rules s t i o (Err (record { lines = n; cause = Serve why }))
        → t ≡ s
    same_err n NoMemory h = of_text _ h.0.object ∙ stays_all (take n (lines text))
    same_err n ReadFault h = of_text _ h.0.object ∙ stays_all (take n (lines text))
    same_err n WriteFault h =
        ⊎_elim
        (λ e. e ∙ stays_all (take n (lines text)))
        (λ e. e ∙ stays_all (take (n + 1) (lines text)))
        (of_text _ h.0.object)

    pub answers_err : (n : ℕ) (why : ServeFault)
        → ServesStore {F = Infallible} rules s t i o (Err (record { lines = n; cause = Serve why }))
        → Answers rules s text o.old o.new (Err (record { lines = n; cause = why }))
    answers_err n NoMemory h = first (lines text) o.old o.new n (of_text _ h.0.written)
    answers_err n ReadFault h = read_all_of i.unread sound h.0.source
      where
        read_all_of : (b : Bool) → b ≡ false → IsReadFault b i.bytes → ⊥
        read_all_of b is (inl failed) = absurd (cc)
        read_all_of b is (inr long) = absurd (omega (arith, few, of_text _ long))
    answers_err n WriteFault h = in_part (lines text) o.old o.new n (of_text _ h.0.written)

    -- ---- how many

    pub few_ok : (done : Served) → ServesStore {F = Infallible} rules s t i o (Ok done)
        → ((ls : List ℕ) → length (lines ls) ≤ length ls) → done.lines ≤ 196608
    few_ok done h least = by_end done.refused (answers_ok done h)
      where
        by_end : (b : Bool)
            → MatchServed b
            (λ n. WritesAll (outcomes rules s text) o.old o.new n
            × HasNoRefusal rules (outcomes rules s text))
            (λ n. WritesFirst (outcomes rules s text) o.old o.new n
            × IsFirstRefused (outcomes rules s text) n × (rules.stop_at_refusal ≡ true))
            done.lines → done.lines ≤ 196608
        by_end false h = omega (arith, h.0.count, count (lines text), least text, few)
        by_end true h = omega (arith, h.0.enough, count (lines text), least text, few)

    pub few_err : (n : ℕ) (why : ServeFault)
        → ServesStore {F = Infallible} rules s t i o (Err (record { lines = n; cause = Serve why }))
        → ((ls : List ℕ) → length (lines ls) ≤ length ls) → n ≤ 196608
    few_err n NoMemory h least =
        omega (arith, (answers_err n NoMemory h).enough, count (lines text), least text, few)
    few_err n ReadFault h least = absurd (answers_err n ReadFault h)
    few_err n WriteFault h least =
        omega (arith, (answers_err n WriteFault h).enough, count (lines text), least text, few)
