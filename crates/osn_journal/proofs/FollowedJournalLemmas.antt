-- What more lines make of a journal that is followed.
use Rattle.std.proofs.Common.{◌≡◌, ◌∙◌, ◌+◌, ◌<◌, ◌==◌, ℕ, zero, suc, Bool, true, false, List}
use Rattle.std.proofs.Common.{[], ◌∷◌, ◌++◌, length, cond, Option, Some, None, Result, Ok, Err}
use Rattle.std.proofs.Common.{IfSome}
use Rattle.std.proofs.Common.{refl, sym, ap, subst, arith, inl, inr, min, append-nil, append_assoc}
use Rattle.std.proofs.Common.{length-append}
use Rattle.std.proofs.lemmas.Bool.{eqb-true}
use Rattle.serde_json.specs.Data.{Data}
use Rattle.osn_days.specs.Rules.{newest_rules}
use Rattle.osn_core.specs.Sequential.{ObjectState}
use Rattle.osn_register.specs.declared.limits.Limits.{Limits}
use Rattle.osn_lines.specs.LastLineFeed.{with_byte, ended_length}
use Rattle.osn_lines.specs.Faults.{IsReadFault}
use Rattle.osn_lines.specs.Lines.{lines, onto_first, EndsWithFeed}
use Rattle.osn_lines.proofs.EndedLemmas.{ended-within}
use Rattle.osn_lines.proofs.FeedLemmas as feed
use Rattle.osn_request.specs.declared.version.Version.{Version}
use Rattle.osn_request.specs.Request.{object_of}
use Rattle.osn_files.specs.Journal.{after_object, load}
use Rattle.osn_files.specs.LoadedText.{IsOfVersion}
use Rattle.osn_files.specs.Turns.{on_read, go_on, in_turn}
use Rattle.osn_files.specs.Faults.{MatchFileFault}
use Rattle.osn_files.specs.declared.fault.FileFault.{FileFault}
use Rattle.osn_files.specs.declared.fault.FileFault.TheVariants.{BadLine, NoMemory, ReadFault}
use Rattle.osn_files.specs.declared.fault.LineFault.{LineFault}
use Rattle.osn_files.specs.declared.fault.Role.{Role}
use Rattle.osn_files.specs.declared.fault.Role.TheVariants.{Journal}
use Rattle.osn_files.specs.declared.journal.JournalPart.{JournalPart}
use Rattle.osn_folder.specs.FollowedFile.{IsOfWholeLines}
use Rattle.osn_journal.specs.declared.followed_journal.FollowedJournal.{FollowedJournal}
use Rattle.osn_journal.specs.FollowerInside.{IsJournalOf}
use Rattle.osn_journal.specs.Follows.{IsRefused}
use Rattle.osn_journal.specs.FollowedJournalInside.{later, journal_after, up_to_most}
use Rattle.osn_journal.specs.Outcomes as specs

-- ---- lines in turn

-- what a line makes that has no fault
pub record Goes {S T : Type 0} (r : Result S LineFault) (next : S → Result T (ℕ × LineFault))
    (t : T) : Type 0 where
  pub now : S
  pub is : r ≡ Ok now
  pub rest : next now ≡ Ok t

pub goes : {S T : Type 0} (n : ℕ) (r : Result S LineFault) (next : S → Result T (ℕ × LineFault))
    (t : T) → go_on n r next ≡ Ok t → Goes r next t
goes n (Ok s) next t h = record { now = s; is = refl; rest = h }
goes n (Err f) next t h = absurd (cc)

-- a fault of a line this many lines later
abbrev further : {T : Type 0} → ℕ → Result T (ℕ × LineFault) → Result T (ℕ × LineFault)
further d (Ok t) = Ok t
further d (Err e) = Err (e.0 + d, e.1)

shift_line : {S T : Type 0} (d m : ℕ) (e : ℕ × LineFault) (r : Result S LineFault)
    (next more : S → Result T (ℕ × LineFault))
    → ((s : S) → next s ≡ Err e → more s ≡ Err (e.0 + d, e.1))
    → go_on m r next ≡ Err e → go_on (m + d) r more ≡ Err (e.0 + d, e.1)
shift_line d m e (Ok s) next more each h = each s h
shift_line d m e (Err f) next more each h = ap (further d) h

module _ {S : Type 0} (step : Version → S → Data → Result S LineFault) where
  -- more lines continue from what the lines before them made, however lines are counted
  pub goes_on_from : (m n : ℕ) (version : Version) (s t : S) (xs ys : List (List ℕ))
      → in_turn step m (Some version) s xs ≡ Ok t
      → in_turn step n (Some version) s (xs ++ ys)
      ≡ in_turn step (n + length xs) (Some version) t ys
  goes_on_from m n version s t [] ys h =
      let same : s ≡ t = cc in
      ap (λ u. in_turn step n (Some version) u ys) same
      ∙ ap (λ k. in_turn step k (Some version) t ys) (omega arith)
  goes_on_from m n version s t (x ∷ xs) ys h =
      let first =
      goes m (on_read (object_of x) (step version s))
      (λ u. in_turn step (m + 1) (Some version) u xs) t h in
      ap (λ r. go_on n r (λ u. in_turn step (n + 1) (Some version) u (xs ++ ys))) first.is
      ∙ (goes_on_from (m + 1) (n + 1) version first.now t xs ys first.rest
      ∙ ap (λ k. in_turn step k (Some version) t ys) (omega arith))

  -- a fault is at a later line if more lines come before
  pub refused_later : (d m : ℕ) (version : Version) (s : S) (xs : List (List ℕ))
      (e : ℕ × LineFault) → in_turn step m (Some version) s xs ≡ Err e
      → in_turn step (m + d) (Some version) s xs ≡ Err (e.0 + d, e.1)
  refused_later d m version s [] e h = absurd (cc)
  refused_later d m version s (x ∷ xs) e h =
      shift_line d m e (on_read (object_of x) (step version s))
      (λ u. in_turn step (m + 1) (Some version) u xs)
      (λ u. in_turn step (m + d + 1) (Some version) u xs)
      (λ u k.
      ap (λ i. in_turn step i (Some version) u xs) (omega arith)
      ∙ refused_later d (m + 1) version u xs e k)
      h

-- ---- texts of whole lines

-- one that is not empty ends with a line feed
ends : (bytes : List ℕ) → IsOfWholeLines bytes → 0 < length bytes → EndsWithFeed bytes
ends [] whole some = absurd (omega (arith, some))
ends (b ∷ bs) whole some = by_rest (ended_length bs) refl whole (ends bs)
  where
    by_byte : (t : Bool) → (b == 10) ≡ t → cond t 1 0 ≡ suc (length bs) → EndsWithFeed (b ∷ bs)
    by_byte true is h = ([], ap (λ c. c ∷ bs) (eqb-true b 10 is) ∙ ap (λ l. 10 ∷ l) (none bs h))
      where
        none : (l : List ℕ) → 1 ≡ suc (length l) → l ≡ []
        none [] e = refl
        none (c ∷ cs) e = absurd (omega (arith, e))
    by_byte false is h = absurd (omega (arith, h))

    by_rest : (n : ℕ) → ended_length bs ≡ n → with_byte b n ≡ suc (length bs)
        → (IsOfWholeLines bs → 0 < length bs → EndsWithFeed bs) → EndsWithFeed (b ∷ bs)
    by_rest zero e h more = by_byte (b == 10) refl h
    by_rest (suc m) e h more =
        let rest = more (e ∙ omega (arith, h)) (omega (arith, h)) in
        (b ∷ rest.0, ap (λ l. b ∷ l) rest.1)

-- the lines of two texts, the first of which is of whole lines
pub lines-whole : (xs ys : List ℕ) → IsOfWholeLines xs → lines (xs ++ ys) ≡ lines xs ++ lines ys
lines-whole [] ys whole = refl
lines-whole (x ∷ xs) ys whole =
    feed.lines-append (x ∷ xs) ys (ends (x ∷ xs) whole (omega arith))

pub whole-append : (xs ys : List ℕ) → IsOfWholeLines xs → IsOfWholeLines ys
    → IsOfWholeLines (xs ++ ys)
whole-append xs [] whole more =
    subst IsOfWholeLines (sym (append-nil xs)) whole
whole-append xs (y ∷ ys) whole more =
    ended-within xs (y ∷ ys) (length ys) more
    ∙ omega (arith, length-append xs (y ∷ ys))

-- there is one, if there are bytes
record Some_lines (ls : List (List ℕ)) : Type 0 where
  head : List ℕ
  rest : List (List ℕ)
  is : ls ≡ head ∷ rest

some_lines : (bytes : List ℕ) → 0 < length bytes → Some_lines (lines bytes)
some_lines [] some = absurd (omega (arith, some))
some_lines (b ∷ bs) some = by_byte (b == 10)
  where
    onto : (ls : List (List ℕ)) → Some_lines (onto_first b ls)
    onto [] = record { head = b ∷ []; rest = []; is = refl }
    onto (l ∷ ls) = record { head = b ∷ l; rest = ls; is = refl }

    by_byte : (t : Bool) → Some_lines (cond t ([] ∷ lines bs) (onto_first b (lines bs)))
    by_byte true = record { head = []; rest = lines bs; is = refl }
    by_byte false = onto (lines bs)

-- such lines are loaded
loaded : (limits : Limits) (xs ys : List (List ℕ)) → Some_lines ys
    → specs.object_of limits (xs ++ ys) ≡ load newest_rules limits (xs ++ ys)
loaded limits [] ys some =
    ap (specs.object_of limits) some.is ∙ sym (ap (load newest_rules limits) some.is)
loaded limits (x ∷ xs) ys some = refl

-- ---- numbers

most_more : (n k j : ℕ) → j ≡ min n 18446744073709551615
    → up_to_most (j + k) ≡ min (n + k) 18446744073709551615
most_more n k j is = omega (arith, is)

most_later : (n k j : ℕ) → j ≡ min n 18446744073709551615
    → up_to_most (j + k) ≡ min (k + n) 18446744073709551615
most_later n k j is = omega (arith, is)

-- ---- the journal

-- what comes next continues from more lines
next_from : (limits : Limits) (file new_bytes : List ℕ) (j : FollowedJournal) (part : JournalPart)
    → IsJournalOf limits file j → Some_lines (lines new_bytes)
    → in_turn (after_object newest_rules) 1 j.version j.object (lines new_bytes) ≡ Ok part.object
    → (j.version ≡ None → IsOfVersion part.version (lines new_bytes))
    → IfSome j.version (λ known. part.version ≡ known) → (more : List (List ℕ))
    → in_turn (after_object newest_rules) (length (lines file) + 1) j.version j.object
    (lines new_bytes ++ more)
    ≡ in_turn (after_object newest_rules) (length (lines file) + length (lines new_bytes) + 1)
    (Some part.version) part.object more
next_from limits file new_bytes j part h some made head same more =
    by_version j.version (λ none. h.fresh none) made head same
  where
    headed : (ls : List (List ℕ)) → IsOfVersion part.version ls
        → in_turn (after_object newest_rules) 1 None j.object ls ≡ Ok part.object
        → in_turn (after_object newest_rules) 1 None j.object (ls ++ more)
        ≡ in_turn (after_object newest_rules) (length ls + 1) (Some part.version) part.object more
    headed [] is made = absurd is
    headed (l ∷ ls) is made =
        let by : (rest : List (List ℕ)) → in_turn (after_object newest_rules) 1 None j.object
        (l ∷ rest)
        ≡ in_turn (after_object newest_rules) 2 (Some part.version) j.object rest =
        λ rest. ap (λ r. go_on 1 (on_read r Ok)
        (λ version. in_turn (after_object newest_rules) 2 (Some version) j.object rest)) is in
        by (ls ++ more)
        ∙ (goes_on_from (after_object newest_rules) 2 2 part.version j.object part.object ls more
        (sym (by ls) ∙ made)
        ∙ ap (λ k. in_turn (after_object newest_rules) k (Some part.version) part.object more)
        (omega arith))

    by_version : (v : Option Version) → (v ≡ None → lines file ≡ [])
        → in_turn (after_object newest_rules) 1 v j.object (lines new_bytes) ≡ Ok part.object
        → (v ≡ None → IsOfVersion part.version (lines new_bytes))
        → IfSome v (λ known. part.version ≡ known)
        → in_turn (after_object newest_rules) (length (lines file) + 1) v j.object
        (lines new_bytes ++ more)
        ≡ in_turn (after_object newest_rules) (length (lines file) + length (lines new_bytes) + 1)
        (Some part.version)
        part.object more
    by_version None fresh made head same =
        let none : length (lines file) ≡ 0 = ap length (fresh refl) in
        ap (λ k. in_turn (after_object newest_rules) k None j.object (lines new_bytes ++ more))
        (omega (arith, none))
        ∙ (headed (lines new_bytes) (head refl) made
        ∙ ap (λ k. in_turn (after_object newest_rules) k (Some part.version) part.object more)
        (omega (arith, none)))
    by_version (Some v) fresh made head same =
        goes_on_from (after_object newest_rules) 1 (length (lines file) + 1) v j.object part.object
        (lines new_bytes) more
        made
        ∙ (ap (λ k. in_turn (after_object newest_rules) k (Some v) part.object more) (omega arith)
        ∙ ap (λ w. in_turn (after_object newest_rules)
        (length (lines file) + length (lines new_bytes) + 1) (Some w)
        part.object more) (sym same))

-- more lines were loaded
pub IsJournalOf-more : (limits : Limits) (file new_bytes : List ℕ) (j : FollowedJournal)
    (part : JournalPart) → IsJournalOf limits file j → IsOfWholeLines new_bytes
    → 0 < length new_bytes
    → in_turn (after_object newest_rules) 1 j.version j.object (lines new_bytes) ≡ Ok part.object
    → part.lines ≡ length (lines new_bytes)
    → (j.version ≡ None → IsOfVersion part.version (lines new_bytes))
    → IfSome j.version (λ known. part.version ≡ known)
    → IsJournalOf limits (file ++ new_bytes) (journal_after j part)
IsJournalOf-more limits file new_bytes j part h whole some made count head same =
    let ls = some_lines new_bytes some in
    let step = after_object newest_rules in
    let cut = lines-whole file new_bytes h.whole in
    let size : length (lines (file ++ new_bytes)) ≡ length (lines file) + length (lines new_bytes) =
    ap length cut ∙ length-append (lines file) (lines new_bytes) in
    let next = next_from limits file new_bytes j part h ls made head same in
    let goes : (more : List (List ℕ)) → load newest_rules limits (lines (file ++ new_bytes) ++ more)
    ≡ in_turn step (length (lines file) + length (lines new_bytes) + 1) (Some part.version)
    part.object more =
    λ more.
    ap (λ l. load newest_rules limits (l ++ more)) cut
    ∙ (ap (load newest_rules limits) (append_assoc (lines file) (lines new_bytes) more)
    ∙ (h.goes_on (lines new_bytes ++ more) ∙ next more)) in
    record {
      whole = whole-append file new_bytes h.whole whole;
      object =
          ap (specs.object_of limits) cut
          ∙ (loaded limits (lines file) (lines new_bytes) ls
          ∙ (ap (load newest_rules limits) (sym cut)
          ∙ (ap (load newest_rules limits) (sym (append-nil (lines (file ++ new_bytes))))
          ∙ goes [])));
      fresh = λ none. absurd (cc);
      goes_on = λ more.
          goes more
          ∙ ap (λ k. in_turn step (k + 1) (Some part.version) part.object more) (sym size);
      count =
          most_more (length (lines file)) part.lines j.lines h.count
          ∙ ap (λ k. min k 18446744073709551615) (ap (λ k. length (lines file) + k) count ∙ sym
          size);
    }

-- a line is refused
pub IsRefused-more : (limits : Limits) (file new_bytes : List ℕ) (j : FollowedJournal) (line : ℕ)
    (why : LineFault) → IsJournalOf limits file j → 0 < length new_bytes
    → in_turn (after_object newest_rules) 1 j.version j.object (lines new_bytes) ≡ Err (line, why)
    → IsRefused limits (file ++ new_bytes) (later (BadLine Journal line why) j.lines)
IsRefused-more limits file new_bytes j line why h some refused =
    let ls = some_lines new_bytes some in
    let cut = lines-whole file new_bytes h.whole in
    let n = length (lines file) in (
      refl,
      line + n,
      ap (specs.object_of limits) cut
          ∙ (loaded limits (lines file) (lines new_bytes) ls
          ∙ (h.goes_on (lines new_bytes) ∙ by_version j.version (λ none. h.fresh none) refused)),
      most_later n line j.lines h.count,
    )
  where
    by_version : (v : Option Version) → (v ≡ None → lines file ≡ [])
        → in_turn (after_object newest_rules) 1 v j.object (lines new_bytes) ≡ Err (line, why)
        → in_turn (after_object newest_rules) (length (lines file) + 1) v j.object (lines new_bytes)
        ≡ Err (line + length (lines file), why)
    by_version None fresh refused =
        let none : length (lines file) ≡ 0 = ap length (fresh refl) in
        ap (λ k. in_turn (after_object newest_rules) k None j.object (lines new_bytes))
        (omega (arith, none))
        ∙ (refused ∙ ap (λ k. Err (k, why)) (omega (arith, none)))
    by_version (Some v) fresh refused =
        ap (λ k. in_turn (after_object newest_rules) k (Some v) j.object (lines new_bytes))
        (omega arith)
        ∙ refused_later (after_object newest_rules) (length (lines file)) 1 v j.object
        (lines new_bytes) (line, why) refused

-- the fault is that of a line, if there was memory
pub refused_by : (limits : Limits) (file new_bytes : List ℕ) (j : FollowedJournal)
    (fault : FileFault)
    (P Q : Type 0) → IsJournalOf limits file j → 0 < length new_bytes → (fault ≡ ReadFault → ⊥)
    → MatchFileFault fault P Q (λ role line why. (role ≡ Journal)
    × (in_turn (after_object newest_rules) 1 j.version j.object (lines new_bytes)
    ≡ Err (line, why)))
    → (later fault j.lines ≡ NoMemory → ⊥)
    → IsRefused limits (file ++ new_bytes) (later fault j.lines)
refused_by limits file new_bytes j NoMemory P Q h some reads at memory = absurd (memory refl)
refused_by limits file new_bytes j ReadFault P Q h some reads at memory = absurd (reads refl)
refused_by limits file new_bytes j (BadLine role line why) P Q h some reads at memory =
    subst (λ (r : Role). IsRefused limits (file ++ new_bytes) (later (BadLine r line why) j.lines))
    (sym at.0) (IsRefused-more limits file new_bytes j line why h some at.1)

-- what is not empty has a byte
pub some_bytes : (bytes : List ℕ) → (length bytes == 0) ≡ false → 0 < length bytes
some_bytes [] is = absurd (cc)
some_bytes (b ∷ bs) is = omega arith

-- bytes in memory are read to their end
pub never_read : (fault : FileFault) (new_bytes held : List ℕ) (old new : Bool) → held ≡ new_bytes
    → length new_bytes < 4294967295 → MatchFileFault fault (new ≡ old)
    (IsReadFault false (Some held)) (λ role line why. new ≡ old)
    → fault ≡ ReadFault → ⊥
never_read NoMemory new_bytes held old new is few h e = absurd (cc)
never_read ReadFault new_bytes held old new is few (inl failed) e = absurd (cc)
never_read ReadFault new_bytes held old new is few (inr long) e =
    absurd (omega (arith, few, long, ap length is))
never_read (BadLine role line why) new_bytes held old new is few h e = absurd (cc)

-- a rule's fault, for the object and the lines that were given
pub with_rule : (fault : FileFault) (version : Option Version) (s t : ObjectState)
    (held new_bytes : List ℕ) (P Q : Type 0) → s ≡ t → held ≡ new_bytes
    → MatchFileFault fault P Q (λ role line why. (role ≡ Journal)
    × (in_turn (after_object newest_rules) 1 version s (lines held) ≡ Err (line, why)))
    → MatchFileFault fault P Q (λ role line why. (role ≡ Journal)
    × (in_turn (after_object newest_rules) 1 version t (lines new_bytes) ≡ Err (line, why)))
with_rule NoMemory version s t held new_bytes P Q same is h = h
with_rule ReadFault version s t held new_bytes P Q same is h = h
with_rule (BadLine role line why) version s t held new_bytes P Q same is h = (
  h.0,
  subst (λ (u : ObjectState). in_turn (after_object newest_rules) 1 version u (lines new_bytes)
      ≡ Err (line, why)) same
      (subst (λ (l : List ℕ). in_turn (after_object newest_rules) 1 version s (lines l)
      ≡ Err (line, why)) is h.1),
)
