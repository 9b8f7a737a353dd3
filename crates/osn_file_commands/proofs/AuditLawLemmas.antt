-- What lines that agree say: each is answered, and no reader's editions fall.
use Rattle.std.proofs.Common.{◌≡◌, ℕ, zero, suc, ◌+◌, ◌-◌, ◌<◌, ◌≤◌, ◌==◌, Bool, true, false, List}
use Rattle.std.proofs.Common.{[], ◌∷◌, ◌++◌, length, get_or, set, Result, Ok, Err, refl, sym, ap}
use Rattle.std.proofs.Common.{subst, ◌∙◌, arith, Option, Some, None, IfSome}
use Rattle.std.specs.Prelude.{nat_lt, not, ◌&&◌, if◌then◌else◌}
use Rattle.std.specs.List.{All}
use Rattle.std.specs.Str.{bytes_eq}
use Rattle.std.proofs.lemmas.Bool.{ltb-false, eqb-true}
use Rattle.std.proofs.lemmas.List.{length-set, get_or-set_same}
use Rattle.std.proofs.lemmas.Slice.Eq.{bytes_eq-Decides}
use Rattle.serde_json.specs.Data.{Data}
use Rattle.serde_json.specs.Written.{has_float}
use Rattle.osn_days.specs.Rules.{newest_rules}
use Rattle.osn_register.specs.declared.limits.Limits.{Limits}
use Rattle.osn_lines.specs.Lines.{lines}
use Rattle.osn_core.specs.History.{NeverFalls}
use Rattle.osn_core.specs.Sequential.{ObjectState}
use Rattle.osn_request.specs.declared.wire_fault.WireFault.{WireFault}
use Rattle.osn_request.specs.declared.wire_fault.WireFault.TheVariants.{WrongReply}
use Rattle.osn_request.specs.declared.wire_fault.WireFault.TheVariants.{UnknownEdition, EditionFell}
use Rattle.osn_request.specs.Field.{◌>>=◌}
use Rattle.osn_request.specs.Request.{object_of}
use Rattle.osn_request.specs.Version.{newest_version}
use Rattle.osn_service.specs.ReplyText.{line_of}
use Rattle.osn_files.specs.Journal.{load}
use Rattle.osn_files.specs.declared.fault.LineFault.{LineFault}
use Rattle.osn_files.specs.Turns.{on_read, go_on, in_turn}
use Rattle.osn_file_commands.specs.TranscriptAudit.{TranscriptLine, line_due, has_line, last_of}
use Rattle.osn_file_commands.specs.TranscriptAudit.{after_entry}
use Rattle.osn_file_commands.specs.TranscriptAudit.{entry_in}
use Rattle.osn_file_commands.specs.TranscriptAudit.{after_object, after_lines, no_replies}
use Rattle.osn_file_commands.specs.TranscriptAudit.{count_or_fault}
use Rattle.osn_file_commands.specs.TranscriptAudit.{agreed_lines}
use Rattle.osn_file_commands.specs.AuditLaw.{Agrees, entry_of, IsAnswered, edition_of_reply}
use Rattle.osn_file_commands.specs.AuditLaw.{editions_of_replies}
use Rattle.osn_file_commands.proofs.EntryLemmas.{EntryHasKnownReader, entry_known}

-- what an entry that agrees shows
record Holds (s : ObjectState) (last : List ℕ) (e : TranscriptLine) (next : List ℕ) : Type 0 where
  there : e.edition ≤ length s.batches
  forward : last_of last e.reader ≤ e.edition
  agrees : has_line e.reply (line_due s e) ≡ true
  next_is : set last (e.reader - 1) e.edition ≡ next

Holds-by : (s : ObjectState) (last : List ℕ) (e : TranscriptLine) (next : List ℕ)
    (a b c : Bool) → nat_lt (length s.batches) e.edition ≡ a
    → nat_lt e.edition (last_of last e.reader) ≡ b → has_line e.reply (line_due s e) ≡ c
    → ((if a then Err UnknownEdition else (if b then Err EditionFell else Ok e.edition))
    >>= λ edition. (if c then Ok e.reply else Err WrongReply)
    >>= λ reply. Ok (set last (e.reader - 1) e.edition)) ≡ Ok next
    → Holds s last e next
Holds-by s last e next true b c there forward agrees h = absurd (cc)
Holds-by s last e next false true c there forward agrees h = absurd (cc)
Holds-by s last e next false false false there forward agrees h = absurd (cc)
Holds-by s last e next false false true there forward agrees h = record {
  there = ltb-false (length s.batches) e.edition there;
  forward = ltb-false e.edition (last_of last e.reader) forward;
  agrees = agrees;
  next_is = cc;
}

Holds-entry : (s : ObjectState) (last : List ℕ) (e : TranscriptLine) (next : List ℕ)
    → after_entry s last e ≡ Ok next → Holds s last e next
Holds-entry s last e next h = Holds-by s last e next _ _ _ refl refl refl h

-- a reply that has a line has no float, and is written so
no_float_by : (a b : Bool) → (not a && b) ≡ true → a ≡ false
no_float_by true b h = absurd (cc)
no_float_by false b h = refl

written_by : (a b : Bool) → (not a && b) ≡ true → b ≡ true
written_by true b h = absurd (cc)
written_by false b h = h

-- numbers that never fall from a floor on never fall from a lower floor on
lower : (a b : ℕ) (ns : List ℕ) → a ≤ b → NeverFalls b ns → NeverFalls a ns
lower a b [] order h = tt
lower a b (n ∷ ns) order h = (omega (arith, order, h.0), h.1)

-- if a number replaces one that isn't greater, each is as great as before
set_up : (xs : List ℕ) (i j x : ℕ) → get_or xs i 0 ≤ x → get_or xs j 0 ≤ get_or (set xs i x) j 0
set_up [] i j x h = omega arith
set_up (y ∷ ys) zero zero x h = h
set_up (y ∷ ys) zero (suc j) x h = omega arith
set_up (y ∷ ys) (suc i) zero x h = omega arith
set_up (y ∷ ys) (suc i) (suc j) x h = set_up ys i j x h

All-cons : {A : Type 0} (P : A → Type 0) (x : A) (xs : List A) → P x → All P xs → All P (x ∷ xs)
All-cons P x xs h rest zero d within = h
All-cons P x xs h rest (suc k) d within = rest k d (omega (arith, within))

-- the lines are answered, and from the editions of the last replies on none falls
abbrev Follows : ObjectState → List ℕ → List (List ℕ) → Type 0
Follows s last ls =
    All (IsAnswered s) ls
    × ((reader : ℕ) → NeverFalls (last_of last reader) (editions_of_replies reader ls))

-- a reader's editions don't fall by an entry
forward_by : (reader : ℕ) (last : List ℕ) (e : TranscriptLine) (rest : List ℕ) (b : Bool)
    → (e.reader == reader) ≡ b → e.reader - 1 < length last
    → last_of last e.reader ≤ e.edition
    → NeverFalls (last_of (set last (e.reader - 1) e.edition) reader) rest
    → NeverFalls (last_of last reader) ((if b then e.edition ∷ [] else []) ++ rest)
forward_by reader last e rest true is within order h =
    let same : e.reader ≡ reader = eqb-true e.reader reader is in
    let now : last_of (set last (e.reader - 1) e.edition) reader ≡ e.edition =
    ap (λ r. last_of (set last (e.reader - 1) e.edition) r) (sym same)
    ∙ get_or-set_same last (e.reader - 1) e.edition 0 within in (
      subst (λ r. last_of last r ≤ e.edition) same order,
      subst (λ n. NeverFalls n rest) now h,
    )
forward_by reader last e rest false is within order h =
    lower (last_of last reader) (last_of (set last (e.reader - 1) e.edition) reader) rest
    (set_up last (e.reader - 1) (reader - 1) e.edition order) h

-- an entry that agrees, and what follows it
with_entry : (s : ObjectState) (last next line : List ℕ) (ls : List (List ℕ)) (e : TranscriptLine)
    → length last ≡ 64 → entry_of line ≡ Ok e → Holds s last e next
    → Follows s next ls → Follows s last (line ∷ ls)
with_entry s last next line ls e count says holds rest =
    let known = subst EntryHasKnownReader says (entry_known line) in
    let within : e.reader - 1 < length last = omega (arith, count, known.0, known.1) in (
      All-cons (IsAnswered s) line ls
          (record {
            entry = e;
            says = says;
            there = holds.there;
            no_float = no_float_by (has_float e.reply)
                (bytes_eq (line_of e.reply) (line_due s e)) holds.agrees;
            reply = (bytes_eq-Decides (line_of e.reply) (line_due s e)).0
                (written_by (has_float e.reply)
                (bytes_eq (line_of e.reply) (line_due s e)) holds.agrees);
          })
          rest.0,
      λ reader.
          subst
          (λ r. NeverFalls (last_of last reader)
          (edition_of_reply reader r ++ editions_of_replies reader ls))
          (sym says)
          (forward_by reader last e (editions_of_replies reader ls) _ refl within holds.forward
          (subst (λ l. NeverFalls (last_of l reader) (editions_of_replies reader ls))
          (sym holds.next_is) (rest.1 reader))),
    )

-- lines that agree from here on, if the first has this number
abbrev agree_from : ObjectState → ℕ → List ℕ → List (List ℕ) → Result (List ℕ) (ℕ × LineFault)
agree_from s k last ls = in_turn (after_object s) k (Some newest_version) last ls

entry_made : (s : ObjectState) (last : List ℕ) (r : Result Data WireFault)
    → on_read r (after_object s newest_version last)
    ≡ on_read (r >>= entry_in >>= after_entry s last) Ok
entry_made s last (Ok d) = refl
entry_made s last (Err f) = refl

by_next : (s : ObjectState) (k : ℕ) (last final line : List ℕ) (ls : List (List ℕ))
    (e : TranscriptLine) → length last ≡ 64 → entry_of line ≡ Ok e
    → ((next : List ℕ) → length next ≡ 64
    → agree_from s (k + 1) next ls ≡ Ok final → Follows s next ls)
    → (r : Result (List ℕ) WireFault) → after_entry s last e ≡ r
    → go_on k (on_read r Ok) (λ t. agree_from s (k + 1) t ls) ≡ Ok final
    → Follows s last (line ∷ ls)
by_next s k last final line ls e count says rest (Err f) is h = absurd (cc)
by_next s k last final line ls e count says rest (Ok next) is h =
    let holds = Holds-entry s last e next is in
    let counted : length next ≡ 64 =
    ap length (sym holds.next_is) ∙ (length-set last (e.reader - 1) e.edition ∙ count) in
    with_entry s last next line ls e count says holds (rest next counted h)

by_entry : (s : ObjectState) (k : ℕ) (last final line : List ℕ) (ls : List (List ℕ))
    → length last ≡ 64
    → ((next : List ℕ) → length next ≡ 64
    → agree_from s (k + 1) next ls ≡ Ok final → Follows s next ls)
    → (r : Result TranscriptLine WireFault) → entry_of line ≡ r
    → go_on k (on_read (r >>= after_entry s last) Ok) (λ t. agree_from s (k + 1) t ls) ≡ Ok final
    → Follows s last (line ∷ ls)
by_entry s k last final line ls count rest (Err f) is h = absurd (cc)
by_entry s k last final line ls count rest (Ok e) is h =
    by_next s k last final line ls e count is rest (after_entry s last e) refl h

none_follow : (s : ObjectState) (i : ℕ) (d : List ℕ) → i < 0
    → IsAnswered s (get_or [] i d)
none_follow s i d within = absurd (omega (arith, within))

pub follows : (s : ObjectState) (k : ℕ) (last final : List ℕ) (ls : List (List ℕ))
    → length last ≡ 64 → agree_from s k last ls ≡ Ok final → Follows s last ls
follows s k last final [] count h = (λ i d within. none_follow s i d within, λ reader. tt)
follows s k last final (line ∷ ls) count h =
    by_entry s k last final line ls count
    (λ next counted go. follows s (k + 1) next final ls counted go) (entry_of line) refl
    (sym (ap (λ r. go_on k r (λ t. agree_from s (k + 1) t ls))
    (entry_made s last (object_of line))) ∙ h)

agrees_by : (s : ObjectState) (ls : List (List ℕ)) (n : ℕ)
    (r : Result (List ℕ) (ℕ × LineFault)) → after_lines s ls ≡ r
    → count_or_fault (length ls) r ≡ Ok n → (n ≡ length ls) × Agrees s ls
agrees_by s ls n (Err f) is h = absurd (cc)
agrees_by s ls n (Ok final) is h =
    let all = follows s 1 no_replies final ls refl is in (
      cc,
      record {
        answered = all.0;
        forward = λ reader. lower 0 (last_of no_replies reader) (editions_of_replies reader ls)
            (omega arith) (all.1 reader);
      },
    )

-- what an audit without a fault says, if both inputs are known
pub agreed_on : (limits : Limits) (journal transcript : Option (List ℕ)) (s : ObjectState) (n : ℕ)
    → IfSome journal (λ edits. load newest_rules limits (lines edits) ≡ Ok s)
    → IfSome transcript (λ answers. agreed_lines s (lines answers) ≡ Ok n)
    → IfSome journal (λ edits. IfSome transcript (λ answers. (n ≡ length (lines answers))
    × (object : ObjectState) × (load newest_rules limits (lines edits) ≡ Ok object)
    × Agrees object (lines answers)))
agreed_on limits None transcript s n loaded agrees = tt
agreed_on limits (Some edits) None s n loaded agrees = tt
agreed_on limits (Some edits) (Some answers) s n loaded agrees =
    let all = agrees_by s (lines answers) n _ refl agrees in
    (all.0, s, loaded, all.1)
