-- What the line of a change makes of a text that is loaded.
use Rattle.std.proofs.Common.{◌≡◌, ◌+◌, ◌∙◌, ℕ, List, [], ◌∷◌, ◌++◌}
use Rattle.std.proofs.Common.{Some, None, Result, Ok, Err, refl, sym, ap, subst, append-nil}
use Rattle.std.proofs.Common.{append_assoc}
use Rattle.serde_json.specs.Data.{Data}
use Rattle.serde_json.specs.Written.{compact_text}
use Rattle.osn_days.specs.Rules.{newest_rules}
use Rattle.osn_register.specs.declared.edit.Edit.{Edit}
use Rattle.osn_register.specs.declared.limits.Limits.{Limits}
use Rattle.osn_register.specs.Plain.{refusal}
use Rattle.osn_core.specs.Sequential.{ObjectState, IsSound, empty_object, with_pending}
use Rattle.osn_core.specs.Sequential.{with_edition}
use Rattle.osn_core.specs.Sequential.{draft_territories}
use Rattle.osn_lines.specs.Lines.{lines, EndsWithFeed}
use Rattle.osn_lines.proofs.FeedLemmas.{lines-append}
use Rattle.osn_request.specs.declared.version.Version.{Version}
use Rattle.osn_request.specs.declared.wire_fault.WireFault.{WireFault}
use Rattle.osn_request.specs.Request.{object_of}
use Rattle.osn_files.specs.declared.fault.LineFault.{LineFault}
use Rattle.osn_files.specs.Journal.{load, after_object, after_command}
use Rattle.osn_files.specs.Journal as journal
use Rattle.osn_files.specs.JournalText.{line_text, edit_data, publish_data, journal_text_of}
use Rattle.osn_files.specs.JournalText.{edits_text, batch_text, batches_text}
use Rattle.osn_files.specs.LoadedText.{HasEdits, IsOfVersion, IsJournalOf}
use Rattle.osn_files.specs.LoadedText.{LoadsByLines}
use Rattle.osn_files.specs.Turns.{on_read, go_on, in_turn}
use Rattle.osn_files.specs.Version.{head_data}
use Rattle.osn_files.proofs.CommandFacts.{IsLine, both_none}
use Rattle.osn_files.proofs.LawFacts.{load-journal_text_of}
use Rattle.osn_files.proofs.SaysFacts.{Says-lawful, Says-publish, IsLine-head, version_of-head}

-- ---- lines that are run in turn

-- what a line makes that has no fault
record Goes {S T : Type 0} (r : Result S LineFault) (next : S → Result T (ℕ × LineFault)) (t : T)
    : Type 0 where
  now : S
  is : r ≡ Ok now
  rest : next now ≡ Ok t

goes : {S T : Type 0} (n : ℕ) (r : Result S LineFault) (next : S → Result T (ℕ × LineFault))
    (t : T) → go_on n r next ≡ Ok t → Goes r next t
goes n (Ok s) next t h = record { now = s; is = refl; rest = h }
goes n (Err f) next t h = absurd (cc)

module _ {S : Type 0} (step : Version → S → Data → Result S LineFault) where
  -- a line more, after a head
  line_more : (n : ℕ) (version : Version) (s t u : S) (ls : List (List ℕ)) (line : List ℕ)
      → in_turn step n (Some version) s ls ≡ Ok t
      → on_read (object_of line) (step version t) ≡ Ok u
      → in_turn step n (Some version) s (ls ++ line ∷ []) ≡ Ok u
  line_more n version s t u [] line h one =
      let same : s ≡ t = cc in
      ap (λ r. go_on n r (λ v. in_turn step (n + 1) (Some version) v []))
      (ap (λ v. on_read (object_of line) (step version v)) same ∙ one)
  line_more n version s t u (l ∷ ls) line h one =
      let first =
      goes n (on_read (object_of l) (step version s))
      (λ v. in_turn step (n + 1) (Some version) v ls) t h in
      ap (λ r. go_on n r (λ v. in_turn step (n + 1) (Some version) v (ls ++ line ∷ []))) first.is
      ∙ line_more (n + 1) version first.now t u ls line first.rest one

  -- the value that the lines after a head make
  abbrev after_head : ℕ → S → List (List ℕ) → Result Version WireFault → Result S (ℕ × LineFault)
  after_head n s ls r =
      go_on n (on_read r Ok) (λ version. in_turn step (n + 1) (Some version) s ls)

  -- and with the head
  file_more : (n : ℕ) (version : Version) (s t u : S) (ls : List (List ℕ)) (line : List ℕ)
      → IsOfVersion version ls → in_turn step n None s ls ≡ Ok t
      → on_read (object_of line) (step version t) ≡ Ok u
      → in_turn step n None s (ls ++ line ∷ []) ≡ Ok u
  file_more n version s t u [] line head h one = absurd head
  file_more n version s t u (l ∷ ls) line head h one =
      ap (after_head n s (ls ++ line ∷ [])) head
      ∙ line_more (n + 1) version s t u ls line (sym (ap (after_head n s ls) head) ∙ h) one

-- ---- a text with a line more

IsOfVersion-more : (version : Version) (ls : List (List ℕ)) (line : List ℕ)
    → IsOfVersion version ls → IsOfVersion version (ls ++ line ∷ [])
IsOfVersion-more version [] line h = absurd h
IsOfVersion-more version (l ∷ ls) line h = h

-- a line ends with a line feed, after any text
ends_line : (text : List ℕ) (d : Data) → EndsWithFeed (text ++ line_text d)
unfolding line_text
ends_line text d =
    (text ++ compact_text d, sym (append_assoc text (compact_text d) (10 ∷ [])))

IsJournalOf-line : (version : Version) (limits : Limits) (s t : ObjectState) (text : List ℕ)
    (d : Data) → IsLine d → after_object newest_rules version s d ≡ Ok t
    → IsJournalOf version limits s text → IsJournalOf version limits t (text ++ line_text d)
IsJournalOf-line version limits s t text d line makes h =
    let one : lines (line_text d) ≡ compact_text d ∷ [] =
    ap lines (sym (append-nil (line_text d))) ∙ line.first [] in
    let cut : lines (text ++ line_text d) ≡ lines text ++ compact_text d ∷ [] =
    lines-append text (line_text d) h.ends ∙ ap (λ ls. lines text ++ ls) one in
    record {
      head =
          subst (IsOfVersion version) (sym cut)
          (IsOfVersion-more version (lines text) (compact_text d) h.head);
      ends = ends_line text d;
      loads =
          ap (load newest_rules limits) cut
          ∙ file_more (after_object newest_rules) 1 version (empty_object limits) s t (lines text)
          (compact_text d) h.head h.loads
          (ap (λ r. on_read r (after_object newest_rules version s)) line.object ∙ makes);
    }

-- ---- the line of a change

pub loads_by_lines : (version : Version) (limits : Limits) (s : ObjectState) (text : List ℕ)
    → IsJournalOf version limits s text → LoadsByLines version limits s text
loads_by_lines version limits s text h = record {
  edit = λ e has given lawful.
      let territories = draft_territories newest_rules s in
      let says =
      Says-lawful version s.limits territories e has given
      (both_none (refusal newest_rules s.limits territories e) _ lawful).0 in
      IsJournalOf-line version limits s (with_pending s e) text (edit_data e) says.line
      (ap (λ r. on_read r (after_command newest_rules s)) says.command
      ∙ ap (λ r. journal.unless_refused r (with_pending s e)) lawful)
      h;
  publish = λ lawful.
      IsJournalOf-line version limits s (with_edition s) text publish_data
      (Says-publish version).line
      (ap (λ r. journal.unless_refused r (with_edition s)) lawful) h;
}

-- ---- the text that is written

ends_edits : (text : List ℕ) (es : List Edit) → EndsWithFeed text
    → EndsWithFeed (text ++ edits_text es)
ends_edits text [] h = subst EndsWithFeed (sym (append-nil text)) h
ends_edits text (e ∷ es) h =
    let line = line_text (edit_data e) in
    subst EndsWithFeed (append_assoc text line (edits_text es))
    (ends_edits (text ++ line) es (ends_line text (edit_data e)))

ends_batches : (text : List ℕ) (bs : List (List Edit)) → EndsWithFeed text
    → EndsWithFeed (text ++ batches_text bs)
ends_batches text [] h = subst EndsWithFeed (sym (append-nil text)) h
ends_batches text (b ∷ bs) h =
    let published =
    subst EndsWithFeed (append_assoc text (edits_text b) (line_text publish_data))
    (ends_line (text ++ edits_text b) publish_data) in
    subst EndsWithFeed (append_assoc text (batch_text b) (batches_text bs))
    (ends_batches (text ++ batch_text b) bs published)

pub IsJournalOf-written : (version : Version) (s : ObjectState) → IsSound newest_rules s
    → HasEdits version s → IsJournalOf version s.limits s (journal_text_of version s)
IsJournalOf-written version s sound has =
    let head = line_text (head_data version) in
    let batches = batches_text s.batches in
    let edits = edits_text s.pending in
    record {
      head =
          subst (IsOfVersion version) (sym ((IsLine-head version).first (batches ++ edits)))
          (version_of-head version);
      ends =
          subst EndsWithFeed (append_assoc head batches edits)
          (ends_edits (head ++ batches) s.pending
          (ends_batches head s.batches (ends_line [] (head_data version))));
      loads = load-journal_text_of version s sound has;
    }
