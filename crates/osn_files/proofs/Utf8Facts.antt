-- The journal of an object is UTF-8, whichever version its head says.
use Rattle.std.proofs.Common.{List, [], ◌∷◌, ◌++◌, subst, append_assoc, IsUtf8}
use Rattle.std.specs.List.{All}
use Rattle.std.proofs.lemmas.List.Elements.{All-head, All-tail}
use Rattle.std.proofs.lemmas.Str.{IsUtf8-append, IsUtf8-nil}
use Rattle.osn_days.specs.Rules.{newest_rules}
use Rattle.osn_register.specs.declared.edit.Edit.{Edit}
use Rattle.osn_register.specs.declared.limits.Limits.{Limits}
use Rattle.osn_register.specs.Lawful.{AreLawful}
use Rattle.osn_register.specs.Plain.{EntryModel, effect, after_edits}
use Rattle.osn_core.specs.Sequential.{ObjectState, HasLawfulSource, joined, IsSound}
use Rattle.osn_request.specs.declared.version.Version.{Version}
use Rattle.osn_request.specs.Version.{newest_version}
use Rattle.osn_files.specs.JournalText.{edits_text, batches_text, journal_text_of}
use Rattle.osn_files.proofs.LawFacts.{lawful_front, lawful_rest, each_first, each_after}
use Rattle.osn_files.proofs.SaysFacts.{Says-publish, Says-lawful, IsLine-head}
use Rattle.osn_files.proofs.VersionFacts.{newest_edit}

utf8_edits : (limits : Limits) (territories : List EntryModel) (es : List Edit) →
    All HasLawfulSource es → AreLawful newest_rules limits territories es → IsUtf8 (edits_text es)
utf8_edits limits territories [] given h = IsUtf8-nil
utf8_edits limits territories (e ∷ es) given h =
    let says =
    Says-lawful newest_version limits territories e (newest_edit e)
    (All-head HasLawfulSource e es given) h.0 in
    IsUtf8-append _ (edits_text es) says.line.utf8
    (utf8_edits limits (effect territories e) es (All-tail HasLawfulSource e es given) h.1)

utf8_batches : (limits : Limits) (territories : List EntryModel) (bs : List (List Edit))
    (pend : List Edit) → All HasLawfulSource (joined bs ++ pend)
    → AreLawful newest_rules limits territories (joined bs ++ pend) → IsUtf8 (batches_text bs)
utf8_batches limits territories [] pend given h = IsUtf8-nil
utf8_batches limits territories (b ∷ bs) pend given h =
    let all : AreLawful newest_rules limits territories (b ++ (joined bs ++ pend)) =
    subst (AreLawful newest_rules limits territories) (append_assoc b (joined bs) pend) h in
    let each : All HasLawfulSource (b ++ (joined bs ++ pend)) =
    subst (All HasLawfulSource) (append_assoc b (joined bs) pend) given in
    IsUtf8-append _ (batches_text bs)
    (IsUtf8-append (edits_text b) _
    (utf8_edits limits territories b (each_first HasLawfulSource b (joined bs ++ pend) each)
    (lawful_front newest_rules limits territories b (joined bs ++ pend) all))
    (Says-publish newest_version).line.utf8)
    (utf8_batches limits (after_edits newest_rules limits territories b) bs pend
    (each_after HasLawfulSource b (joined bs ++ pend) each)
    (lawful_rest limits territories b (joined bs ++ pend) all))

pub IsUtf8-journal_text_of : (version : Version) (s : ObjectState) → IsSound newest_rules s
    → IsUtf8 (journal_text_of version s)
IsUtf8-journal_text_of version s h =
    IsUtf8-append _ (batches_text s.batches ++ edits_text s.pending) (IsLine-head version).utf8
    (IsUtf8-append (batches_text s.batches) (edits_text s.pending)
    (utf8_batches s.limits [] s.batches s.pending h.sources h.lawful)
    (utf8_edits s.limits (after_edits newest_rules s.limits [] (joined s.batches)) s.pending
    (each_after HasLawfulSource (joined s.batches) s.pending h.sources)
    (lawful_rest s.limits [] (joined s.batches) s.pending h.lawful)))
