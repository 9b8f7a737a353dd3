-- The result of reading a transcript, as the lines that agree with an object.
use Rattle.std.proofs.Common.{◌≡◌, ◌<◌, ℕ, List, Option, Some, None, Result, Ok, Err, IfSome, IfErr}
use Rattle.std.proofs.Common.{refl, ap, ◌∙◌, sym, subst, length}
use Rattle.osn_core.specs.Sequential.{ObjectState}
use Rattle.osn_lines.specs.Lines.{lines}
use Rattle.osn_request.specs.declared.version.Version.{Version}
use Rattle.osn_request.specs.Version.{newest_version}
use Rattle.osn_files.specs.declared.fault.LineFault.{LineFault}
use Rattle.osn_files.specs.Turns.{in_turn}
use Rattle.osn_files.proofs.FileLemmas.{IsSameFault}
use Rattle.osn_files.proofs.TurnLemmas.{faults_from_1}
use Rattle.osn_file_commands.specs.TranscriptAudit.{after_object, after_lines, no_replies}
use Rattle.osn_file_commands.specs.TranscriptAudit.{count_or_fault}
use Rattle.osn_file_commands.specs.TranscriptAudit.{agreed_lines}

-- lines that are read by the newest version, if no reader has a reply
pub lines_read : (object s : ObjectState) (version : Version) (last : List ℕ)
    (ls : List (List ℕ)) → object ≡ s → version ≡ newest_version → last ≡ no_replies
    → in_turn (after_object object) 1 (Some version) last ls ≡ after_lines s ls
lines_read object s version last ls same newest none =
    ap (λ o. in_turn (after_object o) 1 (Some version) last ls) same
    ∙ (ap (λ v. in_turn (after_object s) 1 (Some v) last ls) newest
    ∙ ap (λ l. in_turn (after_object s) 1 (Some newest_version) l ls) none)

-- all replies agree, and they were counted
pub all_agreed : (object s : ObjectState) (version : Version) (last made : List ℕ) (n : ℕ)
    (input : Option (List ℕ)) → object ≡ s → version ≡ newest_version → last ≡ no_replies
    → IfSome input (λ bytes.
    in_turn (after_object object) 1 (Some version) last (lines bytes) ≡ Ok made)
    → IfSome input (λ bytes. n ≡ length (lines bytes))
    → IfSome input (λ bytes. agreed_lines s (lines bytes) ≡ Ok n)
all_agreed object s version last made n None same newest none h count = tt
all_agreed object s version last made n (Some bytes) same newest none h count =
    ap (count_or_fault (length (lines bytes)))
    (sym (lines_read object s version last (lines bytes) same newest none) ∙ h)
    ∙ ap Ok (sym count)

count_too : (n : ℕ) (r : Result (List ℕ) (ℕ × LineFault)) → IsSameFault r (count_or_fault n r)
count_too n (Ok last) = tt
count_too n (Err f) = refl

-- lines that are read in turn are refused by the fault of `agreed_lines`
pub refused_too : (object s : ObjectState) (version : Version) (last : List ℕ)
    (ls : List (List ℕ)) → object ≡ s → version ≡ newest_version → last ≡ no_replies
    → IsSameFault (in_turn (after_object object) 1 (Some version) last ls)
    (agreed_lines s ls)
refused_too object s version last ls same newest none =
    subst (λ r. IsSameFault r (agreed_lines s ls))
    (sym (lines_read object s version last ls same newest none))
    (count_too (length ls) (after_lines s ls))

count_fault : (n : ℕ) (r : Result (List ℕ) (ℕ × LineFault)) → IfErr r (λ e. 0 < e.0)
    → IfErr (count_or_fault n r) (λ e. 0 < e.0)
count_fault n (Ok last) h = tt
count_fault n (Err f) h = h

-- and their lines are counted from 1
pub agreed_from_1 : (s : ObjectState) (ls : List (List ℕ))
    → IfErr (agreed_lines s ls) (λ e. 0 < e.0)
agreed_from_1 s ls =
    count_fault (length ls) (after_lines s ls)
    (faults_from_1 (after_object s) (Some newest_version) no_replies ls)
