-- The rewritten journal is as the contract says.
use Rattle.std.proofs.Common.{◌∙◌, ℕ, List, Option, Some, None, ap, subst, sym}
use Rattle.osn_core.specs.Sequential.{ObjectState}
use Rattle.osn_files.specs.CountedPrefix.{IsCountedPrefix}
use Rattle.osn_files.specs.declared.whole_lines.CountedPrefix.{CountedPrefix}
use Rattle.osn_request.specs.declared.version.Version.{Version}
use Rattle.osn_register.specs.Plain.{RegisterModel}
use Rattle.osn_register.specs.declared.limits.Limits.{Limits}
use Rattle.osn_serve_commands.specs.Keep.{HoldsObject, cut_text, unfinished_line}
use Rattle.osn_serve_commands.specs.KeepInside.{AreReadOf, IsHeldIn}
use Rattle.osn_commands.specs.Publish.{IsRewriteNeeded}
use Rattle.osn_commands.specs.PublishInside.{IsOlderPlan, IsPartOf}
use Rattle.osn_commands.specs.Since.{RequestModel}

-- what counts of the bytes that were read counts of what was given
pub part_read : (input : Option (List ℕ)) (bytes : List ℕ) (part : CountedPrefix)
    → AreReadOf input bytes → IsCountedPrefix part bytes → IsPartOf part input
part_read None bytes part read whole = tt
part_read (Some content) bytes part read whole = subst (IsCountedPrefix part) read whole

-- the journal that held these bytes is the one that was given
pub edition_of_older : (limits : Limits) (request : RequestModel) (target : RegisterModel)
    (input : Option (List ℕ))
    (content bytes journal text : List ℕ) (cut : Option (List ℕ)) (part : CountedPrefix)
    (version : Version) (s : ObjectState) → AreReadOf input content
    → IsHeldIn limits content part version s
    → IsOlderPlan request content part version s target bytes journal text cut
    → IsRewriteNeeded limits request target input bytes journal text cut
edition_of_older limits request target input content bytes journal text cut part version s read
    holds h =
    let older = h.older in
    let same = sym older.same in record {
      read = subst (AreReadOf input) same read;
      version = version;
      object = s;
      holds = subst (λ l. HoldsObject limits l version s) same holds.1;
      pending = h.pending;
      edits = h.edits;
      had = h.had;
      plans = h.plans;
      free = h.free;
      needs = older.needs;
      lawful = older.lawful;
      sources = older.sources;
      anew = older.anew;
      printed = older.printed;
      message = older.message content holds.0 ∙ ap (λ l. cut_text (unfinished_line l)) same;
    }
