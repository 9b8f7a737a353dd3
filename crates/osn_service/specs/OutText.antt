-- The line of what a step of the core gives: a word, or the line of the outcome that it is. This
-- project's profile.
use Rattle.std.specs.Prelude.{ℕ, List, codes}
use Rattle.serde_json.specs.Data.{Data, string, object, member, no_members}
use Rattle.osn_core.specs.declared.step.Out.{Out}
use Rattle.osn_core.specs.declared.step.Out.TheVariants as outs
use Rattle.osn_service.specs.declared.outcome.Outcome.TheVariants.{Staged, Published, Refused}
use Rattle.osn_service.specs.declared.outcome.Outcome.TheVariants.{Replied}
use Rattle.osn_service.specs.ReplyText.{outcome_data, line_of}

-- an out that is a word alone
abbrev pub word_data : List ℕ → Data
word_data word = object (member (codes "out") (string word) no_members)

abbrev pub out_data : Out → Data
out_data outs.NotNow = word_data (codes "not_now")
out_data outs.Moved = word_data (codes "moved")
out_data outs.Again = word_data (codes "again")
out_data outs.Entered = word_data (codes "entered")
out_data outs.Ready = word_data (codes "ready")
out_data (outs.Staged pending) = outcome_data (Staged pending)
out_data (outs.Published edition) = outcome_data (Published edition)
out_data (outs.Refused f) = outcome_data (Refused f)
out_data (outs.Replied reader reply) = outcome_data (Replied reader reply)

unfoldable pub out_line : Out → List ℕ
out_line o = line_of (out_data o)
