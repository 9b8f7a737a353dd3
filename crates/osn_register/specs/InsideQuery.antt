-- How a query is answered, or why it has no answer of its own.
use Rattle.std.specs.Prelude.{◌≡◌, true, Option, Some, None, Result, MatchResult}
use Rattle.osn_register.specs.declared.answer.Answer.{Answer}
use Rattle.osn_register.specs.declared.refusal.Refusal.{Refusal}
use Rattle.osn_register.specs.declared.query_fault.QueryFault.{QueryFault}
use Rattle.osn_register.specs.declared.query_fault.QueryFault.TheVariants.{Refused, NoMemory}
use Rattle.osn_register.specs.Answer.{refusal_in, takes_memory}

-- the result is this answer, which is not a refusal, and nothing refuses the query
abbrev pub IsAnswer : Option Refusal → Answer → Answer → Type 0
IsAnswer refused said a = (refused ≡ None) × (a ≡ said) × (refusal_in a ≡ None)

-- the reason is the refusal of the query; or it is NoMemory, if nothing refuses the query and this
-- answer takes memory
abbrev pub IsReason : Option Refusal → Answer → QueryFault → Type 0
IsReason refused said (Refused f) = refused ≡ Some f
IsReason refused said NoMemory = (refused ≡ None) × (takes_memory said ≡ true)

-- the query has this answer, or no answer for a reason
abbrev pub IsAnswered : Option Refusal → Answer → Result Answer QueryFault → Type 0
IsAnswered refused said result = MatchResult result (IsAnswer refused said) (IsReason refused said)
