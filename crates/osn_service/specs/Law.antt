-- An input may be cut between its lines and answered in parts. The output for one part after
-- another is the output for the whole.
use Rattle.std.specs.Prelude.{◌≡◌, ◌⊎◌, ℕ, List, [], ◌∷◌, ◌++◌, Result, Ok, Err, ⊤}
use Rattle.std.specs.List.{All, concat, flat_map}
use Rattle.osn_core.specs.Sequential.{ObjectState}
use Rattle.osn_lines.specs.Lines.{lines}
use Rattle.osn_request.specs.declared.wire_fault.WireFault.{WireFault}
use Rattle.osn_request.specs.declared.request.Request.{Request}
use Rattle.osn_request.specs.declared.request.Request.TheVariants.{Stage, Publish, Ask}
use Rattle.osn_service.specs.declared.outcome.Outcome.{Outcome}
use Rattle.osn_service.specs.declared.outcome.Outcome.TheVariants.{Staged, Published, Refused}
use Rattle.osn_service.specs.declared.outcome.Outcome.TheVariants.{Fault, UnknownMember, Explained}
use Rattle.osn_service.specs.declared.outcome.Outcome.TheVariants.{Replied}
use Rattle.osn_service.specs.declared.rules.ServeRules.{ServeRules}
use Rattle.osn_service.specs.Served.{outputs, after_lines}
use Rattle.osn_service.specs.Session.{line_outcome, line_after, line_request}

-- a line after which the object is what it was
abbrev pub LeavesObject : ServeRules → ObjectState → List ℕ → Type 0
LeavesObject rules s line = line_after rules s line ≡ s

-- the bytes end between two lines: there are none, or the last is a line feed
abbrev pub EndsBetweenLines : List ℕ → Type 0
EndsBetweenLines bytes = (bytes ≡ []) ⊎ ((front : List ℕ) × (bytes ≡ front ++ 10 ∷ []))

-- a query, or no request at all
abbrev pub IsQueryOrFault : Result Request WireFault → Type 0
IsQueryOrFault (Ok (Stage edit)) = ⊥
IsQueryOrFault (Ok Publish) = ⊥
IsQueryOrFault (Ok (Ask reader query)) = ⊤
IsQueryOrFault (Err fault) = ⊤

-- no edit was staged and no edition published
abbrev pub HasChangedNothing : Outcome → Type 0
HasChangedNothing (Staged pending) = ⊥
HasChangedNothing (Published edition) = ⊥
HasChangedNothing (Refused refusal) = ⊤
HasChangedNothing (Fault fault) = ⊤
HasChangedNothing (UnknownMember name) = ⊤
HasChangedNothing (Explained rejection) = ⊤
HasChangedNothing (Replied reader reply) = ⊤

-- the output for the bytes of an input
abbrev pub input_outputs : ServeRules → ObjectState → List ℕ → List ℕ
input_outputs rules s bytes = outputs rules s (lines bytes)

-- The output for the parts and then the last one is that for each part from the same object, in
-- their order, and then that for the last one. The object is then what the last one alone makes of
-- it.
pub record IsAnsweredInParts (rules : ServeRules) (s : ObjectState) (parts : List (List ℕ))
    (last : List ℕ) : Type 0 where
  pub written : input_outputs rules s (concat parts ++ last)
      ≡ flat_map (input_outputs rules s) parts ++ input_outputs rules s last
  pub object : after_lines rules s (lines (concat parts ++ last))
      ≡ after_lines rules s (lines last)

-- How an input is cut that is answered from the object s by these rules.
pub record MayBeCut (rules : ServeRules) (s : ObjectState) : Type 0 where
  -- After lines that leave the object, later lines are answered as if they were alone.
  pub lists : (first rest : List (List ℕ)) → All (LeavesObject rules s) first
      → outputs rules s (first ++ rest)
      ≡ outputs rules s first ++ outputs rules s rest
  -- An input is answered in parts wherever it is cut between its lines, if each line before the
  -- last part leaves the object.
  pub inputs : (parts : List (List ℕ)) (last : List ℕ) → All EndsBetweenLines parts
      → All (LeavesObject rules s) (lines (concat parts))
      → IsAnsweredInParts rules s parts last
  -- A query leaves the object, and so does a line that is not a request, whatever its fault.
  pub queries : (line : List ℕ) → IsQueryOrFault (line_request rules line)
      → LeavesObject rules s line
  -- A line whose reply names no staged edit and no published edition leaves the object.
  pub replies : (line : List ℕ) → HasChangedNothing (line_outcome rules s line)
      → LeavesObject rules s line

-- as a law: every input may be cut so, from every object
unfoldable pub MayEachInputBeCut : Type 0
MayEachInputBeCut = (rules : ServeRules) (s : ObjectState) → MayBeCut rules s
