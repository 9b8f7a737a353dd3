-- How a draft keeps its state.
use Rattle.std.specs.Prelude.{◌≤◌, length}
use Rattle.osn_core.specs.declared.draft.Draft.TheInside.{Inside}
use Rattle.osn_core.specs.Draft.{DraftState}

abbrev pub draft_in : Inside → DraftState
draft_in d = record {
  register = d.register;
  pending = d.pending.items;
  edits = d.edits;
  editions = d.editions;
}

-- the pending edits are counted
abbrev pub CountsPending : Inside → Type 0
CountsPending d = length d.pending.items ≤ d.edits
