use Rattle.std.proofs.Common.{◌≡◌, take}
use Rattle.osn_days.specs.Rules.{newest_rules}
use Rattle.osn_core.specs.Script.{script_after}
use Rattle.osn_live.specs.Desk.{HearsOf}
use Rattle.osn_live.proofs.desk.edit_all.Given as goal

abbrev pub invariant-loop-command : goal.invariant-loop-command
invariant-loop-command g l = record {
  origin : l.editor.origin ≡ l.fn.editor.origin;
  object : l.editor.object
      ≡ script_after newest_rules l.fn.editor.object (take l.command-index l.commands);
  gate : l.turns.gate ≡ l.fn.turns.gate;
  who : l.turns.who ≡ l.fn.turns.who;
  begun : l.turns.begun ≡ l.command-index;
  ended : l.turns.ended ≡ l.command-index;
  hears : HearsOf g.G.Gate.let_pass g.G.Gate.saw_end l.fn.turns.gate.now l.fn.turns.who
      l.command-index;
}
