use Rattle.std.proofs.Common.{◌≡◌, ◌++◌, ℕ, List, Bool, false, map, drop}
use Rattle.serde_json.specs.Data.{Data}
use Rattle.serde_json.specs.View.{items_of}
use Rattle.serde_json.specs.Written.{items_text}
use Rattle.osn_service.proofs.reply.write_json.write_list.Given as goal

-- the text of a list's items, with its closing bracket
abbrev pub rest_text : {A : Type 0} → (A → Data) → Bool → List A → List ℕ
rest_text json_value later values = items_text later (items_of (map json_value values))

-- the text so far and the items that are left make the whole list
abbrev pub invariant-loop-item : goal.invariant-loop-item
invariant-loop-item g l = record {
  before : l.out.before ≡ l.initial.out.before;
  text :
      l.out.text ++ rest_text g.J.WriteJson.json_value l.later (drop l.item-index l.values)
      ≡ l.initial.out.text ++ rest_text g.J.WriteJson.json_value false l.values;
}
