use Rattle.std.proofs.Common.{◌≡◌, ◌∙◌, ◌<◌, List, ℕ, Bor, ap, arith, if◌then◌else◌, length, map}
use Rattle.std.proofs.Common.{rules, sym, true}
use Rattle.std.specs.List.{remove}
use Rattle.osn_commands.specs.CommandWords.{asks_help_twice}
use Rattle.osn_commands.proofs.JournalLemmas.{has_command, remove_map}
use Rattle.osn_commands.proofs.command_words.with_plain_help.Goals as goal

pub remove-requires : goal.remove-requires
remove-requires c =
    let words = c.args.words.items in
    let asks : asks_help_twice (map (λ (word : Bor (List ℕ)). word.now) words) ≡ true =
    search rules in
    let has : 1 < length words =
    has_command (λ (word : Bor (List ℕ)). word.now) words asks in
    omega (arith, c.args.words.ok.0)

pub returns : goal.returns
returns c =
    let words = c.args.words.items in
    let texts = map (λ (word : Bor (List ℕ)). word.now) words in
    let asks : asks_help_twice texts ≡ true = search rules in
    let left : c.remove.new.self.items ≡ remove words 1 = search rules in
    ap (map (λ (word : Bor (List ℕ)). word.now)) left
    ∙ remove_map (λ (word : Bor (List ℕ)). word.now) words 1
    ∙ sym (ap (λ b. if b then remove texts 1 else texts) asks)
