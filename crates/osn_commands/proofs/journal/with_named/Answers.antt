use Rattle.std.proofs.Common.{◌≡◌, ◌||◌, ℕ, List, Bor, false, length, map, nat_lt, refl, rules}
use Rattle.std.proofs.lemmas.Option.{slice_get_read}
use Rattle.std.proofs.lemmas.Result.{IfOk-weaker}
use Rattle.osn_commands.specs.Journal.{is_repeated}
use Rattle.osn_commands.proofs.JournalLemmas.{named_map}
use Rattle.osn_commands.proofs.journal.with_named.Goals as goal

pub returns : goal.returns
returns c =
    let words = c.args.words.items in
    let found = slice_get_read words (length words) c.args.at c.index-word.result.now refl
    c.requires c.index-word.ensures in
    let once : (nat_lt c.args.at 2
    || is_repeated c.args.at (map (λ (word : Bor (List ℕ)). word.now) words)) ≡ false =
    search rules in
    IfOk-weaker c.with_file.result _ _
    (λ new h. named_map (λ (word : Bor (List ℕ)). word.now) new.items words
    c.file_after_equals.result c.index-word.result.now c.args.at h found
    c.file_after_equals.ensures once)
    c.with_file.ensures
