use Rattle.std.proofs.Common.{◌≡◌, ◌∙◌, ap, map}
use Rattle.osn_letters.specs.Tally.{tally_text}
use Rattle.osn_letters.specs.TallyInside.{tally_in}
use Rattle.osn_letters.proofs.TallyFacts.{first_lines, plain_entry}
use Rattle.osn_letters.proofs.tally.Tally.text.Goals as goal

pub loop-words-init : goal.loop-words-init
loop-words-init c =
    let all : c.into_iter-words-iterator.result ≡ c.self.inside.by_remark.entries =
    c.into_iter-words-iterator.ensures.into_iter_gives.0 in
    first_lines c.args.front.now _ _ _ (tally_in c.self.inside) _ c.new-text.ensures.bytes
    c.in_ok-push_line.ensures c.in_ok-push_line-2.ensures (ap (map plain_entry) all)
    ∙ ap (tally_text c.args.front.now) c.self.view_is
