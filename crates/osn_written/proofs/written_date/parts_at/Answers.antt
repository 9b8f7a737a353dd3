use Rattle.osn_written.proofs.Grammar.{parts_split}
use Rattle.osn_written.proofs.written_date.parts_at.Goals as goal

pub returns : goal.returns
returns c = parts_split c.args.separator c.args.text.now c.split_once.result
    (c.split_once.ensures.byte c.requires (λ w o f. f))
