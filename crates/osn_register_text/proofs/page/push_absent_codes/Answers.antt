use Rattle.std.proofs.Common.{sym, string_bytes}
use Rattle.osn_register_text.proofs.PlaceFacts.{all_written, next_written}
use Rattle.osn_register_text.proofs.page.push_absent_codes.Goals as goal

pub returns-in_default : goal.returns-in_default
returns-in_default c =
    all_written c.args.target.now.territories c.args.register.now.territories c.loop-index.index _ _
    (sym c.in_default.ensures.value) c.loop-index.invariant

pub loop-index-preserved : goal.loop-index-preserved
loop-index-preserved c =
    next_written c.args.target.now.territories c.args.register.now.territories c.loop-index.index _
    _ _ _ (string_bytes c.loop-index.out) _ (sym c.in-Some.ensures.value) c.loop-index.invariant
    c.in_ok-push_absent_code.ensures
