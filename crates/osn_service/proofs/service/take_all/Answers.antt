use Rattle.std.proofs.Common.{Ok}
use Rattle.osn_lines.specs.Streams.{input_of}
use Rattle.osn_service.specs.declared.service.End.TheVariants.{AtEnd}
use Rattle.osn_service.specs.TakingInside.{early_end}
use Rattle.osn_service.proofs.TakingLemmas.{Ends, Ends-all, Ends-early, IsWithin-ended}
use Rattle.osn_service.proofs.service.take_all.Goals as goal

-- all lines were taken
all : (g : _) (c : goal.In-Ok g) →
    Ends g.W.Sink.contents g.W.Sink.has_failed g.W.Sink.holds_back g.S.Store.state
    g.S.Store.lends g.S.Store.has_kept g.S.Store.has_lost c.args.session.now c.take_lines.new.taker
    (input_of g.R.Source.remaining g.R.Source.has_failed c.args.source.now
    c.take_lines.new.source) (Ok (record { lines = c.in-Ok.lines; end = AtEnd }))
all g c =
    let took = c.in-Ok.ensures in
    Ends-all _ _ _ _ _ _ _ _ _ _ c.requires.text c.requires.ends _ took.takes took.end took.sound

-- it ended early
early : (g : _) (c : goal.After-early_end g) →
    Ends g.W.Sink.contents g.W.Sink.has_failed g.W.Sink.holds_back g.S.Store.state
    g.S.Store.lends g.S.Store.has_kept g.S.Store.has_lost c.args.session.now c.take_lines.new.taker
    (input_of g.R.Source.remaining g.R.Source.has_failed c.args.source.now
    c.take_lines.new.source) (early_end c.in-Err.field-0.lines c.in-Err.field-0.cause)
early g c =
    let took = c.in-Err.ensures in
    Ends-early _ _ _ _ _ _ _ _ _ _ c.requires.text c.requires.ends _ _ took.fault took.reason

pub early_end-requires-clause-within : goal.early_end-requires-clause-within
early_end-requires-clause-within g c =
    IsWithin-ended g.W.Sink.contents g.W.Sink.has_failed g.W.Sink.holds_back g.S.Store.state
    g.S.Store.lends g.S.Store.has_kept g.S.Store.has_lost c.args.session.now c.take_lines.new.taker
    (input_of g.R.Source.remaining g.R.Source.has_failed c.args.source.now
    c.take_lines.new.source) c.requires.text c.requires.ends _ _ c.in-Err.ensures.fault

pub returns-in-Ok-clause-same : goal.returns-in-Ok-clause-same
returns-in-Ok-clause-same g c = (all g c).same

pub returns-in-Ok-clause-lent : goal.returns-in-Ok-clause-lent
returns-in-Ok-clause-lent g c = (all g c).lent

pub returns-in-Ok-clause-sources : goal.returns-in-Ok-clause-sources
returns-in-Ok-clause-sources g c = (all g c).sources

pub returns-in-Ok-clause-takes : goal.returns-in-Ok-clause-takes
returns-in-Ok-clause-takes g c = (all g c).takes

pub returns-in-Ok-clause-keeps : goal.returns-in-Ok-clause-keeps
returns-in-Ok-clause-keeps g c = (all g c).keeps

pub returns-in-Err-clause-same : goal.returns-in-Err-clause-same
returns-in-Err-clause-same g c = (early g c).same

pub returns-in-Err-clause-lent : goal.returns-in-Err-clause-lent
returns-in-Err-clause-lent g c = (early g c).lent

pub returns-in-Err-clause-sources : goal.returns-in-Err-clause-sources
returns-in-Err-clause-sources g c = (early g c).sources

pub returns-in-Err-clause-takes : goal.returns-in-Err-clause-takes
returns-in-Err-clause-takes g c = rw c.early_end.ensures (early g c).takes

pub returns-in-Err-clause-keeps : goal.returns-in-Err-clause-keeps
returns-in-Err-clause-keeps g c = rw c.early_end.ensures (early g c).keeps
