use Rattle.osn_report.specs.Explanation.{explanation}
use Rattle.osn_report.proofs.explanation.report_explanation.Goals as goal

pub returns : goal.returns
returns g c =
    let message = c.report-status.new.errors in
    record {
      between = g.E.Sink.contents message;
      failed = g.E.Sink.has_failed message;
      held_back = g.E.Sink.holds_back message;
      reports = c.report-status.ensures;
      explains = c.report_more.ensures (explanation c.args.path.now c.args.fault)
          c.explanation-text.ensures;
    }
