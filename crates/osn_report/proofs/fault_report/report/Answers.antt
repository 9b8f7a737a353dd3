use Rattle.std.proofs.Common.{refl}
use Rattle.osn_lines.specs.Streams.{output_of}
use Rattle.osn_report.specs.Fault.{older_line, refused_line}
use Rattle.osn_report.specs.declared.fault.CommandFault.TheVariants as faults
use Rattle.osn_report.proofs.ReportLemmas.{reports_refusal, reports_same, reports_by}
use Rattle.osn_report.proofs.fault_report.report.Goals as goal

pub returns-in-File : goal.returns-in-File
returns-in-File g c =
    let errors = output_of g.E.Sink.contents g.E.Sink.has_failed g.E.Sink.holds_back
    c.args.errors.now c.report_file.new.errors in
    reports_same errors c.args.fault (faults.File c.in-File.fault) _ c.in-File.is
    c.report_file.ensures

pub returns-in-Service : goal.returns-in-Service
returns-in-Service g c =
    let errors = output_of g.E.Sink.contents g.E.Sink.has_failed g.E.Sink.holds_back
    c.args.errors.now c.report_service.new.errors in
    reports_by errors c.args.fault (faults.Service c.in-Service.fault) _ c.in-Service.is
    c.report_service.ensures

pub returns-in-Refused : goal.returns-in-Refused
returns-in-Refused g c =
    let errors = output_of g.E.Sink.contents g.E.Sink.has_failed g.E.Sink.holds_back
    c.args.errors.now c.report_refusal.new.errors in
    reports_same errors c.args.fault (faults.Refused c.in-Refused.refusal) _ c.in-Refused.is
    c.report_refusal.ensures

pub returns-in-Desk : goal.returns-in-Desk
returns-in-Desk g c =
    let errors = output_of g.E.Sink.contents g.E.Sink.has_failed g.E.Sink.holds_back
    c.args.errors.now c.report_desk.new.errors in
    reports_same errors c.args.fault (faults.Desk c.in-Desk.fault) _ c.in-Desk.is
    c.report_desk.ensures

pub returns-in-KeptWithOther : goal.returns-in-KeptWithOther
returns-in-KeptWithOther g c =
    let errors = output_of g.E.Sink.contents g.E.Sink.has_failed g.E.Sink.holds_back
    c.args.errors.now c.report_text.new.errors in
    reports_by errors c.args.fault faults.KeptWithOther _ c.in-KeptWithOther.is
    (c.report_text.ensures.status, c.report_text.ensures.line)

pub returns-in-UpgradeWithoutKeep : goal.returns-in-UpgradeWithoutKeep
returns-in-UpgradeWithoutKeep g c =
    let errors = output_of g.E.Sink.contents g.E.Sink.has_failed g.E.Sink.holds_back
    c.args.errors.now c.report_text-in-UpgradeWithoutKeep.new.errors in
    reports_by errors c.args.fault faults.UpgradeWithoutKeep _ c.in-UpgradeWithoutKeep.is (
      c.report_text-in-UpgradeWithoutKeep.ensures.status,
      c.report_text-in-UpgradeWithoutKeep.ensures.line,
    )

pub returns-in-Keep : goal.returns-in-Keep
returns-in-Keep g c =
    let errors = output_of g.E.Sink.contents g.E.Sink.has_failed g.E.Sink.holds_back
    c.args.errors.now c.report_keep.new.errors in
    reports_by errors c.args.fault (faults.Keep c.in-Keep.fault) _ c.in-Keep.is
    c.report_keep.ensures

pub returns-in-KeptFile : goal.returns-in-KeptFile
returns-in-KeptFile g c =
    let errors = output_of g.E.Sink.contents g.E.Sink.has_failed g.E.Sink.holds_back
    c.args.errors.now c.report_kept_file.new.errors in
    reports_by errors c.args.fault (faults.KeptFile c.in-KeptFile.fault) _ c.in-KeptFile.is
    c.report_kept_file.ensures

pub returns-in-FollowedWithOther : goal.returns-in-FollowedWithOther
returns-in-FollowedWithOther g c =
    let errors = output_of g.E.Sink.contents g.E.Sink.has_failed g.E.Sink.holds_back
    c.args.errors.now c.report_text-in-FollowedWithOther.new.errors in
    reports_by errors c.args.fault faults.FollowedWithOther _ c.in-FollowedWithOther.is (
      c.report_text-in-FollowedWithOther.ensures.status,
      c.report_text-in-FollowedWithOther.ensures.line,
    )

pub returns-in-FollowedFile : goal.returns-in-FollowedFile
returns-in-FollowedFile g c =
    let errors = output_of g.E.Sink.contents g.E.Sink.has_failed g.E.Sink.holds_back
    c.args.errors.now c.report_followed_file.new.errors in
    reports_by errors c.args.fault (faults.FollowedFile c.in-FollowedFile.fault) _
    c.in-FollowedFile.is c.report_followed_file.ensures

pub returns-in-OlderVersion : goal.returns-in-OlderVersion
returns-in-OlderVersion g c =
    let errors = output_of g.E.Sink.contents g.E.Sink.has_failed g.E.Sink.holds_back
    c.args.errors.now c.report_line.new.errors in
    let version = c.in-OlderVersion.version in
    reports_same errors c.args.fault (faults.OlderVersion version) _ c.in-OlderVersion.is
    (reports_refusal errors (faults.OlderVersion version) _ _ refl refl
    (c.report_line.ensures (older_line version) c.older_version.ensures))

pub returns-in-RefusedLine : goal.returns-in-RefusedLine
returns-in-RefusedLine g c =
    let errors = output_of g.E.Sink.contents g.E.Sink.has_failed g.E.Sink.holds_back
    c.args.errors.now c.report_line-in-RefusedLine.new.errors in
    let line = c.in-RefusedLine.line in
    reports_same errors c.args.fault (faults.RefusedLine line) _ c.in-RefusedLine.is
    (reports_refusal errors (faults.RefusedLine line) _ _ refl refl
    (c.report_line-in-RefusedLine.ensures (refused_line line) c.refused_at.ensures))

pub returns-in-NotOpened : goal.returns-in-NotOpened
returns-in-NotOpened g c =
    let errors = output_of g.E.Sink.contents g.E.Sink.has_failed g.E.Sink.holds_back
    c.args.errors.now c.report_text-in-NotOpened.new.errors in
    reports_by errors c.args.fault (faults.NotOpened c.in-NotOpened.field-0) _ c.in-NotOpened.is
    (c.report_text-in-NotOpened.ensures.status, c.report_text-in-NotOpened.ensures.line)

pub returns-in-ReadFault : goal.returns-in-ReadFault
returns-in-ReadFault g c =
    let errors = output_of g.E.Sink.contents g.E.Sink.has_failed g.E.Sink.holds_back
    c.args.errors.now c.report_text-in-ReadFault.new.errors in
    reports_by errors c.args.fault (faults.ReadFault c.in-ReadFault.field-0) _ c.in-ReadFault.is
    (c.report_text-in-ReadFault.ensures.status, c.report_text-in-ReadFault.ensures.line)

pub returns-in-WriteFault : goal.returns-in-WriteFault
returns-in-WriteFault g c =
    let errors = output_of g.E.Sink.contents g.E.Sink.has_failed g.E.Sink.holds_back
    c.args.errors.now c.report_write_fault.new.errors in
    reports_by errors c.args.fault faults.WriteFault _ c.in-WriteFault.is
    c.report_write_fault.ensures

pub returns-in-NotSaved : goal.returns-in-NotSaved
returns-in-NotSaved g c =
    let errors = output_of g.E.Sink.contents g.E.Sink.has_failed g.E.Sink.holds_back
    c.args.errors.now c.report_write_fault-in-NotSaved.new.errors in
    reports_by errors c.args.fault (faults.NotSaved c.in-NotSaved.field-0) _ c.in-NotSaved.is
    c.report_write_fault-in-NotSaved.ensures

pub returns-in-NoMemory : goal.returns-in-NoMemory
returns-in-NoMemory g c =
    let errors = output_of g.E.Sink.contents g.E.Sink.has_failed g.E.Sink.holds_back
    c.args.errors.now c.report_no_memory.new.errors in
    reports_by errors c.args.fault faults.NoMemory _ c.in-NoMemory.is c.report_no_memory.ensures
