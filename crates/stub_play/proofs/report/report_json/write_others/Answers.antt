use Rattle.std.proofs.Common.{sym}
use Rattle.stub_play.specs.report.ReportJson.{other_record}
use Rattle.stub_play.proofs.ReportLaws.{appends_more}
use Rattle.stub_play.proofs.report.report_json.write_others.Goals as goal

pub loop-record-preserved : goal.loop-record-preserved
loop-record-preserved g c =
    appends_more (other_record c.args.types) c.args.records.now c.loop-record.record-index c.record-item.result (g.W.Write.contents c.args.writer.now)
    (g.W.Write.contents c.loop-record.writer) (g.W.Write.contents c.write_other.new.writer) c.loop-record-test.true (sym c.record-item.is) c.loop-record.invariant c.in_ok-write_other.ensures
