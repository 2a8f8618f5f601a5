use Rattle.stub_play.proofs.ReportLaws.{records_written}
use Rattle.stub_play.proofs.report.report_json.write_records.Goals as goal

pub returns : goal.returns
returns g c =
    records_written c.args.types c.args.records.now c.first-item.result (g.W.Write.contents c.args.writer.now) (g.W.Write.contents c.write_record.new.writer)
    (g.W.Write.contents c.write_others.new.writer) c.write_others.result c.in-len1-up.len_at_least c.first-item.is c.in_ok-write_record.ensures c.write_others.ensures
