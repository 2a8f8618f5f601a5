use Rattle.stub_play.specs.report.Report.{told_text}
use Rattle.stub_play.proofs.PlayLaws.{on_ok}
use Rattle.stub_play.proofs.ReportLaws.{appends_kept}
use Rattle.stub_play.proofs.plays.events.print_told.Goals as goal

pub returns : goal.returns
returns g c =
    on_ok c.flush.result
    (appends_kept (g.W.Write.contents c.args.writer.now) (g.W.Write.contents c.write_told.new.writer) (g.W.Write.contents c.flush.new.self)
    (told_text c.args.input.now.types c.args.input.now.format c.args.event.now c.args.told.now) c.in_ok-write_told.ensures c.flush.ensures.bytes)
