use Rattle.std.proofs.Common.{◌≡◌, ◌++◌, ◌⊎◌, inl, inr, length, subst}
use Rattle.std.specs.Io.KnownBytes.{Appends}
use Rattle.stub_play.specs.report.Report.{report_text, told_text}
use Rattle.stub_play.proofs.ReportLaws.{appends_then, told_more, told_all}
use Rattle.stub_play.proofs.report.report.write_report.Goals as goal

pub loop-event-preserved : goal.loop-event-preserved
loop-event-preserved g c =
    let so_far = c.loop-event.invariant in
    let first = c.in-Some.ensures.steps in (
      so_far.0 ++ told_text c.args.types c.args.format c.in-Some.event.now c.in-Some.told.now,
      appends_then (g.W.Write.contents c.args.writer.now) (g.W.Write.contents c.loop-event.writer) (g.W.Write.contents c.write_told.new.writer) so_far.0 _ so_far.1
          c.in_ok-write_told.ensures,
      told_more c.args.types c.args.format so_far.0 (report_text c.args.types c.args.format c.args.events.now c.args.report.now.events.items) c.loop-event.event-iterator.a.rest.now
          c.next.new.self.a.rest.now c.loop-event.event-iterator.b.rest.now c.next.new.self.b.rest.now c.in-Some.event.now c.in-Some.told.now first.0 first.1 so_far.2,
    )

pub returns : goal.returns
returns g c =
    let so_far = c.loop-event.invariant in
    let ended : (length c.loop-event.event-iterator.a.rest.now ≡ 0) ⊎ (length c.loop-event.event-iterator.b.rest.now ≡ 0) =
    elim c.in-None.ensures.steps [
      | inl w ↦ inl w.1.0
      | inr w ↦ inr w.1.0
    ] in
    let all = told_all c.args.types c.args.format so_far.0 (report_text c.args.types c.args.format c.args.events.now c.args.report.now.events.items)
    c.loop-event.event-iterator.a.rest.now c.loop-event.event-iterator.b.rest.now ended so_far.2 in
    subst (Appends (g.W.Write.contents c.args.writer.now) (g.W.Write.contents c.loop-event.writer)) all so_far.1
