use Rattle.std.proofs.Common.{◌≡◌, ℕ, List, ◌++◌}
use Rattle.std.specs.Io.KnownBytes.{Appends}
use Rattle.stub_play.specs.report.Report.{report_text}
use Rattle.stub_play.proofs.report.report.write_report.Given as goal

-- what is left completes the text
abbrev pub invariant-loop-event : goal.invariant-loop-event
invariant-loop-event g l =
    (done : List ℕ) × Appends (g.W.Write.contents l.initial.writer) (g.W.Write.contents l.writer) done
    × (done ++ report_text l.types l.format l.event-iterator.a.rest.now l.event-iterator.b.rest.now ≡ report_text l.types l.format l.events l.report.events.items)
