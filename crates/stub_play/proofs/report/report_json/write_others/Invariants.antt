use Rattle.std.proofs.Common.{take, flat_map}
use Rattle.std.specs.Io.KnownBytes.{Appends}
use Rattle.stub_play.specs.report.ReportJson.{other_record}
use Rattle.stub_play.proofs.report.report_json.write_others.Given as goal

-- the records so far are written
abbrev pub invariant-loop-record : goal.invariant-loop-record
invariant-loop-record g l = Appends (g.W.Write.contents l.initial.writer) (g.W.Write.contents l.writer) (flat_map (other_record l.types) (take l.record-index l.records))
