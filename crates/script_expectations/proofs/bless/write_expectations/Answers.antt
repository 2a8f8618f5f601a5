use Rattle.std.proofs.Common.{◌+◌, drop, flat_map, map}
use Rattle.script_expectations.specs.Bless.{expectation, line_text}
use Rattle.script_expectations.specs.Line.{texts}
use Rattle.script_expectations.proofs.LineLaws.{text_at}
use Rattle.script_expectations.proofs.WritingLaws.{flat_map_from, writes_more}
use Rattle.script_expectations.proofs.bless.write_expectations.Goals as goal

pub loop-line-preserved : goal.loop-line-preserved
loop-line-preserved g c =
    let lines = c.args.lines.now in
    let i = c.loop-line.line-index in
    writes_more (g.W.Write.contents c.args.writer.now) (g.W.Write.contents c.loop-line.writer) (g.W.Write.contents c.write_expectation.new.writer)
    (flat_map line_text (map expectation (texts (drop i lines)))) (flat_map line_text (map expectation (texts lines)))
    (line_text (expectation (text_at lines i))) (flat_map line_text (map expectation (texts (drop (i + 1) lines))))
    c.loop-line.invariant (flat_map_from line_text expectation lines i c.loop-line-test.true) c.in_ok-write_expectation.ensures
