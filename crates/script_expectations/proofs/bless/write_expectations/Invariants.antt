use Rattle.std.proofs.Common.{drop, flat_map, map}
use Rattle.script_expectations.specs.Bless.{expectation, line_text}
use Rattle.script_expectations.specs.Line.{texts}
use Rattle.script_expectations.proofs.WritingLaws.{Writes}
use Rattle.script_expectations.proofs.bless.write_expectations.Given as goal

abbrev pub invariant-loop-line : goal.invariant-loop-line
invariant-loop-line g l =
    Writes (g.W.Write.contents l.initial.writer) (g.W.Write.contents l.writer)
    (flat_map line_text (map expectation (texts (drop l.line-index l.lines)))) (flat_map line_text (map expectation (texts l.lines)))
