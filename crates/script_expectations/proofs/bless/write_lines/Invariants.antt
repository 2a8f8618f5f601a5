use Rattle.std.proofs.Common.{◌≤◌, length, drop}
use Rattle.script_expectations.specs.Bless.{blessed_text}
use Rattle.script_expectations.specs.Line.{texts}
use Rattle.script_expectations.proofs.WritingLaws.{Writes}
use Rattle.script_expectations.proofs.bless.write_lines.Given as goal

abbrev pub invariant-loop-line : goal.invariant-loop-line
invariant-loop-line g l =
    (l.done ≤ length l.printed) × Writes (g.W.Write.contents l.initial.writer) (g.W.Write.contents l.writer)
    (blessed_text (texts (drop l.line-index l.script)) (texts (drop l.done l.printed))) (blessed_text (texts l.script) (texts l.printed))
