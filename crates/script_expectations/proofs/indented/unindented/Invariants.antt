use Rattle.std.proofs.Common.{◌≡◌, drop}
use Rattle.script_expectations.specs.Line.{unindented}
use Rattle.script_expectations.proofs.indented.unindented.Given as goal

-- blanks so far
abbrev pub invariant-loop-i : goal.invariant-loop-i
invariant-loop-i l = unindented (drop l.i l.line) ≡ unindented l.line
