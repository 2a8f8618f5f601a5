use Rattle.std.proofs.Common.{◌≡◌, ◌+◌, drop}
use Rattle.script_expectations.specs.Line.{texts}
use Rattle.script_expectations.specs.Printed.{continued_len}
use Rattle.script_expectations.proofs.printed.continued_len.Given as goal

-- all lines so far go on
abbrev pub invariant-loop-i : goal.invariant-loop-i
invariant-loop-i l = l.i + continued_len (texts (drop l.i l.lines)) ≡ continued_len (texts l.lines)
