use Rattle.std.proofs.Common.{◌≡◌, ◌++◌, drop}
use Rattle.script_expectations.specs.Line.{texts}
use Rattle.script_expectations.proofs.line.bytes_of.Given as goal

-- the lines that are left complete those so far
abbrev pub invariant-loop-line : goal.invariant-loop-line
invariant-loop-line l = texts l.found.items ++ texts (drop l.line-index l.lines) ≡ texts l.lines
