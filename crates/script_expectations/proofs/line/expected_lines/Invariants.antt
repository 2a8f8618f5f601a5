use Rattle.std.proofs.Common.{◌≡◌, ◌++◌, drop}
use Rattle.script_expectations.specs.Line.{expected_lines, texts}
use Rattle.script_expectations.proofs.line.expected_lines.Given as goal

-- the lines found so far, and what the lines that are left expect
abbrev pub invariant-loop-line : goal.invariant-loop-line
invariant-loop-line l = texts l.found.items ++ expected_lines (texts (drop l.line-index l.lines)) ≡ expected_lines (texts l.lines)
