use Rattle.std.proofs.Common.{◌≡◌, ◌+◌, drop}
use Rattle.script_expectations.specs.Line.{first_indented, texts}
use Rattle.script_expectations.proofs.indented.first_indented.Given as goal

-- none so far
abbrev pub invariant-loop-i : goal.invariant-loop-i
invariant-loop-i l = first_indented (l.i + 1) (texts (drop l.i l.lines)) ≡ first_indented 1 (texts l.lines)
