use Rattle.std.proofs.Common.{◌≡◌, ◌+◌, ◌≤◌, drop, length}
use Rattle.script_expectations.specs.Line.{texts}
use Rattle.script_expectations.specs.Shortest.{same_len}
use Rattle.script_expectations.proofs.shortest.same_len.Given as goal

abbrev pub invariant-loop-i : goal.invariant-loop-i
invariant-loop-i l = record {
  within : l.i ≤ length l.printed;
  so_far : l.i + same_len (drop l.i (texts l.expected)) (drop l.i (texts l.printed)) ≡ same_len (texts l.expected) (texts l.printed);
}
