use Rattle.std.proofs.Common.{◌≡◌, ◌++◌, drop, map}
use Rattle.script_expectations.specs.Change.{changes_of}
use Rattle.script_expectations.specs.Line.{texts}
use Rattle.script_expectations.specs.Shortest.{unexpected}
use Rattle.script_expectations.proofs.shortest.push_unexpected.Given as goal

-- the lines so far, and those that are left
abbrev pub invariant-loop-line : goal.invariant-loop-line
invariant-loop-line l =
    changes_of l.changes.items ++ map unexpected (texts (drop l.line-index l.lines)) ≡ changes_of l.initial.changes.items ++ map unexpected (texts l.lines)
