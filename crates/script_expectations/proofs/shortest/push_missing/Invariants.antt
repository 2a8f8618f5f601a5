use Rattle.std.proofs.Common.{◌≡◌, ◌++◌, drop, map}
use Rattle.script_expectations.specs.Change.{changes_of}
use Rattle.script_expectations.specs.Line.{texts}
use Rattle.script_expectations.specs.Shortest.{missing}
use Rattle.script_expectations.proofs.shortest.push_missing.Given as goal

-- the lines so far, and those that are left
abbrev pub invariant-loop-line : goal.invariant-loop-line
invariant-loop-line l =
    changes_of l.changes.items ++ map missing (texts (drop l.line-index l.lines)) ≡ changes_of l.initial.changes.items ++ map missing (texts l.lines)
