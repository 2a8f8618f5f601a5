use Rattle.std.proofs.Common.{◌+◌, ◌-◌, length}
use Rattle.script_expectations.specs.Change.{changes_of}
use Rattle.script_expectations.proofs.ChangeLaws.{Shortens}
use Rattle.script_expectations.proofs.shortest.push_shortest.Given as goal

abbrev pub invariant-loop-change : goal.invariant-loop-change
invariant-loop-change l = Shortens (changes_of l.initial.changes.items) l.expected l.printed (changes_of l.changes.items) l.i l.j

-- the lines that are left of both lists
abbrev pub decreases-loop-change : goal.decreases-loop-change
decreases-loop-change l = (length l.expected - l.i) + (length l.printed - l.j)
