-- Those from the index on have been pushed.
use Rattle.std.proofs.Common.{◌≡◌, reverse, drop}
use Rattle.stub_core.specs.AttemptedNames.{joined_names}
use Rattle.stub_core.proofs.attempted_names.push_search.Given as goal

abbrev pub invariant-loop-index : goal.invariant-loop-index
invariant-loop-index l =
    reverse l.stack.items ≡ joined_names l.name (drop l.index l.search) (reverse l.fn.stack.items)
