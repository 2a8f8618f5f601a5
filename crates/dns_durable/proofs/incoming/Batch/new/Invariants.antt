use Rattle.std.proofs.Common.{◌≡◌, ◌++◌, List, length}
use Rattle.dns_durable.specs.Incoming.{AreAdmitted, changes_in}
use Rattle.dns_durable.specs.Rule.{entry_of}
use Rattle.dns_durable.specs.declared.incoming.Arrived.{Arrived}
use Rattle.dns_durable.proofs.incoming.Batch.new.Given as goal

-- the requests that are left complete those that were admitted, and the entry is that of their updates
abbrev pub invariant-loop-rest : goal.invariant-loop-rest
invariant-loop-rest l =
    ((more : List Arrived) → AreAdmitted l.fn.policy l.rest more → AreAdmitted l.fn.policy l.fn.requests (l.admitted.items ++ more))
    × (l.entry.items ≡ entry_of l.fn.policy.answering (changes_in l.admitted.items))

abbrev pub decreases-loop-rest : goal.decreases-loop-rest
decreases-loop-rest l = length l.rest
