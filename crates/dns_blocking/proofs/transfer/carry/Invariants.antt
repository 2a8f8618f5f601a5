use Rattle.std.proofs.Common.{length, ◌-◌, ◌≡◌, ◌≤◌}
use Rattle.dns_blocking.proofs.transfer.carry.Given as goal

-- As many bytes were received as were sent, and the buffer has room for the others.
abbrev pub invariant-loop-done : goal.invariant-loop-done
invariant-loop-done l = (l.done ≤ length l.sent) × (length l.received ≡ length l.sent)

abbrev pub decreases-loop-done : goal.decreases-loop-done
decreases-loop-done l = length l.sent - l.done
