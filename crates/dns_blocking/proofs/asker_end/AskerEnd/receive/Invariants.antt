use Rattle.std.proofs.Common.{length, ◌≡◌}
use Rattle.dns_blocking.proofs.asker_end.AskerEnd.receive.Given as goal

-- The addresses stay, and so does the length of the buffer.
abbrev pub invariant-loop-dropped : goal.invariant-loop-dropped
invariant-loop-dropped l =
    (l.self.server ≡ l.initial.self.server) × (l.self.address ≡ l.initial.self.address)
    × (length l.self.buffer.items ≡ length l.initial.self.buffer.items)
