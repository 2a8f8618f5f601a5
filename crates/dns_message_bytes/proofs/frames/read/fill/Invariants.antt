use Rattle.std.proofs.Common.{length, ◌-◌, ◌≡◌, ◌≤◌, ◌++◌, take}
use Rattle.dns_message_bytes.proofs.frames.read.fill.Given as goal

-- what is filled and what is left are the bytes of the source
abbrev pub invariant-loop-filled : goal.invariant-loop-filled
invariant-loop-filled g l = (l.filled ≤ length l.buffer)
    × (g.S.Source.bytes_left l.initial.source ≡ take l.filled l.buffer ++ g.S.Source.bytes_left l.source)
    × (g.S.Source.failure_count l.initial.source ≤ g.S.Source.failure_count l.source)

abbrev pub decreases-loop-filled : goal.decreases-loop-filled
decreases-loop-filled g l = length l.initial.buffer - l.filled
