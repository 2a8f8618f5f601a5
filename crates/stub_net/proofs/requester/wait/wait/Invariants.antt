use Rattle.std.proofs.Common.{◌-◌, ◌^◌}
use Rattle.stub_net.specs.Network.{network_calls}
use Rattle.stub_net.proofs.WaitLaws.{LeadsOn}
use Rattle.stub_net.proofs.requester.wait.wait.Given as goal

-- What the rest leads to, all leads to.
abbrev pub invariant-loop-received : goal.invariant-loop-received
invariant-loop-received g l =
    LeadsOn (network_calls g.N.Network.sends g.N.Network.receives g.N.Network.streams g.N.Network.reads_clock) l.message l.deadline (2 ^ 64 - 1 - l._received) l.network l.dropped (2 ^ 64 - 1) l.fn.network l.fn.dropped
