use Rattle.std.proofs.Common.{◌-◌}
use Rattle.stub_net.specs.Exchange.{no_try, rounds}
use Rattle.stub_net.specs.Network.{network_calls}
use Rattle.stub_net.proofs.RunLaws.{RunsOn}
use Rattle.stub_net.proofs.pool.NameServerPool.run.Given as goal

-- What the rest of the rounds leads to, all of them lead to.
abbrev pub invariant-loop-round : goal.invariant-loop-round
invariant-loop-round g l =
    RunsOn (network_calls g.N.Network.sends g.N.Network.receives g.N.Network.streams g.N.Network.reads_clock) l.message l.bytes (rounds (l.fn.self.attempts - l._round) l.order) l.last l.self (rounds l.fn.self.attempts l.order) no_try l.fn.self
