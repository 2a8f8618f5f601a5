-- The clock has not gone back.
use Rattle.std.proofs.Common.{◌≤◌}
use Rattle.stub_net_sockets.proofs.socket_network.SocketNetwork.receive.Given as goal

abbrev pub invariant-loop-wait : goal.invariant-loop-wait
invariant-loop-wait g l = l.fn.self.clock.last ≤ l.self.1.1.1.0.last
