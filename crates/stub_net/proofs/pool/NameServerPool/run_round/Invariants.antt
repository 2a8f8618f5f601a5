use Rattle.std.proofs.Common.{List, ℕ, drop, ◌++◌}
use Rattle.stub_net.specs.Network.{network_calls}
use Rattle.stub_net.proofs.RunLaws.{RunsOn}
use Rattle.stub_net.proofs.pool.NameServerPool.run_round.Given as goal

-- What the rest of the order leads to, all of it leads to.
abbrev pub invariant-loop-place : goal.invariant-loop-place
invariant-loop-place g l =
    (rest : List ℕ) → RunsOn (network_calls g.N.Network.sends g.N.Network.receives g.N.Network.streams g.N.Network.reads_clock) l.message l.bytes (drop l.place-index l.order ++ rest) l.last l.self (l.order ++ rest) l.fn.before l.fn.self
