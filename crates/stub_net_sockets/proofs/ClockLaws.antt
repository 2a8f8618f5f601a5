-- The clock of a network over sockets.
use Rattle.std.proofs.Common.{◌≡◌, refl, ap, arith}
use Rattle.stub_net.specs.Time.{IsClock}
use Rattle.stub_net_sockets.specs.SocketNetwork.{socket_calls, socket_clock}
use Rattle.stub_net_sockets.specs.declared.socket_network.SocketNetwork.{SocketNetwork}
use Rattle.stub_net_sockets.specs.declared.stopwatch.Stopwatch.{Stopwatch}

-- it does not go back, and no datagram is received after its deadline
pub sockets-clock : {R : Type 0} → IsClock {N = SocketNetwork R} socket_calls socket_clock
sockets-clock {R} = record {
  sends = λ old server bytes result new k. let e : new.clock.last ≡ old.clock.last = ap (λ (c : Stopwatch R). c.last) k in omega (arith, e);
  receives = λ old deadline result new r. r.kept;
  streams = λ old server bytes deadline result new k. k;
  reads_clock = λ old now new r. (r.kept, omega (arith, r.noted));
  arrives = λ old deadline bytes new r. omega (arith, r.arrived bytes refl);
}
