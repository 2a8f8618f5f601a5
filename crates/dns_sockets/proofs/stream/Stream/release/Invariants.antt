-- All replies are still to be written.
use Rattle.std.proofs.Common.{◌≡◌, false}
use Rattle.dns_sockets.specs.Connections.{connection_of}
use Rattle.dns_sockets.specs.StreamSteps.{ends}
use Rattle.dns_sockets.proofs.stream.Stream.release.Given as goal

abbrev pub invariant-loop-reply : goal.invariant-loop-reply
invariant-loop-reply l = record {
  same : connection_of l.self ≡ connection_of l.fn.self;
  goes_on : ends l.released ≡ false;
  active : l.self.last_activity ≡ l.fn.self.last_activity;
}
