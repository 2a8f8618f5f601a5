-- What was done so far is allowed, and left this.
use Rattle.std.proofs.Common.{◌≡◌, ◌<◌, ◌⊎◌, false}
use Rattle.std.specs.List.{AllByRecursion}
use Rattle.dns_sockets.specs.Connections.{connection_of}
use Rattle.dns_sockets.specs.Moments.{IsTimed}
use Rattle.dns_sockets.specs.StreamSteps.{Leaves}
use Rattle.dns_sockets.specs.Trace.{IsOfStream, Traces, moved_in}
use Rattle.dns_sockets.proofs.stream.Stream.go_on.Given as goal

abbrev pub invariant-loop-step : goal.invariant-loop-step
invariant-loop-step g l = record {
  acts : Traces g.W.World.performs g.H.Handler.steps l.initial.world l.initial.handler l.world l.handler
      (λ acts. AllByRecursion (IsOfStream l.index) acts × Leaves false l.index (connection_of l.initial.self) acts (connection_of l.self) × IsTimed acts);
  active : (l.self.last_activity ≡ l.initial.self.last_activity)
      ⊎ Traces g.W.World.performs g.H.Handler.steps l.initial.world l.initial.handler l.world l.handler (λ acts. 0 < moved_in acts);
}
