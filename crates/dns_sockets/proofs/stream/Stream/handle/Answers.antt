use Rattle.std.proofs.Common.{[], ◌∷◌, None, Some, refl}
use Rattle.dns_sockets.specs.Connections.{connection_of}
use Rattle.dns_sockets.specs.World.{Clocked}
use Rattle.dns_sockets.proofs.StreamStepLaws.{failed_leaves}
use Rattle.dns_sockets.proofs.stream.Stream.handle.Goals as goal

pub returns-in_err-moment-clause-answers : goal.returns-in_err-moment-clause-answers
returns-in_err-moment-clause-answers g c = record {
  events = Clocked None ∷ [];
  calls = [];
  led = (c.now.new.self, (c.in_err-moment.ensures, refl));
  called = refl;
  holds = (None, (refl, (refl, failed_leaves c.from_residual.result c.from_residual.ensures.0 (connection_of c.args.self.now))));
}

pub returns-in-Ok-clause-answers : goal.returns-in-Ok-clause-answers
returns-in-Ok-clause-answers g c = record {
  events = Clocked (Some c.in_ok-moment.moment) ∷ [];
  calls = c.in-Ok.ensures.calls.events;
  led = (c.now.new.self, (c.in_ok-moment.ensures, refl));
  called = c.in-Ok.ensures.calls.led;
  holds = (Some c.in_ok-moment.moment, (refl, c.in-Ok.ensures.calls.holds));
}

pub returns-in-Err-clause-answers : goal.returns-in-Err-clause-answers
returns-in-Err-clause-answers g c = record {
  events = Clocked (Some c.in_ok-moment.moment) ∷ [];
  calls = c.in-Err.ensures.calls.events;
  led = (c.now.new.self, (c.in_ok-moment.ensures, refl));
  called = c.in-Err.ensures.calls.led;
  holds = (Some c.in_ok-moment.moment, (refl, c.in-Err.ensures.calls.holds));
}
