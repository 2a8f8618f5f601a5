use Rattle.std.proofs.Common.{[], ◌∷◌, Some, map, refl}
use Rattle.dns_sockets.specs.Handler.{Handled, deliveries_if, request_content}
use Rattle.dns_sockets.proofs.StreamStepLaws.{handled_at_least, refused_answered, together_on}
use Rattle.dns_sockets.proofs.stream.Stream.respond_together.Goals as goal

pub returns-in_err-deliveries-clause-calls : goal.returns-in_err-deliveries-clause-calls
returns-in_err-deliveries-clause-calls g c = record {
  events = Handled (map request_content c.args.requests.now) (deliveries_if c.handle.result) ∷ [];
  led = (c.handle.new.self, (c.handle.ensures, refl));
  holds = ((deliveries_if c.handle.result, refl), refused_answered _ _ _ c.args.self.now.held.items c.from_residual.ensures.0 (handled_at_least (map request_content c.args.requests.now) (deliveries_if c.handle.result) c.args.self.now.held.items));
}

pub returns-clause-calls : goal.returns-clause-calls
returns-clause-calls g c = record {
  events = Handled (map request_content c.args.requests.now) (Some c.in_ok-deliveries.deliveries.items) ∷ [];
  led = (c.handle.new.self, (c.in_ok-deliveries.ensures, refl));
  holds = ((Some c.in_ok-deliveries.deliveries.items, refl), together_on c.hold.result (map request_content c.args.requests.now) c.in_ok-deliveries.deliveries.items c.args.self.now.held.items c.hold.new.self.held.items c.args.now c.requires c.hold.ensures.held);
}
