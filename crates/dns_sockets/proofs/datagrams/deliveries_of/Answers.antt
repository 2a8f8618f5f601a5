use Rattle.std.proofs.Common.{◌∙◌, List, [], ◌∷◌, ap, inl, inr, map, refl}
use Rattle.dns_sockets.specs.Handler.{Handled, RequestContent, deliveries_if, request_content}
use Rattle.dns_sockets.proofs.DeliveryLaws.{no_deliveries}
use Rattle.dns_sockets.proofs.datagrams.deliveries_of.Goals as goal

pub returns-in_err-requests : goal.returns-in_err-requests
returns-in_err-requests g c = record { events = []; led = refl; holds = inr (refl, no_deliveries _ c.from_residual.ensures.0) }

pub returns : goal.returns
returns g c = record {
  events = Handled (map request_content c.as_slice.result.now) (deliveries_if c.handle.result) ∷ [];
  led = (c.handle.new.self, (c.handle.ensures, refl));
  holds = inl (ap (λ (requests : List RequestContent). Handled requests (deliveries_if c.handle.result) ∷ [])
      (ap (map request_content) c.as_slice.ensures.value ∙ c.in_ok-requests.ensures));
}
