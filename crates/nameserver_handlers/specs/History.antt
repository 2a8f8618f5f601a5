-- What a name server has sent, and what has become of its zones, after acts of its service.
use Rattle.std.specs.Prelude.{◌≡◌, ◌++◌, ⊤, true, List, [], ◌∷◌, ℕ, Some}
use Rattle.std.specs.Global.{Vec}
use Rattle.std.specs.List.{Contains}
use Rattle.std.specs.declared.net.socket_addr.SocketAddr.{SocketAddr}
use Rattle.dns_durable.specs.Incoming.{IsJudged}
use Rattle.dns_durable.specs.Reply.{makes_change}
use Rattle.dns_durable.specs.declared.incoming.Admitted.{Admitted}
use Rattle.dns_faults.specs.declared.delivery.Delivery.{Delivery}
use Rattle.dns_sockets.specs.Handler.{HandlerEvent, RequestContent, Handled, Noticed, Took, Transferred}
use Rattle.dns_sockets.specs.Sent.{IsHandled}
use Rattle.dns_sockets.specs.Trace.{Act, At, By, Leads, Nowhere}
use Rattle.dns_sockets.specs.World.{WorldEvent}
use Rattle.nameserver_handlers.specs.Handling.{IsTerms}
use Rattle.nameserver_handlers.specs.declared.settings.Settings.{Settings}

-- ---- datagrams

-- Requests that arrived together are handled, with these deliveries, by the state to which the acts before have led.
pub record IsHandledAfter {D H : Type 0} (performs : D → WorldEvent → D → Type 0) (steps : H → HandlerEvent → H → Type 0) (world : D) (old : H)
    (earlier : List Act) (requests : List RequestContent) (deliveries : List Delivery) : Type 0 where
  pub reached : D
  pub current : H
  pub next : H
  pub leads : Leads performs steps world old earlier reached current
  pub step : steps current (Handled requests (Some deliveries)) next

-- A datagram is what was answered to a request that its peer had sent to the same socket, by the state of the moment at which it was handled;
-- or a notification.
pub data IsAnswer {D H : Type 0} (performs : D → WorldEvent → D → Type 0) (steps : H → HandlerEvent → H → Type 0) (world : D) (old : H)
    (socket : ℕ) (bytes : List ℕ) (peer : SocketAddr) (acts : List Act) : Type 0 where
  to_request : (request : RequestContent) (delivery : Delivery) (reply : Vec ℕ) (handled : IsHandled socket request delivery acts) → request.peer ≡ peer
      → delivery.reply ≡ Some reply → reply.items ≡ bytes
      → IsHandledAfter performs steps world old handled.before handled.requests handled.deliveries
      → IsAnswer performs steps world old socket bytes peer acts
  as_notification : (now : ℕ) → Contains acts (By Nowhere (Noticed now (Some (record { peer = peer; bytes = bytes }))))
      → IsAnswer performs steps world old socket bytes peer acts

-- ---- zones

-- the requests that are handled in a call
abbrev pub requests_of : HandlerEvent → List RequestContent
requests_of (Handled requests outcome) = requests
requests_of (Transferred request is_busy messages) = []
requests_of (Took request is_taken) = []
requests_of (Noticed now notice) = []

-- the requests that are handled, in order
abbrev pub requests_in : List Act → List RequestContent
requests_in [] = []
requests_in (At event ∷ acts) = requests_in acts
requests_in (By origin event ∷ acts) = requests_of event ++ requests_in acts

-- A request is an update that may be made: by its address (RFC 2136 section 3.3), or by the grants of the key of its holder.
pub record MayUpdate (settings : Settings) (r : RequestContent) : Type 0 where
  pub request : Admitted
  pub bytes_are : request.incoming.bytes.now ≡ r.bytes
  pub terms_are : IsTerms settings r request.incoming.terms.now
  pub judged : IsJudged settings.policy request
  pub is_change : makes_change request ≡ true

-- none of these is
abbrev pub NoneUpdates : Settings → List RequestContent → Type 0
NoneUpdates settings [] = ⊤
NoneUpdates settings (r ∷ rs) = ¬ (MayUpdate settings r) × NoneUpdates settings rs
