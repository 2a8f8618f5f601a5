-- Requests to a zone from a sender with so much room for the reply.
use Rattle.std.specs.Prelude.{◌≡◌, if◌then◌else◌, nat_le, length, List, ℕ, None, Result, Ok, Err}
use Rattle.api.specs.declared.buffer.refusal.Refusal.{Refusal}
use Rattle.api.specs.declared.buffer.refusal.Refusal.TheVariants as refusal
use Rattle.dns_messages.specs.declared.message.Message.{Message}
use Rattle.dns_zone.specs.Request.{DecodesRequest, IsRequest}
use Rattle.dns_zone.specs.Rows.{ZoneContent}
use Rattle.dns_zone.specs.Serving.{IsReplyTo, zone_after}
use Rattle.dns_zone.specs.declared.transport.Transport.{Transport}
use Rattle.api.specs.zones.Transport.{IsTransport}
use Rattle.api.specs.zones.Transport as by

-- the zone after a request, if its reply fits the room
abbrev pub zone_within : ℕ → List ℕ → ZoneContent → Message → ZoneContent
zone_within room reply zone m = if nat_le (length reply) room then zone_after zone m else zone

-- The bytes are a request, which has this reply, and leaves this zone.
pub record Serves (zone : ZoneContent) (reply_transport : Transport) (bytes : List ℕ) (room : ℕ) (reply : List ℕ) (after : ZoneContent) : Type 0 where
  pub request : Message
  pub decodes : IsRequest bytes request
  pub replied : IsReplyTo zone reply_transport request reply
  pub after_is : after ≡ zone_within room reply zone request

-- why a request has no reply
abbrev pub IsUnserved : List ℕ → Refusal → Type 0
IsUnserved bytes refusal.NoReply = DecodesRequest bytes None
IsUnserved bytes refusal.Memory = Unit {0}
IsUnserved bytes other = ⊥

-- why a request over a transport is refused: by the number of the transport, or by what the request is
pub data IsRefused (transport limit : ℕ) (bytes : List ℕ) (refusal : Refusal) : Type 0 where
  by_transport : by.IsRefused transport limit refusal → IsRefused transport limit bytes refusal
  by_request : (reply_transport : Transport) → IsTransport transport limit reply_transport → IsUnserved bytes refusal
      → IsRefused transport limit bytes refusal

-- the reply to a request over a transport, with the zone that it leaves, or why there is none, and the zone as it was
pub data Replies (zone : ZoneContent) (transport limit : ℕ) (bytes : List ℕ) (room : ℕ)
    : Result (List ℕ) Refusal → ZoneContent → Type 0 where
  served : (reply_transport : Transport) (reply : List ℕ) (after : ZoneContent) → IsTransport transport limit reply_transport
      → Serves zone reply_transport bytes room reply after → Replies zone transport limit bytes room (Ok reply) after
  unserved : (refusal : Refusal) → IsRefused transport limit bytes refusal
      → Replies zone transport limit bytes room (Err refusal) zone
