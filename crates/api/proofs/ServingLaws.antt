-- The reply to a request over a transport, from what serving it over that transport led to.
use Rattle.std.proofs.Common.{◌≡◌, ℕ, List, IfOk, IfErr, OnErr, Result, Ok, Err, sym, subst}
use Rattle.api.specs.buffer.Buffer.{bytes_in}
use Rattle.api.specs.declared.buffer.refusal.Refusal.{Refusal}
use Rattle.api.specs.zones.Serving.{IsRefused, IsUnserved, Replies, Serves}
use Rattle.api.specs.zones.Transport.{IsTransport}
use Rattle.dns_zone.specs.Rows.{ZoneContent}
use Rattle.dns_zone.specs.declared.transport.Transport.{Transport}

pub over_transport : {V : Type 0} (items : V → List ℕ) (found : Result V Refusal) {zone after : ZoneContent} {transport limit room : ℕ} {bytes : List ℕ} (reply_transport : Transport)
    → IsTransport transport limit reply_transport → IfOk found (λ v. Serves zone reply_transport bytes room (items v) after) → IfErr found (IsUnserved bytes) → OnErr found (after ≡ zone)
    → Replies zone transport limit bytes room (bytes_in items found) after
over_transport items (Ok v) {after = after} reply_transport is serves unserved same = Replies.served reply_transport (items v) after is serves
over_transport items (Err refusal) {zone = zone} {transport = transport} {limit = limit} {room = room} {bytes = bytes} reply_transport is serves unserved same =
    subst (λ z. Replies zone transport limit bytes room (Err refusal) z) (sym same) (Replies.unserved refusal (IsRefused.by_request reply_transport is unserved))
