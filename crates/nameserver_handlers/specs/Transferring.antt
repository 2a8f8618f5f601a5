-- Transfers of zones, for a requestor at an address.
use Rattle.std.specs.Prelude.{◌≡◌, ◌&&◌, ◌-◌, not, length, slice_get, Bool, true, false, List, ℕ, Option, Some, None}
use Rattle.std.specs.Net.Socket.{socket_ip}
use Rattle.dns_faults.specs.declared.rules.fault.Transport.{Transport}
use Rattle.dns_faults.specs.declared.rules.fault.Transport.TheVariants as transports
use Rattle.dns_messages.specs.Header.{peeked_metadata}
use Rattle.dns_nameserver.specs.Answered.{IsCoverageOf}
use Rattle.dns_sockets.specs.Handler.{RequestContent}
use Rattle.dns_transfers.specs.replies.Reply.{Replies, has_authorities, has_query}
use Rattle.dns_transfers.specs.declared.replies.reply.Terms.{Terms}
use Rattle.dns_transfers.specs.declared.replies.zone_history.ZoneHistory.{ZoneHistory}
use Rattle.dns_tsig.specs.declared.key.Key.{Key}
use Rattle.dns_zone.specs.Rows.{ZoneContent}
use Rattle.dns_zone.specs.declared.transport.Transport as reply
use Rattle.nameserver_handlers.specs.declared.transfers.Sources.{Sources}
use Rattle.nameserver_handlers.specs.Clock.{Shows}
use Rattle.nameserver_handlers.specs.declared.transfers.Transfers.{Transfers}

-- what is transferred: zones, their last differences, and the keys with which requests may be signed
pub record Content : Type 0 where
  pub zones : List ZoneContent
  pub histories : List ZoneHistory
  pub keys : List Key

-- the same of borrowed sources
abbrev pub content_of : Sources → Content
content_of s = record { zones = s.zones.now; histories = s.histories.now; keys = s.keys.now }

-- What decides on the reply to a request, beside its bytes: the transport, whether its peer is one of the secondaries, unless the server is
-- busy, and the time by which its signature is in time.
pub record AreTerms (t : Transfers) (is_busy : Bool) (transport : reply.Transport) (r : RequestContent) (terms : Terms) : Type 0 where
  pub covered : Bool
  pub coverage : IsCoverageOf t.secondaries (socket_ip r.peer) covered
  pub permitted : terms.is_permitted ≡ (not is_busy && covered)
  pub transport_is : terms.transport ≡ transport
  pub time_is : Shows t.clock r.moment terms.time

-- Whether a request is for a transfer depends on its bytes alone; whether it is permitted, on the addresses of the secondaries, and on
-- whether the server is busy.
abbrev pub Transfer : Content → Transfers → Bool → reply.Transport → RequestContent → Option (List (List ℕ)) → Type 0
Transfer content t is_busy transport r found =
    (terms : Terms) × (AreTerms t is_busy transport r terms
    × Replies content.zones content.histories content.keys terms r.bytes found)

-- the same if transfers are offered; else no request is for one
abbrev pub TransferIf : Bool → Content → Transfers → Bool → reply.Transport → RequestContent → Option (List (List ℕ)) → Type 0
TransferIf false content t is_busy transport r found = found ≡ None
TransferIf true content t is_busy transport r found = Transfer content t is_busy transport r found

-- whether a request arrived in a datagram
abbrev pub is_datagram : Transport → Bool
is_datagram transports.Datagram = true
is_datagram transports.Stream = false

-- Whether transfers are offered in datagrams for a request: one for an incremental transfer (RFC 1995 section 2).
abbrev pub offers_by_datagram : Transfers → RequestContent → Bool
offers_by_datagram t r = t.are_offered && (is_datagram r.transport && (has_authorities r.bytes && has_query (peeked_metadata r.bytes)))

-- the last of messages, if there are any
abbrev pub last_of : Option (List (List ℕ)) → Option (List ℕ)
last_of None = None
last_of (Some messages) = slice_get messages (length messages - 1)

-- the reply to a request for an incremental transfer in a datagram, or none to another request
abbrev pub TransferByDatagram : Content → Transfers → reply.Transport → RequestContent → Option (List ℕ) → Type 0
TransferByDatagram content t transport r found =
    (messages : Option (List (List ℕ))) × (TransferIf (offers_by_datagram t r) content t false transport r messages × (found ≡ last_of messages))
