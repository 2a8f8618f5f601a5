-- What a handler does, as it and its caller see it.
use Rattle.std.specs.Prelude.{Bool, List, map, ℕ, Option, Some, None, Result, Ok, Err}
use Rattle.std.specs.Global.{Vec}
use Rattle.std.specs.declared.alloc.AllocError.{AllocError}
use Rattle.std.specs.declared.net.socket_addr.SocketAddr.{SocketAddr}
use Rattle.dns_faults.specs.declared.delivery.Delivery.{Delivery}
use Rattle.dns_faults.specs.declared.rules.fault.Transport.{Transport}
use Rattle.dns_sockets.specs.declared.handler.Notice.{Notice}
use Rattle.dns_sockets.specs.declared.handler.Request.{Request}

-- a request: its bytes, the peer that sent it, how it arrived, and when
pub record RequestContent : Type 0 where
  pub bytes : List ℕ
  pub peer : SocketAddr
  pub transport : Transport
  pub moment : ℕ

-- what a request is, wherever its bytes are
abbrev pub request_content : Request → RequestContent
request_content r = record { bytes = r.bytes.now; peer = r.peer; transport = r.transport; moment = r.moment }

-- a datagram without a request: its peer and its bytes
pub record NoticeContent : Type 0 where
  pub peer : SocketAddr
  pub bytes : List ℕ

-- What a handler does. Its answer is None for want of memory.
pub data HandlerEvent : Type 0 where
  -- requests that arrived together have these deliveries
  Handled : List RequestContent → Option (List Delivery) → HandlerEvent
  -- a request over a stream, while other replies of several messages keep it busy or not, has these messages, or is to be handled
  Transferred : RequestContent → Bool → Option (Option (List (List ℕ))) → HandlerEvent
  -- a response is one that was expected, or not
  Took : RequestContent → Bool → HandlerEvent
  -- at a moment, this is due to be sent without a request, or nothing is
  Noticed : ℕ → Option NoticeContent → HandlerEvent

-- the deliveries, or none for want of memory
abbrev pub deliveries_if : Result (Vec Delivery) AllocError → Option (List Delivery)
deliveries_if (Ok deliveries) = Some deliveries.items
deliveries_if (Err error) = None

-- the bytes of a message
abbrev pub message_bytes : Vec ℕ → List ℕ
message_bytes message = message.items

-- the messages of a reply that has several, if it has
abbrev pub messages_of : Option (Vec (Vec ℕ)) → Option (List (List ℕ))
messages_of None = None
messages_of (Some messages) = Some (map message_bytes messages.items)

-- the same, or none for want of memory
abbrev pub messages_if : Result (Option (Vec (Vec ℕ))) AllocError → Option (Option (List (List ℕ)))
messages_if (Ok messages) = Some (messages_of messages)
messages_if (Err error) = None

-- a datagram without a request, if there is one
abbrev pub notice_if : Option Notice → Option NoticeContent
notice_if None = None
notice_if (Some notice) = Some (record { peer = notice.peer; bytes = notice.bytes.items })
