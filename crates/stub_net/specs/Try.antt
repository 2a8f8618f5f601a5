-- One try of a server: a datagram and the wait for its reply, and a stream if the reply is truncated (RFC 1035 section 4.2, RFC
-- 7766 section 5).
use Rattle.std.specs.Prelude.{◌≡◌, ◌+◌, ◌-◌, ◌^◌, min, Bool, true, false, if◌then◌else◌, List, ℕ, Option, Some, None, Result, Ok, Err}
use Rattle.std.specs.declared.net.socket_addr.SocketAddr.{SocketAddr}
use Rattle.dns_messages.specs.declared.message.Message.{Message}
use Rattle.dns_messages.specs.declared.response.DnsResponse.{DnsResponse}
use Rattle.stub_client.specs.Handle.{Outcome}
use Rattle.stub_link.specs.Ask.{faults_after}
use Rattle.stub_link.specs.Wait.{one_more}
use Rattle.stub_link.specs.declared.link.LinkError.{LinkError}
use Rattle.stub_link.specs.declared.link.LinkError.TheVariants.{Failed, Memory}
use Rattle.stub_lookup.specs.declared.error.LinkFault.TheVariants as fault
use Rattle.stub_lookup.specs.declared.error.NetError.TheVariants as net
use Rattle.stub_servers.specs.declared.server.Server.{Server}
use Rattle.stub_net.specs.Network.{NetworkCalls}
use Rattle.stub_net.specs.Request.{Finds, IsHeaded, is_cut_reply, whole_reply}
use Rattle.stub_net.specs.Wait.{Awaits}
use Rattle.stub_net.specs.declared.requester.NetCounts.{NetCounts}
use Rattle.stub_net.specs.declared.requester.Requester.{Requester}

-- ---- who asks

-- nothing is counted yet
abbrev pub first_counts : NetCounts
first_counts = record { datagrams = 0; streams = 0; dropped = 0; faults = 0 }

-- a requester over another network
abbrev pub over_network : {N : Type 0} → N → Requester N → Requester N
over_network network requester = record requester { network = network }

-- a datagram was sent
abbrev pub count_datagram : {N : Type 0} → Requester N → Requester N
count_datagram requester =
    record requester { counts = record requester.counts { datagrams = one_more requester.counts.datagrams } }

-- a message is sent over a stream
abbrev pub count_stream : {N : Type 0} → Requester N → Requester N
count_stream requester =
    record requester { counts = record requester.counts { streams = one_more requester.counts.streams } }

-- the fault of an outcome is counted, if it is one
abbrev pub count_fault : {N : Type 0} → Outcome → Requester N → Requester N
count_fault outcome requester =
    record requester { counts = record requester.counts { faults = faults_after outcome requester.counts.faults } }

-- ---- the deadline

-- a wait that begins at a moment ends when the time-out has passed, or at 2^64 - 1
abbrev pub end_of_wait : ℕ → ℕ → ℕ
end_of_wait start timeout = min (start + timeout) (2 ^ 64 - 1)

-- the clock is read as a wait begins
pub record ReadsDeadline {N : Type 0} (reads_clock : N → ℕ → N → Type 0) (old : Requester N) (deadline : ℕ) (new : Requester N)
    : Type 0 where
  pub start : ℕ
  pub after : N
  pub reads : reads_clock old.network start after
  pub deadline_is : deadline ≡ end_of_wait start old.timeout
  pub new_is : new ≡ over_network after old

-- ---- the datagram

-- The reply is awaited until the time-out passes.
pub record AwaitsReply {N : Type 0} (calls : NetworkCalls N) (m : Message) (old : Requester N) (outcome : Outcome)
    (new : Requester N) : Type 0 where
  pub deadline : ℕ
  pub mid : Requester N
  pub network : N
  pub dropped : ℕ
  pub reads : ReadsDeadline calls.reads_clock old deadline mid
  pub awaits : Awaits calls m deadline (2 ^ 64 - 1) mid.network mid.counts.dropped outcome network dropped
  pub new_is : new ≡ record mid { network = network; counts = record mid.counts { dropped = dropped } }

-- the datagram was sent, or was not: F1
abbrev pub AfterSend : {N : Type 0} → NetworkCalls N → Message → Result (Unit {0}) LinkError → Requester N → Outcome → Requester N
    → Type 0
AfterSend calls m (Ok done) mid outcome new = AwaitsReply calls m (count_datagram mid) outcome new
AfterSend calls m (Err Failed) mid outcome new = (outcome ≡ Err (net.Link fault.NotSent)) × (new ≡ mid)
AfterSend calls m (Err Memory) mid outcome new = (outcome ≡ Err net.Memory) × (new ≡ mid)

-- A request is sent to a server by a datagram, and its reply is awaited.
pub record SendsDatagram {N : Type 0} (calls : NetworkCalls N) (m : Message) (bytes : List ℕ) (server : SocketAddr)
    (old : Requester N) (outcome : Outcome) (new : Requester N) : Type 0 where
  pub result : Result (Unit {0}) LinkError
  pub network : N
  pub sends : calls.sends old.network server bytes result network
  pub after : AfterSend calls m result (over_network network old) outcome new

-- ---- the stream

-- The reply over a stream, or F6 if it is truncated, too; F8 if it is another message; F5 if the stream failed. There may be no
-- memory for it.
pub data StreamEnds (m : Message) : Result (List ℕ) LinkError → Outcome → Type 0 where
  stream_replies : (bytes : List ℕ) (response : DnsResponse) → Finds m bytes (Some response)
      → StreamEnds m (Ok bytes) (whole_reply m response)
  other_message : (bytes : List ℕ) → Finds m bytes None → StreamEnds m (Ok bytes) (Err (net.Link fault.StreamMismatch))
  no_memory_for_message : (bytes : List ℕ) → IsHeaded m bytes → StreamEnds m (Ok bytes) (Err net.Memory)
  stream_fails : StreamEnds m (Err Failed) (Err (net.Link fault.StreamFailed))
  no_memory_for_stream : StreamEnds m (Err Memory) (Err net.Memory)

-- A request is sent to a server over a stream, which has a time-out of its own.
pub record AsksStream {N : Type 0} (calls : NetworkCalls N) (m : Message) (bytes : List ℕ) (server : SocketAddr)
    (old : Requester N) (outcome : Outcome) (new : Requester N) : Type 0 where
  pub deadline : ℕ
  pub mid : Requester N
  pub result : Result (List ℕ) LinkError
  pub network : N
  pub reads : ReadsDeadline calls.reads_clock (count_stream old) deadline mid
  pub streams : calls.streams mid.network server bytes deadline result network
  pub ends : StreamEnds m result outcome
  pub new_is : new ≡ over_network network mid

-- ---- the try

-- a truncated reply is asked for again over a stream to the same server, or is F6 if the server has no address for streams
abbrev pub AfterDatagram : {N : Type 0} → NetworkCalls N → Message → List ℕ → Bool → Option SocketAddr → Outcome → Requester N
    → Outcome → Requester N → Type 0
AfterDatagram calls m bytes false tcp waited mid outcome new = (outcome ≡ waited) × (new ≡ mid)
AfterDatagram calls m bytes true (Some tcp) waited mid outcome new = AsksStream calls m bytes tcp mid outcome new
AfterDatagram calls m bytes true None waited mid outcome new = (outcome ≡ Err (net.Link fault.Truncated)) × (new ≡ mid)

-- A server is asked by a datagram first.
pub record AsksDatagram {N : Type 0} (calls : NetworkCalls N) (m : Message) (bytes : List ℕ) (udp : SocketAddr)
    (tcp : Option SocketAddr) (old : Requester N) (outcome : Outcome) (new : Requester N) : Type 0 where
  pub waited : Outcome
  pub mid : Requester N
  pub sent : SendsDatagram calls m bytes udp old waited mid
  pub ends : AfterDatagram calls m bytes (is_cut_reply m waited) tcp waited mid outcome new

-- a server without an address for datagrams is asked over a stream at once, and one without any address not at all: F1
abbrev pub TriesAddresses : {N : Type 0} → NetworkCalls N → Message → List ℕ → Option SocketAddr → Option SocketAddr → Requester N
    → Outcome → Requester N → Type 0
TriesAddresses calls m bytes (Some udp) tcp old outcome new = AsksDatagram calls m bytes udp tcp old outcome new
TriesAddresses calls m bytes None (Some tcp) old outcome new = AsksStream calls m bytes tcp old outcome new
TriesAddresses calls m bytes None None old outcome new = (outcome ≡ Err (net.Link fault.NotSent)) × (new ≡ old)

-- One try of a server. No datagrams are sent where streams are used alone.
abbrev pub Tries : {N : Type 0} → NetworkCalls N → Message → List ℕ → Server → Requester N → Outcome → Requester N → Type 0
Tries calls m bytes server old outcome new =
    TriesAddresses calls m bytes (if old.streams_alone then None else server.udp) server.tcp old outcome new
