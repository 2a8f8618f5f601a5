-- A run that takes as long as an exchange may: two servers are asked in one round, each for the longest time. A datagram that is not
-- the reply comes, and then, as the time-out of 100 milliseconds passes, a truncated reply; the stream is silent.
use Rattle.std.proofs.Common.{◌≡◌, ◌<◌, ◌≤◌, ◌^◌, ◌-◌, ◌+◌, ◌*◌, ℕ, List, [], ◌∷◌, true, false, length, Option, Some, None, Result, Ok, Err, refl, ap, arith, inl, inr, length-append}
use Rattle.std.specs.Global.{Vec, Global}
use Rattle.std.specs.declared.net.socket_addr.SocketAddr.{SocketAddr}
use Rattle.std.specs.declared.ops.ControlFlow.TheVariants.{Continue}
use denote.RawPtr.{null_ptr}
use Rattle.dns_wire.specs.Reading.{at_closing}
use Rattle.dns_wire.specs.declared.codes.dns_class.DNSClass.TheVariants as classes
use Rattle.dns_wire.specs.declared.codes.record_type.RecordType.TheVariants as types
use Rattle.dns_messages.specs.Grammar.{ReadsMessage, ReadsQuestion}
use Rattle.dns_messages.specs.Header.{new_metadata}
use Rattle.dns_messages.specs.Message.{empty_message}
use Rattle.dns_messages.specs.declared.header.Header.{Header}
use Rattle.dns_messages.specs.declared.message.Message.{Message}
use Rattle.dns_messages.specs.declared.message_type.MessageType.TheVariants as kinds
use Rattle.dns_messages.specs.declared.op_code.OpCode.TheVariants as ops
use Rattle.dns_messages.specs.declared.query.Query.{Query}
use Rattle.dns_messages.specs.declared.response.DnsResponse.{DnsResponse}
use Rattle.stub_client.specs.Handle.{Outcome}
use Rattle.stub_config.specs.declared.config.connection.Protocol.{Protocol}
use Rattle.stub_config.specs.declared.config.connection.Protocol.TheVariants.{Tcp, Udp}
use Rattle.stub_link.specs.Link.{Encodes}
use Rattle.stub_link.specs.declared.link.LinkError.{LinkError}
use Rattle.stub_link.specs.declared.link.LinkError.TheVariants.{Failed}
use Rattle.stub_lookup.specs.declared.error.LinkFault.TheVariants as fault
use Rattle.stub_lookup.specs.declared.error.NetError.TheVariants as net
use Rattle.stub_servers.specs.ServerList.{servers_from, with_failure}
use Rattle.stub_servers.specs.declared.server.Server.{Server}
use Rattle.stub_net.specs.Exchange.{Exchanges, TriesPlace, all_tried, next_is_tried, no_try, plan_runs, server_declined}
use Rattle.stub_net.specs.Laws.{IsMeter}
use Rattle.stub_net.specs.Request.{Finds}
use Rattle.stub_net.specs.Script.{Receives, ScriptState, Streams, TakesEvent, first_script, in_time, passed, script_calls, script_over, too_late, transmit}
use Rattle.stub_net.specs.Time.{EndsInTime}
use Rattle.stub_net.specs.Try.{Tries, first_counts, stream_fails}
use Rattle.stub_net.specs.Wait.{Awaits, other_arrives, reply_arrives}
use Rattle.stub_net.specs.declared.network.scripted.NetworkEvent.TheVariants.{Arrival, Failure, SendFailure, Silence}
use Rattle.stub_net.specs.declared.network.scripted.NetworkEvent.{NetworkEvent}
use Rattle.stub_net.specs.declared.network.scripted.TimedEvent.{TimedEvent}
use Rattle.stub_net.specs.declared.pool.NameServerPool.{NameServerPool}
use Rattle.stub_net.specs.declared.requester.Requester.{Requester}
use Rattle.stub_net.proofs.ScriptTimeLaws.{scripts-timed}
use Rattle.stub_net.proofs.TimeLaws.{exchange-ends}

-- ---- the messages

-- the question for the A records of the root, and the truncated reply to it
abbrev pub query : Query
query = record { name = record { is_fqdn = true; labels = [] }; query_type = types.A; query_class = classes.IN }

abbrev pub question : Message
question = record (empty_message (new_metadata 7 kinds.Query ops.Query)) { queries = query ∷ [] }

abbrev cut : Message
cut = record (empty_message (record (new_metadata 7 kinds.Response ops.Query) { truncation = true })) { queries = query ∷ [] }

abbrev pub request : List ℕ
request = 0 ∷ 7 ∷ 0 ∷ 0 ∷ 0 ∷ 1 ∷ 0 ∷ 0 ∷ 0 ∷ 0 ∷ 0 ∷ 0 ∷ 0 ∷ 0 ∷ 1 ∷ 0 ∷ 1 ∷ []

abbrev cut_bytes : List ℕ
cut_bytes = 0 ∷ 7 ∷ 130 ∷ 0 ∷ 0 ∷ 1 ∷ 0 ∷ 0 ∷ 0 ∷ 0 ∷ 0 ∷ 0 ∷ 0 ∷ 0 ∷ 1 ∷ 0 ∷ 1 ∷ []

reads_query : (third : ℕ) → ReadsQuestion (0 ∷ 7 ∷ third ∷ 0 ∷ 0 ∷ 1 ∷ 0 ∷ 0 ∷ 0 ∷ 0 ∷ 0 ∷ 0 ∷ 0 ∷ 0 ∷ 1 ∷ 0 ∷ 1 ∷ []) 12 query 17
reads_query third = record {
  sound = record { fqdn = refl; type_fits = omega arith; type_named = refl; class_fits = omega arith; class_named = refl };
  there = (13, at_closing refl, (15, record { ends = refl; within = omega arith; there = refl }, (17, record { ends = refl; within = omega arith; there = refl }, refl)));
}

abbrev header : Message → Header
header m = record { metadata = m.metadata; counts = record { queries = 1; answers = 0; authorities = 0; additionals = 0 } }

reads_question : ReadsMessage request question
reads_question = record {
  head = header question;
  header = record {
    third = 0;
    fourth = 0;
    there = record { ends = refl; within = omega arith; there = refl };
    metadata = refl;
    id_fits = omega arith;
    counts_fit = record { queries = omega arith; answers = omega arith; authorities = omega arith; additionals = omega arith };
  };
  queries_end = 17;
  queries = record { queries = (17, reads_query 0, refl); count_is = refl };
  answers_end = 17;
  answers = record { records = refl; count_is = refl; placed = tt };
  authorities_end = 17;
  authorities = record { records = refl; count_is = refl; placed = tt };
  last = [];
  end = 17;
  additionals = record { records = refl; count_is = refl; placed = tt };
  ordinary = refl;
  edns = refl;
  signature = refl;
  metadata = refl;
}

reads_cut : ReadsMessage cut_bytes cut
reads_cut = record {
  head = header cut;
  header = record {
    third = 130;
    fourth = 0;
    there = record { ends = refl; within = omega arith; there = refl };
    metadata = refl;
    id_fits = omega arith;
    counts_fit = record { queries = omega arith; answers = omega arith; authorities = omega arith; additionals = omega arith };
  };
  queries_end = 17;
  queries = record { queries = (17, reads_query 130, refl); count_is = refl };
  answers_end = 17;
  answers = record { records = refl; count_is = refl; placed = tt };
  authorities_end = 17;
  authorities = record { records = refl; count_is = refl; placed = tt };
  last = [];
  end = 17;
  additionals = record { records = refl; count_is = refl; placed = tt };
  ordinary = refl;
  edns = refl;
  signature = refl;
  metadata = refl;
}

pub encodes : Encodes question request
encodes = record { form_is = refl; decodes = reads_question; within = omega arith }

pub no_message : (m : Message) → ReadsMessage [] m → ⊥
no_message m reads =
    let within : 12 ≤ 0 = reads.header.there.within in
    absurd (omega arith)

abbrev vec : Global → (items : List ℕ) → length items < 2 ^ 63 → Vec ℕ
vec alloc items short = record { ptr = null_ptr; len = length items; cap = length items; alloc = alloc; items = items; ok = (refl, omega arith); small = short }

-- ---- the run

module _ (alloc : Global) (one other : SocketAddr) {I : Type 0} (ids : I) where
  abbrev response : DnsResponse
  response = record { message = cut; buffer = vec alloc cut_bytes (omega arith) }

  finds_cut : Finds question cut_bytes (Some response)
  finds_cut = (record { message = reads_cut; buffer = refl }, refl)

  -- at each server a datagram without bytes comes first, and the truncated reply at the deadline
  abbrev events : List TimedEvent
  events =
      record { delay = 40; event = Arrival [] } ∷ record { delay = 60; event = Arrival cut_bytes } ∷ record { delay = 0; event = Silence }
      ∷ record { delay = 30; event = Arrival [] } ∷ record { delay = 70; event = Arrival cut_bytes } ∷ []

  -- the states of the network
  abbrev before : ScriptState
  before = first_script events

  abbrev asked : ScriptState
  asked = transmit Udp one request before

  abbrev disturbed : ScriptState
  disturbed = record asked {
    clock = 40;
    script = record { delay = 60; event = Arrival cut_bytes } ∷ record { delay = 0; event = Silence }
        ∷ record { delay = 30; event = Arrival [] } ∷ record { delay = 70; event = Arrival cut_bytes } ∷ [];
  }

  abbrev truncated : ScriptState
  truncated = record asked {
    clock = 100;
    script = record { delay = 0; event = Silence }
        ∷ record { delay = 30; event = Arrival [] } ∷ record { delay = 70; event = Arrival cut_bytes } ∷ [];
  }

  abbrev silent : ScriptState
  silent = record (transmit Tcp one request truncated) { clock = 200; script = record { delay = 30; event = Arrival [] } ∷ record { delay = 70; event = Arrival cut_bytes } ∷ [] }

  abbrev asked_other : ScriptState
  asked_other = transmit Udp other request silent

  abbrev disturbed_other : ScriptState
  disturbed_other = record asked_other { clock = 230; script = record { delay = 70; event = Arrival cut_bytes } ∷ [] }

  abbrev truncated_other : ScriptState
  truncated_other = record asked_other { clock = 300; script = [] }

  abbrev silent_other : ScriptState
  silent_other = record (transmit Tcp other request truncated_other) { clock = 400 }

  -- the waits
  strayed : Receives asked 100 (Ok (Some [])) disturbed
  strayed = record { event = Arrival []; mid = disturbed; takes = in_time _ _ refl (omega arith); result_is = refl; new_is = refl }

  came : Receives disturbed 100 (Ok (Some cut_bytes)) truncated
  came = record { event = Arrival cut_bytes; mid = truncated; takes = in_time _ _ refl (omega arith); result_is = refl; new_is = refl }

  awaits : Awaits script_calls question 100 (2 ^ 64 - 1) asked 0 (Ok response) truncated 1
  awaits = other_arrives (2 ^ 64 - 1) asked 0 [] disturbed (Ok response) truncated 1 (omega arith) strayed (λ m reads. absurd (no_message m reads))
      (reply_arrives (2 ^ 64 - 2) disturbed 1 cut_bytes response truncated (omega arith) came finds_cut)

  strayed_other : Receives asked_other 300 (Ok (Some [])) disturbed_other
  strayed_other = record { event = Arrival []; mid = disturbed_other; takes = in_time _ _ refl (omega arith); result_is = refl; new_is = refl }

  came_other : Receives disturbed_other 300 (Ok (Some cut_bytes)) truncated_other
  came_other = record { event = Arrival cut_bytes; mid = truncated_other; takes = in_time _ _ refl (omega arith); result_is = refl; new_is = refl }

  awaits_other : Awaits script_calls question 300 (2 ^ 64 - 1) asked_other 1 (Ok response) truncated_other 2
  awaits_other = other_arrives (2 ^ 64 - 1) asked_other 1 [] disturbed_other (Ok response) truncated_other 2 (omega arith) strayed_other (λ m reads. absurd (no_message m reads))
      (reply_arrives (2 ^ 64 - 2) disturbed_other 2 cut_bytes response truncated_other (omega arith) came_other finds_cut)

  -- the streams
  streams : Streams truncated one request 200 (Err Failed) silent
  streams = inr (Ok None, refl, record { event = Silence; mid = record silent { clock = 100 }; takes = in_time _ _ refl (omega arith); result_is = refl; new_is = refl })

  streams_other : Streams truncated_other other request 400 (Err Failed) silent_other
  streams_other = inr (Ok None, refl, record { event = Silence; mid = record silent_other { clock = 300 }; takes = script_over refl; result_is = refl; new_is = refl })

  -- the tries
  abbrev server : SocketAddr → Server
  server address = record { udp = Some address; tcp = Some address; trust_negative_responses = true }

  abbrev requester : Requester ScriptState
  requester = record { alloc = alloc; network = before; timeout = 100; streams_alone = false; counts = first_counts }

  abbrev after_reply : Requester ScriptState
  after_reply = record requester { network = truncated; counts = record first_counts { datagrams = 1; dropped = 1 } }

  abbrev after_one : Requester ScriptState
  after_one = record requester { network = silent; counts = record first_counts { datagrams = 1; streams = 1; dropped = 1 } }

  abbrev after_other_reply : Requester ScriptState
  after_other_reply = record requester { network = truncated_other; counts = record first_counts { datagrams = 2; streams = 1; dropped = 2 } }

  abbrev after_both : Requester ScriptState
  after_both = record requester { network = silent_other; counts = record first_counts { datagrams = 2; streams = 2; dropped = 2 } }

  abbrev silence : Outcome
  silence = Err (net.Link fault.StreamFailed)

  tries : Tries script_calls question request (server one) requester silence after_one
  tries = record {
    waited = Ok response;
    mid = after_reply;
    sent = record {
      result = Ok tt;
      network = asked;
      sends = inr (false, refl, record { takes = (refl, refl); others = refl });
      after = record {
        deadline = 100;
        mid = record requester { network = asked; counts = record first_counts { datagrams = 1 } };
        network = truncated;
        dropped = 1;
        reads = record { start = 0; after = asked; reads = (refl, refl); deadline_is = refl; new_is = refl };
        awaits = awaits;
        new_is = refl;
      };
    };
    ends = record {
      deadline = 200;
      mid = record after_reply { counts = record first_counts { datagrams = 1; streams = 1; dropped = 1 } };
      result = Err Failed;
      network = silent;
      reads = record { start = 100; after = truncated; reads = (refl, refl); deadline_is = refl; new_is = refl };
      streams = streams;
      ends = stream_fails;
      new_is = refl;
    };
  }

  tries_other : Tries script_calls question request (server other) after_one silence after_both
  tries_other = record {
    waited = Ok response;
    mid = after_other_reply;
    sent = record {
      result = Ok tt;
      network = asked_other;
      sends = inr (false, refl, record { takes = (refl, refl); others = refl });
      after = record {
        deadline = 300;
        mid = record after_one { network = asked_other; counts = record first_counts { datagrams = 2; streams = 1; dropped = 1 } };
        network = truncated_other;
        dropped = 2;
        reads = record { start = 200; after = asked_other; reads = (refl, refl); deadline_is = refl; new_is = refl };
        awaits = awaits_other;
        new_is = refl;
      };
    };
    ends = record {
      deadline = 400;
      mid = record after_other_reply { counts = record first_counts { datagrams = 2; streams = 2; dropped = 2 } };
      result = Err Failed;
      network = silent_other;
      reads = record { start = 300; after = truncated_other; reads = (refl, refl); deadline_is = refl; new_is = refl };
      streams = streams_other;
      ends = stream_fails;
      new_is = refl;
    };
  }

  -- the exchange
  abbrev pool : NameServerPool ScriptState I
  pool = record { alloc = alloc; requester = requester; ids = ids; servers = servers_from (server one ∷ server other ∷ []) false; attempts = 1 }

  abbrev pool_between : NameServerPool ScriptState I
  pool_between = record pool { requester = after_one; servers = with_failure 0 (Some 200) pool.servers }

  abbrev pool_after : NameServerPool ScriptState I
  pool_after = record pool { requester = after_both; servers = with_failure 1 (Some 400) pool_between.servers }

  at_one : TriesPlace script_calls question request 0 pool (Continue silence) pool_between
  at_one = server_declined silence after_one 200 silent tries refl (refl, refl)

  at_other : TriesPlace script_calls question request 1 pool_between (Continue silence) pool_after
  at_other = server_declined silence after_both 400 silent_other tries_other refl (refl, refl)

  pub exchange : Exchanges script_calls question pool silence pool_after
  exchange = plan_runs request 0 before silence pool_after encodes (refl, refl)
      (next_is_tried 0 (1 ∷ []) no_try pool silence pool_between silence pool_after at_one
      (next_is_tried 1 [] silence pool_between silence pool_after silence pool_after at_other (all_tried silence pool_after)))

  pub ends : EndsInTime (λ state. state.clock) 0 pool pool_after
  ends = exchange-ends script_calls (λ state. state.clock) 0 question pool pool_after silence scripts-timed exchange

  -- the bound is attained: two time-outs for each of the two servers
  pub is_longest : pool_after.requester.network.clock ≡ pool.requester.network.clock + 0 + pool.attempts * length pool.servers.servers * (2 * (pool.requester.timeout + 3 * 0))
  is_longest = refl

  -- so is that of what is sent: a datagram to each server, and a message over a stream to each
  pub is_most : length pool_after.requester.network.sent ≡ length pool.requester.network.sent + pool.attempts * length pool.servers.servers * (1 + (2 ^ 64 - 1) * 0 + 0 + 1)
  is_most = refl

-- ---- what is sent is metered

takes-sent : (deadline : ℕ) (old : ScriptState) (event : NetworkEvent) (mid : ScriptState) → TakesEvent deadline old event mid → mid.sent ≡ old.sent
takes-sent deadline old event mid (script_over e) = refl
takes-sent deadline old event mid (in_time next rest e h) = refl
takes-sent deadline old event mid (too_late next rest e h) = refl

passed-sent : (deadline : ℕ) (event : NetworkEvent) (mid : ScriptState) → (passed deadline event mid).sent ≡ mid.sent
passed-sent deadline Silence mid = refl
passed-sent deadline (Arrival bytes) mid = refl
passed-sent deadline Failure mid = refl
passed-sent deadline SendFailure mid = refl

receives-sent : (old : ScriptState) (deadline : ℕ) (result : Result (Option (List ℕ)) LinkError) (new : ScriptState) → Receives old deadline result new → length new.sent ≤ length old.sent + 0
receives-sent old deadline result new r =
    let a : new.sent ≡ (passed deadline r.event r.mid).sent = ap (λ (s : ScriptState). s.sent) r.new_is in
    let b : (passed deadline r.event r.mid).sent ≡ r.mid.sent = passed-sent deadline r.event r.mid in
    let c : r.mid.sent ≡ old.sent = takes-sent deadline old r.event r.mid r.takes in
    omega (arith, ap length a, ap length b, ap length c)

one-more-sent : (protocol : Protocol) (server : SocketAddr) (bytes : List ℕ) (old : ScriptState) → length (transmit protocol server bytes old).sent ≡ length old.sent + 1
one-more-sent protocol server bytes old =
    length-append old.sent (record { moment = old.clock; protocol = protocol; server = server; bytes = bytes } ∷ [])

-- a send and a stream are one transmission each
pub sent-metered : IsMeter script_calls (λ state. length state.sent) 1 0 0 1
sent-metered = record {
  sends = λ old server bytes result new s.
      elim s [
        | inl h ↦ omega (arith, ap (λ (t : ScriptState). length t.sent) h.1)
        | inr h ↦ omega (arith, ap (λ (t : ScriptState). length t.sent) h.2.others, one-more-sent Udp server bytes old)
      ];
  arrives = λ old deadline bytes new r. receives-sent old deadline (Ok (Some bytes)) new r;
  passes = λ old deadline new r. receives-sent old deadline (Ok None) new r;
  fails = λ old deadline error new r. receives-sent old deadline (Err error) new r;
  streams = λ old server bytes deadline result new s.
      elim s [
        | inl h ↦ omega (arith, ap (λ (t : ScriptState). length t.sent) h.1)
        | inr h ↦ omega (arith, receives-sent (transmit Tcp server bytes old) deadline h.0 new h.2, one-more-sent Tcp server bytes old)
      ];
  reads_clock = λ old now new r. omega (arith, ap (λ (t : ScriptState). length t.sent) r.1);
}
