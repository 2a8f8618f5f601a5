-- Replies of a pool over a signed network were signed for the request that was sent, and are bytes that were received.
use Rattle.std.proofs.Common.{◌≡◌, Bool, true, false, List, [], ℕ, Option, Some, None, Result, Ok, Err, refl, sym, subst, arith, ⊎_elim}
use Rattle.std.specs.Prelude.{IfOk, ◌≤◌, if◌then◌else◌}
use Rattle.std.specs.declared.net.socket_addr.SocketAddr.{SocketAddr}
use Rattle.std.specs.declared.ops.ControlFlow.{ControlFlow}
use Rattle.std.specs.declared.ops.ControlFlow.TheVariants.{Break, Continue}
use Rattle.dns_messages.specs.declared.message.Message.{Message}
use Rattle.dns_messages.specs.declared.response.DnsResponse.{DnsResponse}
use Rattle.dns_messages.specs.declared.response_code.ResponseCode.{ResponseCode}
use Rattle.dns_tsig.specs.declared.signer.refusal.Refusal.{Refusal}
use Rattle.dns_tsig.specs.declared.key.Key.{Key}
use Rattle.stub_client.specs.Handle.{Outcome}
use Rattle.stub_link.specs.Link.{Encodes}
use Rattle.stub_link.specs.Update.{code_of}
use Rattle.stub_link.specs.declared.link.LinkError.{LinkError}
use Rattle.stub_link.specs.declared.link.LinkError.TheVariants.{Failed, Memory}
use Rattle.stub_lookup.specs.declared.error.LinkFault.TheVariants as fault
use Rattle.stub_lookup.specs.declared.error.NetError.{NetError}
use Rattle.stub_lookup.specs.declared.error.NetError.TheVariants as net
use Rattle.stub_net.specs.Exchange.{Exchanges, Runs, TriesPlace, all_tried, memory_is_out, next_is_tried, no_memory_for_datagram, no_memory_for_order, plan_runs, server_accepted, server_declined, try_ends}
use Rattle.stub_net.specs.Network.{NetworkCalls}
use Rattle.stub_net.specs.Pool.{Updates}
use Rattle.stub_net.specs.Request.{Finds, is_cut, is_cut_reply}
use Rattle.stub_net.specs.Try.{AfterDatagram, AfterSend, AsksStream, AwaitsReply, ReadsDeadline, SendsDatagram, StreamEnds, TriesAddresses, no_memory_for_message, no_memory_for_stream, other_message, stream_fails, stream_replies}
use Rattle.stub_net.specs.Wait.{Awaits, deadline_passes, no_memory_to_decode, no_memory_to_receive, none_left, other_arrives, receive_fails, reply_arrives}
use Rattle.stub_net.specs.declared.pool.NameServerPool.{NameServerPool}
use Rattle.stub_net.specs.declared.requester.Requester.{Requester}
use Rattle.stub_net.specs.signed.Reply.{IsSignedReply}
use Rattle.stub_net.specs.signed.Signed.{ReadsClock, signed_calls}
use Rattle.stub_net.specs.signed.Update.{IsSignedCode, outcome_of}
use Rattle.stub_net.specs.declared.signed.network.SignedNetwork.{SignedNetwork}
use Rattle.stub_net.proofs.RepliedLaws.{AfterSending, Asked, FromStream, HandedOn, Reached, Replied, asked_reached, clock_asked, clock_reached, clock_replied, receive_ready, send_signed, stream_signed}

-- ---- one wait

-- no bytes are no message
no_message : (m : Message) (response : DnsResponse) → Finds m [] (Some response) → ⊥
no_message m response f =
    let within : 12 ≤ 0 = f.0.message.header.there.within in
    absurd (omega arith)

-- the outcome of a try, whether it ends the exchange or not
abbrev outcome_in : ControlFlow Outcome Outcome → Outcome
outcome_in (Break outcome) = outcome
outcome_in (Continue outcome) = outcome

module _ {N : Type 0} (calls : NetworkCalls N) (key : Key) (base : ℕ) (m : Message) (bytes : List ℕ) (encodes : Encodes m bytes) (first : N) where
  -- the network below has come here
  abbrev Here : SignedNetwork N → Type 0
  Here = Reached calls key base bytes first

  -- the signed request was sent as a datagram, and a wait goes on
  abbrev Awaiting : SignedNetwork N → Type 0
  Awaiting = Asked calls key base bytes first

  -- a response was signed for the request, and received on the way here
  abbrev Signed : SignedNetwork N → DnsResponse → Type 0
  Signed s response = IsSignedReply calls key base m first s.network response

  signed_by : (s : SignedNetwork N) (message : List ℕ) (response : DnsResponse) → Replied calls key base bytes first s message → Finds m message (Some response) → Signed s response
  signed_by s message response r f = record { request = bytes; encodes = encodes; message = message; replied = r; finds = f }

  datagram_signed : (s : SignedNetwork N) (message : List ℕ) (response : DnsResponse) → HandedOn calls key base bytes first (Ok (Some message)) s → Finds m message (Some response) → Signed s response
  datagram_signed s message response h f =
      ⊎_elim (λ e. absurd (no_message m response (subst (λ b. Finds m b (Some response)) e f))) (λ r. signed_by s message response r f) h

  clock_signed : (old new : SignedNetwork N) (now : ℕ) (response : DnsResponse) → ReadsClock calls.reads_clock old now new → Signed old response → Signed new response
  clock_signed old new now response r h = record {
    request = h.request;
    encodes = h.encodes;
    message = h.message;
    replied = clock_replied calls key base h.request first old new now h.message r h.replied;
    finds = h.finds;
  }

  -- ---- one try

  -- the network has come here, and a reply was signed
  abbrev Kept : Outcome → SignedNetwork N → Type 0
  Kept outcome s = Here s × IfOk outcome (Signed s)

  awaits_signed : (deadline left : ℕ) (old : SignedNetwork N) (dropped : ℕ) (outcome : Outcome) (new : SignedNetwork N) (total : ℕ) → Awaiting old → Awaits (signed_calls calls) m deadline left old dropped outcome new total → Kept outcome new
  awaits_signed deadline left old dropped outcome new total h (reply_arrives l o d message response n pos r f) =
      let c : Awaiting new × HandedOn calls key base bytes first (Ok (Some message)) new = receive_ready calls key base bytes first deadline old (Ok (Some message)) new h r in
      (asked_reached calls key base bytes first new c.0, datagram_signed new message response c.1 f)
  awaits_signed deadline left old dropped outcome new total h (other_arrives l o d message mid out n t pos r f more) =
      awaits_signed deadline _ mid _ outcome new total (receive_ready calls key base bytes first deadline old (Ok (Some message)) mid h r).0 more
  awaits_signed deadline left old dropped outcome new total h (no_memory_to_decode l o d message n pos r f) = (asked_reached calls key base bytes first new (receive_ready calls key base bytes first deadline old (Ok (Some message)) new h r).0, tt)
  awaits_signed deadline left old dropped outcome new total h (deadline_passes l o d n pos r) = (asked_reached calls key base bytes first new (receive_ready calls key base bytes first deadline old (Ok None) new h r).0, tt)
  awaits_signed deadline left old dropped outcome new total h (receive_fails l o d n pos r) = (asked_reached calls key base bytes first new (receive_ready calls key base bytes first deadline old (Err Failed) new h r).0, tt)
  awaits_signed deadline left old dropped outcome new total h (no_memory_to_receive l o d n pos r) = (asked_reached calls key base bytes first new (receive_ready calls key base bytes first deadline old (Err Memory) new h r).0, tt)
  awaits_signed deadline left old dropped outcome new total h (none_left l o d e) = (asked_reached calls key base bytes first old h, tt)

  -- the network of a requester
  abbrev KeptBy : Outcome → Requester (SignedNetwork N) → Type 0
  KeptBy outcome requester = Kept outcome requester.network

  -- an error is no reply
  no_reply : (s : SignedNetwork N) (outcome other : Outcome) → outcome ≡ other → IfOk other (Signed s) → IfOk outcome (Signed s)
  no_reply s outcome other e h = subst (λ (o : Outcome). IfOk o (Signed s)) (sym e) h

  deadline_asked : (old : Requester (SignedNetwork N)) (deadline : ℕ) (mid : Requester (SignedNetwork N)) → Awaiting old.network → ReadsDeadline (signed_calls calls).reads_clock old deadline mid → Awaiting mid.network
  deadline_asked old deadline mid h r =
      subst (λ (x : Requester (SignedNetwork N)). Awaiting x.network) (sym r.new_is) (clock_asked calls key base bytes first old.network r.after r.start r.reads h)

  deadline_reached : (old : Requester (SignedNetwork N)) (deadline : ℕ) (mid : Requester (SignedNetwork N)) → Here old.network → ReadsDeadline (signed_calls calls).reads_clock old deadline mid → Here mid.network
  deadline_reached old deadline mid h r =
      subst (λ (x : Requester (SignedNetwork N)). Here x.network) (sym r.new_is) (clock_reached calls key base bytes first old.network r.after r.start r.reads h)

  awaits_reply : (old : Requester (SignedNetwork N)) (outcome : Outcome) (new : Requester (SignedNetwork N)) → Awaiting old.network → AwaitsReply (signed_calls calls) m old outcome new → KeptBy outcome new
  awaits_reply old outcome new h a =
      subst (KeptBy outcome) (sym a.new_is) (awaits_signed a.deadline _ a.mid.network _ outcome a.network a.dropped (deadline_asked old a.deadline a.mid h a.reads) a.awaits)

  after_send : (result : Result (Unit {0}) LinkError) (mid : Requester (SignedNetwork N)) (outcome : Outcome) (new : Requester (SignedNetwork N)) → AfterSending calls key base bytes first result mid.network → AfterSend (signed_calls calls) m result mid outcome new → KeptBy outcome new
  after_send (Ok done) mid outcome new h a = awaits_reply _ outcome new h a
  after_send (Err Failed) mid outcome new h a = subst (KeptBy outcome) (sym a.1) (h, no_reply mid.network outcome _ a.0 tt)
  after_send (Err Memory) mid outcome new h a = subst (KeptBy outcome) (sym a.1) (h, no_reply mid.network outcome _ a.0 tt)

  sends_datagram : (server : SocketAddr) (old : Requester (SignedNetwork N)) (outcome : Outcome) (new : Requester (SignedNetwork N)) → Here old.network → SendsDatagram (signed_calls calls) m bytes server old outcome new → KeptBy outcome new
  sends_datagram server old outcome new h s = after_send s.result _ outcome new (send_signed calls key base bytes first server old.network s.network s.result h s.sends) s.after

  whole_signed : (s : SignedNetwork N) (response : DnsResponse) (cut : Bool) → Signed s response → IfOk (if cut then Err (net.Link fault.Truncated) else Ok response) (Signed s)
  whole_signed s response true h = tt
  whole_signed s response false h = h

  stream_ends : (s : SignedNetwork N) (result : Result (List ℕ) LinkError) (outcome : Outcome) → FromStream calls key base bytes first result s → StreamEnds m result outcome → IfOk outcome (Signed s)
  stream_ends s result outcome h (stream_replies message response f) = whole_signed s response (is_cut m response) (signed_by s message response h f)
  stream_ends s result outcome h (other_message message f) = tt
  stream_ends s result outcome h (no_memory_for_message message f) = tt
  stream_ends s result outcome h stream_fails = tt
  stream_ends s result outcome h no_memory_for_stream = tt

  asks_stream : (server : SocketAddr) (old : Requester (SignedNetwork N)) (outcome : Outcome) (new : Requester (SignedNetwork N)) → Here old.network → AsksStream (signed_calls calls) m bytes server old outcome new → KeptBy outcome new
  asks_stream server old outcome new h a =
      let s : Here a.network × FromStream calls key base bytes first a.result a.network = stream_signed calls key base bytes first server a.deadline a.mid.network a.result a.network (deadline_reached _ a.deadline a.mid h a.reads) a.streams in
      subst (KeptBy outcome) (sym a.new_is) (s.0, stream_ends a.network a.result outcome s.1 a.ends)

  after_datagram : (cut : Bool) (tcp : Option SocketAddr) (waited : Outcome) (mid : Requester (SignedNetwork N)) (outcome : Outcome) (new : Requester (SignedNetwork N)) → KeptBy waited mid → AfterDatagram (signed_calls calls) m bytes cut tcp waited mid outcome new → KeptBy outcome new
  after_datagram false tcp waited mid outcome new h a = subst (KeptBy outcome) (sym a.1) (h.0, no_reply mid.network outcome waited a.0 h.1)
  after_datagram true (Some tcp) waited mid outcome new h a = asks_stream tcp mid outcome new h.0 a
  after_datagram true None waited mid outcome new h a = subst (KeptBy outcome) (sym a.1) (h.0, no_reply mid.network outcome _ a.0 tt)

  tries_signed : (udp tcp : Option SocketAddr) (old : Requester (SignedNetwork N)) (outcome : Outcome) (new : Requester (SignedNetwork N)) → Here old.network → TriesAddresses (signed_calls calls) m bytes udp tcp old outcome new → KeptBy outcome new
  tries_signed (Some udp) tcp old outcome new h t = after_datagram (is_cut_reply m t.waited) tcp t.waited t.mid outcome new (sends_datagram udp old t.waited t.mid h t.sent) t.ends
  tries_signed None (Some tcp) old outcome new h t = asks_stream tcp old outcome new h t
  tries_signed None None old outcome new h t = subst (KeptBy outcome) (sym t.1) (h, no_reply old.network outcome _ t.0 tt)

  -- ---- an exchange

  declined_signed : (old new : SignedNetwork N) (now : ℕ) (outcome : Outcome) → ReadsClock calls.reads_clock old now new → IfOk outcome (Signed old) → IfOk outcome (Signed new)
  declined_signed old new now (Ok response) r h = clock_signed old new now response r h
  declined_signed old new now (Err error) r h = tt

  module _ {I : Type 0} where
    abbrev KeptIn : Outcome → NameServerPool (SignedNetwork N) I → Type 0
    KeptIn outcome pool = Kept outcome pool.requester.network

    place_signed : (place : ℕ) (old : NameServerPool (SignedNetwork N) I) (ends : ControlFlow Outcome Outcome) (new : NameServerPool (SignedNetwork N) I) → Here old.requester.network → TriesPlace (signed_calls calls) m bytes place old ends new → KeptIn (outcome_in ends) new
    place_signed place old ends new h (server_accepted tried requester t v) = tries_signed _ _ old.requester tried requester h t
    place_signed place old ends new h (server_declined tried requester now network t v r) =
        let k : KeptBy tried requester = tries_signed _ _ old.requester tried requester h t in
        (clock_reached calls key base bytes first requester.network network now r k.0, declined_signed requester.network network now tried r k.1)
    place_signed place old ends new h (memory_is_out tried requester t v) = tries_signed _ _ old.requester tried requester h t

    runs_signed : (plan : List ℕ) (last : Outcome) (old : NameServerPool (SignedNetwork N) I) (outcome : Outcome) (new : NameServerPool (SignedNetwork N) I) → KeptIn last old → Runs (signed_calls calls) m bytes plan last old outcome new → IfOk outcome (Signed new.requester.network)
    runs_signed plan last old outcome new h (all_tried l o) = h.1
    runs_signed plan last old outcome new h (try_ends place rest l o out n t) = (place_signed place old (Break outcome) new h.0 t).1
    runs_signed plan last old outcome new h (next_is_tried place rest l o tried mid out n t r) = runs_signed rest tried mid outcome new (place_signed place old (Continue tried) mid h.0 t) r

-- a reply of an exchange was signed, and received as the network below went from the one state to the other
abbrev SignedOver : {N I : Type 0} → NetworkCalls N → Message → NameServerPool (SignedNetwork N) I → NameServerPool (SignedNetwork N) I → DnsResponse → Type 0
SignedOver calls m old new = IsSignedReply calls old.requester.network.signer.key old.requester.network.base m old.requester.network.network new.requester.network.network

-- the response code of such a reply
abbrev CodeOver : {N I : Type 0} → NetworkCalls N → Message → NameServerPool (SignedNetwork N) I → NameServerPool (SignedNetwork N) I → ResponseCode → Type 0
CodeOver calls m old new = IsSignedCode calls old.requester.network.signer.key old.requester.network.base m old.requester.network.network new.requester.network.network

pub exchange_signed : {N I : Type 0} (calls : NetworkCalls N) (m : Message) (old : NameServerPool (SignedNetwork N) I) (outcome : Outcome) (new : NameServerPool (SignedNetwork N) I) → Exchanges (signed_calls calls) m old outcome new
    → IfOk outcome (SignedOver calls m old new)
exchange_signed calls m old outcome new no_memory_for_datagram = tt
exchange_signed calls m old outcome new (no_memory_for_order start network r) = tt
exchange_signed calls m old outcome new (plan_runs bytes start network out n encodes reads runs) =
    let key : Key = old.requester.network.signer.key in
    let base : ℕ = old.requester.network.base in
    let reached = clock_reached calls key base bytes old.requester.network.network old.requester.network network start reads ((refl, refl), [], refl) in
    runs_signed calls key base m bytes encodes old.requester.network.network _ _ _ outcome new (reached, tt) runs

-- the code of a reply
code_signed : {N I : Type 0} (calls : NetworkCalls N) (m : Message) (old new : NameServerPool (SignedNetwork N) I) (outcome : Outcome) (reply : Result ResponseCode NetError) → reply ≡ code_of outcome → IfOk outcome (SignedOver calls m old new)
    → IfOk reply (CodeOver calls m old new)
code_signed calls m old new (Ok response) reply e h = subst (λ (r : Result ResponseCode NetError). IfOk r (CodeOver calls m old new)) (sym e) (record { response = response; signed = h; code_is = refl })
code_signed calls m old new (Err error) reply e h = subst (λ (r : Result ResponseCode NetError). IfOk r (CodeOver calls m old new)) (sym e) tt

pub update_signed : {N I : Type 0} (calls : NetworkCalls N) (m : Message) (old : NameServerPool (SignedNetwork N) I) (reply : Result ResponseCode NetError) (new : NameServerPool (SignedNetwork N) I) → Updates (signed_calls calls) old m reply new
    → IfOk reply (CodeOver calls m old new)
update_signed {N} {I} calls m old reply new u =
    subst (λ (pool : NameServerPool (SignedNetwork N) I). IfOk reply (CodeOver calls m old pool)) (sym u.counted) (code_signed calls m old u.uncounted u.outcome reply u.reply_is (exchange_signed calls m old u.outcome u.uncounted u.exchange))

-- an outcome is that of the reply, or an error
pub outcome_signed : {N I : Type 0} (calls : NetworkCalls N) (m : Message) (old : NameServerPool (SignedNetwork N) I) (reply : Result ResponseCode NetError) (new : NameServerPool (SignedNetwork N) I) (before after : ℕ) (refusal : Option Refusal)
    → Updates (signed_calls calls) old m reply new → IfOk (outcome_of reply before after refusal) (CodeOver calls m old new)
outcome_signed calls m old (Ok code) new before after refusal u = update_signed calls m old (Ok code) new u
outcome_signed calls m old (Err error) new before after refusal u = tt
