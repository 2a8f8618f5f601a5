-- What a handle over a link does, a handle over another link does, if the calls of the first are calls of the other.
use Rattle.std.proofs.Common.{ℕ, zero, suc, List, Bool, true, false, Option, Some, None, Result, Ok, Err, ap, inl, inr}
use Rattle.dns_messages.specs.declared.message.Message.{Message}
use Rattle.dns_messages.specs.declared.query.Query.{Query}
use Rattle.dns_messages.specs.declared.response.DnsResponse.{DnsResponse}
use Rattle.dns_messages.specs.declared.response_code.ResponseCode.{ResponseCode}
use Rattle.stub_lookup.specs.declared.error.NetError.{NetError}
use Rattle.stub_client.specs.Handle.{Outcome}
use Rattle.stub_client.specs.declared.request.DnsRequest.{DnsRequest}
use Rattle.stub_link.specs.Ask.{AfterReply, AfterSending, AfterWaiting, Ask, AskUnder, Asker, IsAsked, IsAwaited, IsSent, IsStreamed}
use Rattle.stub_link.specs.Link.{Calls, calls_of, wire}
use Rattle.stub_link.specs.Update.{SendUpdate}
use Rattle.stub_link.specs.Wait.{Wait, WaitAfter, one_more}
use Rattle.stub_link.specs.WireHandle.{Asks, SendsUpdate}
use Rattle.stub_link.specs.declared.link.LinkError.{LinkError}
use Rattle.stub_link.specs.declared.link.LinkError.TheVariants.{Failed, Memory}
use Rattle.stub_link.specs.declared.wire_handle.WireHandle.{WireHandle}
use Rattle.stub_link.specs.trace.Trace.{traced_count, traced_receives, traced_sends, traced_streams, untraced}
use Rattle.stub_link.specs.declared.trace.traced_link.TracedLink.{TracedLink}

-- ---- links of which one is within the other

module _ {T L : Type 0} (inner : T → L) (outer : Calls T (List ℕ)) (calls : Calls L (List ℕ))
    (sends : (old : T) (bytes : List ℕ) (result : Result (Unit {0}) LinkError) (new : T) → outer.sends old bytes result new
    → calls.sends (inner old) bytes result (inner new))
    (receives : (old : T) (result : Result (Option (List ℕ)) LinkError) (new : T) → outer.receives old result new
    → calls.receives (inner old) result (inner new))
    (streams : (old : T) (bytes : List ℕ) (result : Result (List ℕ) LinkError) (new : T) → outer.streams old bytes result new
    → calls.streams (inner old) bytes result (inner new)) where
  -- an asker over the inner link
  abbrev within : Asker T → Asker L
  within asker = record {
    link = inner asker.link;
    ids = asker.ids;
    sent = asker.sent;
    dropped = asker.dropped;
    faults = asker.faults;
    questions = asker.questions;
  }

  wait-within : (left id : ℕ) (question : Option Query) (old : T) (dropped : ℕ) (outcome : Outcome) (new : T) (total : ℕ)
      → Wait wire outer left id question old dropped outcome new total
      → Wait wire calls left id question (inner old) dropped outcome (inner new) total
  unfolding Wait
  wait-within zero id question old dropped outcome new total w = (w.0, ap inner w.1, w.2)
  wait-within (suc left) id question old dropped outcome new total w =
      (w.0, inner w.1, receives old w.0 w.1 w.2, go w.0 (λ more v. wait-within left id question w.1 more outcome new total v) w.3)
    where
      mid : T
      mid = w.1

      go : (received : Result (Option (List ℕ)) LinkError)
          → ((more : ℕ) → Wait wire outer left id question mid more outcome new total
          → Wait wire calls left id question (inner mid) more outcome (inner new) total)
          → WaitAfter wire id question received mid dropped (λ more. Wait wire outer left id question mid more) outcome new total
          → WaitAfter wire id question received (inner mid) dropped (λ more. Wait wire calls left id question (inner mid) more) outcome
          (inner new) total
      go (Ok (Some bytes)) on (inl reply) = inl (record {
        response = reply.response;
        decodes = reply.decodes;
        matching = reply.matching;
        outcome_is = reply.outcome_is;
        same = ap inner reply.same;
        count = reply.count;
      })
      go (Ok (Some bytes)) on (inr (inl other)) = inr (inl (other.0, on (one_more dropped) other.1))
      go (Ok (Some bytes)) on (inr (inr undecoded)) = inr (inr (record {
        headed = undecoded.headed;
        outcome_is = undecoded.outcome_is;
        same = ap inner undecoded.same;
        count = undecoded.count;
      }))
      go (Ok None) on t = (t.0, ap inner t.1, t.2)
      go (Err Failed) on t = (t.0, ap inner t.1, t.2)
      go (Err Memory) on t = (t.0, ap inner t.1, t.2)

  awaited-within : (id : ℕ) (question : Option Query) (mid : Asker T) (outcome : Outcome) (new : Asker T)
      → IsAwaited wire outer id question mid outcome new → IsAwaited wire calls id question (within mid) outcome (within new)
  awaited-within id question mid outcome new a = record {
    link = inner a.link;
    dropped = a.dropped;
    waits = wait-within 16 id question mid.link mid.dropped outcome a.link a.dropped a.waits;
    new_is = ap within a.new_is;
  }

  sending-within : (id : ℕ) (question : Option Query) (result : Result (Unit {0}) LinkError) (mid : Asker T) (outcome : Outcome)
      (new : Asker T) → AfterSending wire outer id question result mid outcome new
      → AfterSending wire calls id question result (within mid) outcome (within new)
  sending-within id question (Ok done) mid outcome new t = awaited-within id question mid outcome new t
  sending-within id question (Err Failed) mid outcome new t = (t.0, ap within t.1)
  sending-within id question (Err Memory) mid outcome new t = (t.0, ap within t.1)

  sent-within : (m : Message) (question : Option Query) (bytes : List ℕ) (old : Asker T) (outcome : Outcome) (new : Asker T)
      → IsSent wire outer m question bytes old outcome new → IsSent wire calls m question bytes (within old) outcome (within new)
  sent-within m question bytes old outcome new x = record {
    encodes = x.encodes;
    result = x.result;
    link = inner x.link;
    sends = sends old.link bytes x.result x.link x.sends;
    after = sending-within m.metadata.id question x.result (record old { link = x.link }) outcome new x.after;
  }

  streamed-within : (id : ℕ) (q : Query) (bytes : List ℕ) (mid : Asker T) (outcome : Outcome) (new : Asker T)
      → IsStreamed wire outer id q bytes mid outcome new → IsStreamed wire calls id q bytes (within mid) outcome (within new)
  streamed-within id q bytes mid outcome new x = record {
    result = x.result;
    link = inner x.link;
    streams = streams mid.link bytes x.result x.link x.streams;
    after = x.after;
    new_is = ap within x.new_is;
  }

  reply-within : (id : ℕ) (q : Query) (bytes : List ℕ) (truncated : Bool) (response : DnsResponse) (mid : Asker T) (outcome : Outcome)
      (new : Asker T) → AfterReply wire outer id q bytes truncated response mid outcome new
      → AfterReply wire calls id q bytes truncated response (within mid) outcome (within new)
  reply-within id q bytes false response mid outcome new t = (t.0, ap within t.1)
  reply-within id q bytes true response mid outcome new t = streamed-within id q bytes mid outcome new t

  waiting-within : (id : ℕ) (q : Query) (bytes : List ℕ) (waited : Outcome) (mid : Asker T) (outcome : Outcome) (new : Asker T)
      → AfterWaiting wire outer id q bytes waited mid outcome new
      → AfterWaiting wire calls id q bytes waited (within mid) outcome (within new)
  waiting-within id q bytes (Ok response) mid outcome new t =
      reply-within id q bytes response.message.metadata.truncation response mid outcome new t
  waiting-within id q bytes (Err error) mid outcome new t = (t.0, ap within t.1)

  asked-within : (m : Message) (q : Query) (old : Asker T) (outcome : Outcome) (new : Asker T)
      → IsAsked wire outer m q old outcome new → IsAsked wire calls m q (within old) outcome (within new)
  asked-within m q old outcome new a = record {
    datagram = a.datagram;
    waited = a.waited;
    mid = within a.mid;
    sent = sent-within m (Some q) a.datagram old a.waited a.mid a.sent;
    ends = waiting-within m.metadata.id q a.datagram a.waited a.mid outcome new a.ends;
  }

  under-within : (found : Option ℕ) (m : Message) (q : Query) (old : Asker T) (outcome : Outcome) (new : Asker T)
      → AskUnder wire outer found m q old outcome new → AskUnder wire calls found m q (within old) outcome (within new)
  under-within None m q old outcome new t = (t.0, ap within t.1)
  under-within (Some id) m q old outcome new (inl (memory, inl same)) = inl (memory, inl (ap within same))
  under-within (Some id) m q old outcome new (inl (memory, inr drawn)) = inl (memory, inr (ap within drawn))
  under-within (Some id) m q old outcome new (inr a) = inr (asked-within _ q _ outcome new a)

  pub ask-within : (m : Message) (old : Asker T) (outcome : Outcome) (new : Asker T) → Ask wire outer m old outcome new
      → Ask wire calls m (within old) outcome (within new)
  ask-within m old outcome new a = record {
    uncounted = within a.uncounted;
    asked = elim a.asked [
      | inl u ↦ inl (record { no_question = u.no_question; outcome_is = u.outcome_is; same = ap within u.same })
      | inr s ↦ inr (record {
        question = s.question;
        asks = s.asks;
        asked = under-within _ m s.question old outcome a.uncounted s.asked;
      })
    ];
    counted = ap within a.counted;
  }

  pub update-within : (m : Message) (old : Asker T) (reply : Result ResponseCode NetError) (new : Asker T)
      → SendUpdate wire outer m old reply new → SendUpdate wire calls m (within old) reply (within new)
  update-within m old reply new u = record {
    uncounted = within u.uncounted;
    sent = elim u.sent [
      | inl none ↦ inl (none.0, ap within none.1)
      | inr s ↦ inr (record {
        datagram = s.datagram;
        waited = s.waited;
        sent = sent-within m None s.datagram old s.waited u.uncounted s.sent;
        reply_is = s.reply_is;
      })
    ];
    counted = ap within u.counted;
  }

-- ---- traced links

module _ {L : Type 0} (sends : L → List ℕ → Result (Unit {0}) LinkError → L → Type 0)
    (receives : L → Result (Option (List ℕ)) LinkError → L → Type 0)
    (streams : L → List ℕ → Result (List ℕ) LinkError → L → Type 0) (failure_count : L → ℕ) where
  abbrev link-of : TracedLink L → L
  link-of traced = traced.link

  pub asks-untraced : (old new : WireHandle (TracedLink L)) (request : DnsRequest) (now : ℕ) (outcome : Outcome)
      → Asks (traced_sends sends) (traced_receives receives) (traced_streams streams) (traced_count failure_count) old request now outcome new
      → Asks sends receives streams failure_count (untraced old) request now outcome (untraced new)
  asks-untraced old new request now outcome h = record {
    ask =
        ask-within link-of (calls_of (traced_sends sends) (traced_receives receives) (traced_streams streams))
        (calls_of sends receives streams) (λ a b r c x. x.0) (λ a r c x. x.0) (λ a b r c x. x.0) request.message _ outcome _ h.ask;
    failed = h.failed;
  }

  pub updates-untraced : (old new : WireHandle (TracedLink L)) (update : Message) (reply : Result ResponseCode NetError)
      → SendsUpdate (traced_sends sends) (traced_receives receives) (traced_streams streams) (traced_count failure_count) old update reply new
      → SendsUpdate sends receives streams failure_count (untraced old) update reply (untraced new)
  updates-untraced old new update reply h = record {
    sent =
        update-within link-of (calls_of (traced_sends sends) (traced_receives receives) (traced_streams streams))
        (calls_of sends receives streams) (λ a b r c x. x.0) (λ a r c x. x.0) (λ a b r c x. x.0) update _ reply _ h.sent;
    failed = h.failed;
  }
