-- What a reply is that is returned.
use Rattle.std.proofs.Common.{◌≡◌, Bool, true, false, List, ℕ, Option, Some, None, Result, Ok, Err, refl, sym, subst, ap, ◌∙◌}
use Rattle.std.specs.Prelude.{IfOk, if◌then◌else◌, is_some, ◌&&◌}
use Rattle.std.specs.declared.net.socket_addr.SocketAddr.{SocketAddr}
use Rattle.std.specs.declared.ops.ControlFlow.{ControlFlow}
use Rattle.std.specs.declared.ops.ControlFlow.TheVariants.{Break, Continue}
use Rattle.dns_messages.specs.declared.message.Message.{Message}
use Rattle.dns_messages.specs.declared.op_code.OpCode.{OpCode}
use Rattle.dns_messages.specs.declared.op_code.OpCode.TheVariants as ops
use Rattle.dns_messages.specs.declared.query.Query.{Query}
use Rattle.dns_messages.specs.declared.response.DnsResponse.{DnsResponse}
use Rattle.stub_client.specs.Handle.{Outcome}
use Rattle.stub_link.specs.Reply.{matches}
use Rattle.stub_link.specs.Request.{IsQuestion, with_id}
use Rattle.stub_link.specs.declared.link.LinkError.{LinkError}
use Rattle.stub_link.specs.declared.link.LinkError.TheVariants.{Failed, Memory}
use Rattle.stub_lookup.specs.declared.error.LinkFault.TheVariants as fault
use Rattle.stub_lookup.specs.declared.error.NetError.TheVariants as net
use Rattle.stub_net.specs.Exchange.{Exchanges, Runs, TriesPlace, all_tried, memory_is_out, next_is_tried, no_memory_for_datagram, no_memory_for_order, plan_runs, server_accepted, server_declined, try_ends}
use Rattle.stub_net.specs.Laws.{IsReplyToQuestion}
use Rattle.stub_net.specs.Network.{NetworkCalls}
use Rattle.stub_net.specs.Pool.{Asks, Gives, is_asked}
use Rattle.stub_link.specs.Reply.{question_in, question_under}
use Rattle.stub_net.specs.Request.{is_cut, is_cut_reply}
use Rattle.stub_net.specs.Try.{AfterDatagram, AfterSend, StreamEnds, TriesAddresses, no_memory_for_message, no_memory_for_stream, other_message, stream_fails, stream_replies}
use Rattle.stub_net.specs.Wait.{Awaits, deadline_passes, no_memory_to_decode, no_memory_to_receive, none_left, other_arrives, receive_fails, reply_arrives}
use Rattle.stub_net.specs.declared.pool.NameServerPool.{NameServerPool}
use Rattle.stub_net.specs.declared.requester.Requester.{Requester}

-- a response has the id and the question of a request
abbrev Matches : Message → DnsResponse → Type 0
Matches m response = matches m.metadata.id (question_in m) response.message ≡ true

-- it is used, too
record Answers (m : Message) (response : DnsResponse) : Type 0 where
  matching : Matches m response
  whole : is_cut m response ≡ false

-- ---- one try

awaits-match : {N : Type 0} (calls : NetworkCalls N) (m : Message) (deadline left : ℕ) (old : N) (dropped : ℕ) (outcome : Outcome) (new : N) (total : ℕ) → Awaits calls m deadline left old dropped outcome new total → IfOk outcome (Matches m)
awaits-match calls m deadline left old dropped outcome new total (reply_arrives l o d bytes response n h r f) = f.1
awaits-match calls m deadline left old dropped outcome new total (other_arrives l o d bytes mid out n t h r f more) = awaits-match calls m deadline _ _ _ outcome new total more
awaits-match calls m deadline left old dropped outcome new total (no_memory_to_decode l o d bytes n h r f) = tt
awaits-match calls m deadline left old dropped outcome new total (deadline_passes l o d n h r) = tt
awaits-match calls m deadline left old dropped outcome new total (receive_fails l o d n h r) = tt
awaits-match calls m deadline left old dropped outcome new total (no_memory_to_receive l o d n h r) = tt
awaits-match calls m deadline left old dropped outcome new total (none_left l o d e) = tt

-- an error is no reply
no-reply : (P : DnsResponse → Type 0) (outcome other : Outcome) → outcome ≡ other → IfOk other P → IfOk outcome P
no-reply P outcome other e h = subst (λ (o : Outcome). IfOk o P) (sym e) h

sends-match : {N : Type 0} (calls : NetworkCalls N) (m : Message) (result : Result (Unit {0}) LinkError) (mid : Requester N) (outcome : Outcome) (new : Requester N) → AfterSend calls m result mid outcome new → IfOk outcome (Matches m)
sends-match calls m (Ok done) mid outcome new a = awaits-match calls m _ _ _ _ outcome _ _ a.awaits
sends-match calls m (Err Failed) mid outcome new a = no-reply (Matches m) outcome _ a.0 tt
sends-match calls m (Err Memory) mid outcome new a = no-reply (Matches m) outcome _ a.0 tt

whole-answers : (m : Message) (response : DnsResponse) (cut : Bool) → is_cut m response ≡ cut → Matches m response → IfOk (if cut then Err (net.Link fault.Truncated) else Ok response) (Answers m)
whole-answers m response true e h = tt
whole-answers m response false e h = record { matching = h; whole = e }

stream-answers : (m : Message) (result : Result (List ℕ) LinkError) (outcome : Outcome) → StreamEnds m result outcome → IfOk outcome (Answers m)
stream-answers m result outcome (stream_replies bytes response f) = whole-answers m response (is_cut m response) refl f.1
stream-answers m result outcome (other_message bytes f) = tt
stream-answers m result outcome (no_memory_for_message bytes h) = tt
stream-answers m result outcome stream_fails = tt
stream-answers m result outcome no_memory_for_stream = tt

uncut-answers : (m : Message) (waited : Outcome) → is_cut_reply m waited ≡ false → IfOk waited (Matches m) → IfOk waited (Answers m)
uncut-answers m (Ok response) e h = record { matching = h; whole = e }
uncut-answers m (Err error) e h = tt

datagram-answers : {N : Type 0} (calls : NetworkCalls N) (m : Message) (bytes : List ℕ) (cut : Bool) (tcp : Option SocketAddr) (waited : Outcome) (mid : Requester N) (outcome : Outcome) (new : Requester N) → is_cut_reply m waited ≡ cut → IfOk waited (Matches m)
    → AfterDatagram calls m bytes cut tcp waited mid outcome new → IfOk outcome (Answers m)
datagram-answers calls m bytes false tcp waited mid outcome new e h a = no-reply (Answers m) outcome waited a.0 (uncut-answers m waited e h)
datagram-answers calls m bytes true (Some tcp) waited mid outcome new e h a = stream-answers m a.result outcome a.ends
datagram-answers calls m bytes true None waited mid outcome new e h a = no-reply (Answers m) outcome _ a.0 tt

addresses-answer : {N : Type 0} (calls : NetworkCalls N) (m : Message) (bytes : List ℕ) (udp tcp : Option SocketAddr) (old : Requester N) (outcome : Outcome) (new : Requester N) → TriesAddresses calls m bytes udp tcp old outcome new → IfOk outcome (Answers m)
addresses-answer calls m bytes (Some udp) tcp old outcome new t =
    datagram-answers calls m bytes (is_cut_reply m t.waited) tcp t.waited t.mid outcome new refl (sends-match calls m t.sent.result _ t.waited t.mid t.sent.after) t.ends
addresses-answer calls m bytes None (Some tcp) old outcome new t = stream-answers m t.result outcome t.ends
addresses-answer calls m bytes None None old outcome new t = no-reply (Answers m) outcome _ t.0 tt

-- ---- an exchange

-- the outcome of a try, whether it ends the exchange or not
abbrev outcome_of : ControlFlow Outcome Outcome → Outcome
outcome_of (Break outcome) = outcome
outcome_of (Continue outcome) = outcome

place-answers : {N I : Type 0} (calls : NetworkCalls N) (m : Message) (bytes : List ℕ) (place : ℕ) (old : NameServerPool N I) (ends : ControlFlow Outcome Outcome) (new : NameServerPool N I) → TriesPlace calls m bytes place old ends new → IfOk (outcome_of ends) (Answers m)
place-answers calls m bytes place old ends new (server_accepted tried requester t v) = addresses-answer calls m bytes _ _ old.requester tried requester t
place-answers calls m bytes place old ends new (server_declined tried requester now network t v r) = addresses-answer calls m bytes _ _ old.requester tried requester t
place-answers calls m bytes place old ends new (memory_is_out tried requester t v) = addresses-answer calls m bytes _ _ old.requester tried requester t

runs-answer : {N I : Type 0} (calls : NetworkCalls N) (m : Message) (bytes : List ℕ) (plan : List ℕ) (last : Outcome) (old : NameServerPool N I) (outcome : Outcome) (new : NameServerPool N I) → IfOk last (Answers m)
    → Runs calls m bytes plan last old outcome new → IfOk outcome (Answers m)
runs-answer calls m bytes plan last old outcome new h (all_tried l o) = h
runs-answer calls m bytes plan last old outcome new h (try_ends place rest l o out n t) = place-answers calls m bytes place old (Break outcome) new t
runs-answer calls m bytes plan last old outcome new h (next_is_tried place rest l o tried mid out n t r) =
    runs-answer calls m bytes rest tried mid outcome new (place-answers calls m bytes place old (Continue tried) mid t) r

exchange-answers : {N I : Type 0} (calls : NetworkCalls N) (m : Message) (old : NameServerPool N I) (outcome : Outcome) (new : NameServerPool N I) → Exchanges calls m old outcome new → IfOk outcome (Answers m)
exchange-answers calls m old outcome new no_memory_for_datagram = tt
exchange-answers calls m old outcome new (no_memory_for_order start network r) = tt
exchange-answers calls m old outcome new (plan_runs bytes start network out n en re runs) = runs-answer calls m bytes _ _ _ outcome new tt runs

-- ---- a question

question-of : (m : Message) (q : Query) → IsQuestion m q → question_in m ≡ Some q
question-of m q a =
    ap (λ (code : OpCode). question_under code m.queries) a.op_code ∙ ap (λ (queries : List Query). question_under ops.Query queries) a.only

whole-reply : (question : Option Query) (q : Query) (truncated : Bool) → question ≡ Some q → (is_some question && truncated) ≡ false → truncated ≡ false
whole-reply question q truncated e h = subst (λ (o : Option Query). (is_some o && truncated) ≡ false) e h

asks-answer : {N I : Type 0} (calls : NetworkCalls N) (draws : I → Option ℕ → I → Type 0) (old : NameServerPool N I) (m : Message) (response : DnsResponse) (new : NameServerPool N I) → Asks calls draws old m (Ok response) new → IsReplyToQuestion draws old.ids m response
asks-answer calls draws old m response new (is_asked q id ids out n a d e) =
    let answers : Answers (with_id id m) response = exchange-answers calls (with_id id m) _ (Ok response) new e in
    record {
      question = q;
      id = id;
      rest = ids;
      asks = a;
      drawn = d;
      matching = subst (λ (question : Option Query). matches id question response.message ≡ true) (question-of m q a) answers.matching;
      whole = whole-reply (question_in m) q response.message.metadata.truncation (question-of m q a) answers.whole;
    }

pub gives-answer : {N I : Type 0} (calls : NetworkCalls N) (draws : I → Option ℕ → I → Type 0) (m : Message) (old new : NameServerPool N I) (response : DnsResponse) → Gives calls draws old m (Ok response) new → IsReplyToQuestion draws old.ids m response
gives-answer calls draws m old new response g = asks-answer calls draws old m response g.uncounted g.asks
