-- The link without bytes: out of memory, it stays so.
use Rattle.std.proofs.Common.{◌≡◌, Bool, true, false, inl, inr, ℕ, [], ◌∷◌, Option, Some, Result, Ok, Err, refl, sym, ap, ◌∙◌}
use Rattle.std.specs.Prelude.{◌⊎◌, if◌then◌else◌}
use Rattle.dns_messages.specs.declared.message.Message.{Message}
use Rattle.dns_messages.specs.declared.response_code.ResponseCode.{ResponseCode}
use Rattle.stub_lookup.specs.declared.error.NetError.{NetError}
use Rattle.stub_client.specs.Handle.{Outcome}
use Rattle.stub_client.specs.declared.request.DnsRequest.{DnsRequest}
use Rattle.stub_link.specs.declared.link.LinkError.{LinkError}
use Rattle.stub_link.specs.declared.link.LinkError.TheVariants.{Failed, Memory}
use Rattle.stub_link.specs.Link.{messages}
use Rattle.stub_link.specs.LinkState.{Course, Honest, Listed, LinkState, Received, link_calls, receive, receive_by, send, with_last, with_under_way, Receives, Sends, Streams}
use Rattle.stub_link.specs.Ask.{Ask}
use Rattle.stub_link.specs.Update.{SendUpdate}
use Rattle.stub_link.specs.AskState.{AskState, AskZone, UpdateZone}
use Rattle.stub_link.proofs.Scripts.{keeps-memory}
use Rattle.stub_run.proofs.Requests.{ask-holds, update-holds}

abbrev pub IsOut : LinkState → Type 0
IsOut link = link.out_of_memory ≡ true

send-memory : (m : Message) (state : LinkState) → (send m state).out_of_memory ≡ state.out_of_memory
send-memory m state = by state.is_update
  where
    by : (b : Bool)
        → (if b
        then record state { course = with_under_way m state.course; updates = with_last (Some m) state.updates }
        else record state { course = with_under_way m state.course; datagrams = m ∷ state.datagrams }).out_of_memory
        ≡ state.out_of_memory
    by true = refl
    by false = refl

receive-memory : (course : Course) (state : LinkState) → (receive_by course state).state.out_of_memory ≡ state.out_of_memory
receive-memory (Honest []) state = refl
receive-memory (Honest (m ∷ under_way)) state = refl
receive-memory (Listed events) state = keeps-memory events state

sends-out : (old : LinkState) (m : Message) (result : Result (Unit {0}) LinkError) (new : LinkState) → Sends old m result new
    → IsOut old → IsOut new
sends-out old m (Ok done) new s h = ap (λ (l : LinkState). l.out_of_memory) s.1 ∙ send-memory m old ∙ h
sends-out old m (Err Failed) new s h = ap (λ (l : LinkState). l.out_of_memory) s.1 ∙ h
sends-out old m (Err Memory) new s h = s

-- what a receive leads to is out of memory as before
received-out : (old : LinkState) (datagram : Result (Option Message) LinkError) (new : LinkState)
    → receive old ≡ record { datagram = datagram; state = new } → IsOut old → IsOut new
received-out old datagram new r h =
    ap (λ (x : Received). x.state.out_of_memory) (sym r) ∙ receive-memory old.course old ∙ h

receives-out : (old : LinkState) (received : Result (Option Message) LinkError) (new : LinkState) → Receives old received new
    → IsOut old → IsOut new
receives-out old (Ok datagram) new r h = received-out old (Ok datagram) new r h
receives-out old (Err Failed) new r h = received-out old (Err Failed) new r h
receives-out old (Err Memory) new r h = r

streams-out : (old : LinkState) (m : Message) (result : Result Message LinkError) (new : LinkState) → Streams old m result new
    → IsOut old → IsOut new
streams-out old m (Ok answer) new s h = ap (λ (l : LinkState). l.out_of_memory) s.2 ∙ h
streams-out old m (Err Failed) new s h = ap (λ (l : LinkState). l.out_of_memory) s.1 ∙ h
streams-out old m (Err Memory) new s h = s

pub ask-out : (m : Message) (old : AskState) (outcome : Outcome) (new : AskState) → Ask messages link_calls m old outcome new
    → IsOut old.link → IsOut new.link
ask-out m old outcome new a h = ask-holds messages link_calls IsOut sends-out receives-out streams-out m old outcome new a h

pub update-out : (m : Message) (old : AskState) (reply : Result ResponseCode NetError) (new : AskState)
    → SendUpdate messages link_calls m old reply new → IsOut old.link → IsOut new.link
update-out m old reply new a h = update-holds messages link_calls IsOut sends-out receives-out streams-out m old reply new a h

pub ask-zone-out : (old : AskState) (request : DnsRequest) (now : ℕ) (outcome : Outcome) (new : AskState)
    → AskZone old request now outcome new → IsOut old.link → IsOut new.link
ask-zone-out old request now outcome new (inl stays) h = stays.1
ask-zone-out old request now outcome new (inr ask) h = ask-out request.message old outcome new ask h

-- ---- what holds unless memory runs out

abbrev pub UnlessOut : (AskState → Type 0) → AskState → Type 0
UnlessOut P asks = IsOut asks.link ⊎ P asks

-- a state that is not out of memory
pub with-memory : (P : AskState → Type 0) (asks : AskState) → asks.link.out_of_memory ≡ false → UnlessOut P asks → P asks
with-memory P asks memory (inl out) = absurd (cc)
with-memory P asks memory (inr holds) = holds

module _ (P : AskState → Type 0) where
  pub asks-keep : ((m : Message) (old : AskState) (outcome : Outcome) (new : AskState) → Ask messages link_calls m old outcome new → P old
      → UnlessOut P new) → (old new : AskState) (request : DnsRequest) (now : ℕ) (outcome : Outcome) → UnlessOut P old
      → AskZone old request now outcome new → UnlessOut P new
  asks-keep keeps old new request now outcome (inl out) (inl stays) = inl stays.1
  asks-keep keeps old new request now outcome (inl out) (inr ask) = inl (ask-out request.message old outcome new ask out)
  asks-keep keeps old new request now outcome (inr holds) (inl stays) = inl stays.1
  asks-keep keeps old new request now outcome (inr holds) (inr ask) = keeps request.message old outcome new ask holds

  pub updates-keep : ((m : Message) (old : AskState) (reply : Result ResponseCode NetError) (new : AskState)
      → SendUpdate messages link_calls m old reply new → P old → UnlessOut P new)
      → (old new : AskState) (update : Message) (reply : Result ResponseCode NetError) → UnlessOut P old
      → UpdateZone old update reply new → UnlessOut P new
  updates-keep keeps old new update reply (inl out) (inl stays) = inl stays.1
  updates-keep keeps old new update reply (inl out) (inr sends) = inl (update-out update old reply new sends out)
  updates-keep keeps old new update reply (inr holds) (inl stays) = inl stays.1
  updates-keep keeps old new update reply (inr holds) (inr sends) = keeps update old reply new sends holds
