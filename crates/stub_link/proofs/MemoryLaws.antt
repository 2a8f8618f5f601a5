-- A scripted link that ran out of memory stays so.
use Rattle.std.proofs.Common.{◌≡◌, ℕ, zero, suc, List, Bool, true, false, inl, inr, Option, Some, None, Result, Ok, Err, ap, ◌∙◌, sym}
use Rattle.dns_messages.specs.declared.query.Query.{Query}
use Rattle.dns_messages.specs.declared.message.Message.{Message}
use Rattle.dns_messages.specs.declared.response.DnsResponse.{DnsResponse}
use Rattle.dns_messages.specs.declared.response_code.ResponseCode.{ResponseCode}
use Rattle.stub_lookup.specs.declared.error.NetError.{NetError}
use Rattle.stub_client.specs.Handle.{Outcome}
use Rattle.stub_link.specs.declared.link.LinkError.{LinkError}
use Rattle.stub_link.specs.declared.link.LinkError.TheVariants.{Failed, Memory}
use Rattle.stub_link.specs.declared.link.scripted.ScriptedLink.{ScriptedLink}
use Rattle.stub_link.specs.Link.{Calls, calls_of, wire}
use Rattle.stub_link.specs.Wait.{Wait, WaitAfter, one_more}
use Rattle.stub_link.specs.Ask.{AfterReply, AfterSending, AfterWaiting, Ask, AskUnder, Asker, IsAsked, IsAwaited, IsSent, IsStreamed}
use Rattle.stub_link.specs.Update.{SendUpdate}
use Rattle.stub_link.specs.ScriptedLink.{Receives, Sends, Streams}

abbrev pub byte_calls : Calls ScriptedLink (List ℕ)
byte_calls = calls_of (λ old bytes result new. Sends old bytes result new) (λ old received new. Receives old received new) (λ old bytes result new. Streams old bytes result new)

abbrev pub IsOut : ScriptedLink → Type 0
IsOut link = link.out_of_memory ≡ true

same-out : (old new : ScriptedLink) → new ≡ old → IsOut old → IsOut new
same-out old new e h = ap (λ (l : ScriptedLink). l.out_of_memory) e ∙ h

asker-out : (old new : Asker ScriptedLink) → new ≡ old → IsOut old.link → IsOut new.link
asker-out old new e h = ap (λ (a : Asker ScriptedLink). a.link.out_of_memory) e ∙ h

wait-out : (left id : ℕ) (question : Option Query) (old : ScriptedLink) (dropped : ℕ) (outcome : Outcome) (new : ScriptedLink) (total : ℕ) → Wait wire byte_calls left id question old dropped outcome new total → IsOut old → IsOut new
unfolding Wait
wait-out zero id question old dropped outcome new total w h = same-out old new w.1 h
wait-out (suc left) id question old dropped outcome new total w h =
    let r : Receives old w.0 w.1 = w.2 in
    go (λ more v out. wait-out left id question w.1 more outcome new total v out) w.0 (r.memory.stays h) w.3
  where
    mid : ScriptedLink
    mid = w.1

    go : ((more : ℕ) → Wait wire byte_calls left id question mid more outcome new total → IsOut mid → IsOut new) → (received : Result (Option (List ℕ)) LinkError) → IsOut mid → WaitAfter wire id question received mid dropped (λ more. Wait wire byte_calls left id question mid more) outcome new total → IsOut new
    go on (Ok (Some bytes)) out t =
        elim t [
          | inl u ↦ same-out mid new u.same out
          | inr u ↦ elim u [
            | inl v ↦ on (one_more dropped) v.1 out
            | inr v ↦ same-out mid new v.same out
          ]
        ]
    go on (Ok None) out t = same-out mid new t.1 out
    go on (Err Failed) out t = same-out mid new t.1 out
    go on (Err Memory) out t = same-out mid new t.1 out

after-out : (id : ℕ) (question : Option Query) (result : Result (Unit {0}) LinkError) (mid : Asker ScriptedLink) (outcome : Outcome) (new : Asker ScriptedLink) → AfterSending wire byte_calls id question result mid outcome new → IsOut mid.link → IsOut new.link
after-out id question (Ok done) mid outcome new a h =
    ap (λ (x : Asker ScriptedLink). x.link.out_of_memory) a.new_is ∙ wait-out 16 id question mid.link mid.dropped outcome a.link a.dropped a.waits h
after-out id question (Err Failed) mid outcome new a h = asker-out mid new a.1 h
after-out id question (Err Memory) mid outcome new a h = asker-out mid new a.1 h

sent-out : (m : Message) (question : Option Query) (bytes : List ℕ) (old : Asker ScriptedLink) (outcome : Outcome) (new : Asker ScriptedLink) → IsSent wire byte_calls m question bytes old outcome new → IsOut old.link → IsOut new.link
sent-out m question bytes old outcome new x h =
    let sends : Sends old.link bytes x.result x.link = x.sends in
    after-out m.metadata.id question x.result (record old { link = x.link }) outcome new x.after (sends.memory.stays h)

reply-out : (id : ℕ) (q : Query) (bytes : List ℕ) (truncated : Bool) (response : DnsResponse) (mid : Asker ScriptedLink) (outcome : Outcome) (new : Asker ScriptedLink)
    → AfterReply wire byte_calls id q bytes truncated response mid outcome new → IsOut mid.link → IsOut new.link
reply-out id q bytes false response mid outcome new t h = asker-out mid new t.1 h
reply-out id q bytes true response mid outcome new t h =
    let streams : Streams mid.link bytes t.result t.link = t.streams in
    ap (λ (x : Asker ScriptedLink). x.link.out_of_memory) t.new_is ∙ streams.memory.stays h

waiting-out : (id : ℕ) (q : Query) (bytes : List ℕ) (waited : Outcome) (mid : Asker ScriptedLink) (outcome : Outcome) (new : Asker ScriptedLink) → AfterWaiting wire byte_calls id q bytes waited mid outcome new → IsOut mid.link → IsOut new.link
waiting-out id q bytes (Ok response) mid outcome new t h = reply-out id q bytes response.message.metadata.truncation response mid outcome new t h
waiting-out id q bytes (Err error) mid outcome new t h = asker-out mid new t.1 h

asked-out : (m : Message) (q : Query) (old : Asker ScriptedLink) (outcome : Outcome) (new : Asker ScriptedLink) → IsAsked wire byte_calls m q old outcome new → IsOut old.link → IsOut new.link
asked-out m q old outcome new a h =
    waiting-out m.metadata.id q a.datagram a.waited a.mid outcome new a.ends (sent-out m (Some q) a.datagram old a.waited a.mid a.sent h)

under-out : (found : Option ℕ) (m : Message) (q : Query) (old : Asker ScriptedLink) (outcome : Outcome) (new : Asker ScriptedLink) → AskUnder wire byte_calls found m q old outcome new → IsOut old.link → IsOut new.link
under-out None m q old outcome new t h = asker-out old new t.1 h
under-out (Some id) m q old outcome new t h =
    elim t [
      | inl u ↦ elim u.1 [
        | inl e ↦ asker-out old new e h
        | inr e ↦ ap (λ (a : Asker ScriptedLink). a.link.out_of_memory) e ∙ h
      ]
      | inr a ↦ asked-out _ q _ outcome new a h
    ]

pub ask-out : (m : Message) (old : Asker ScriptedLink) (outcome : Outcome) (new : Asker ScriptedLink) → Ask wire byte_calls m old outcome new → IsOut old.link → IsOut new.link
ask-out m old outcome new a h =
    ap (λ (x : Asker ScriptedLink). x.link.out_of_memory) a.counted
    ∙ elim a.asked [
      | inl u ↦ asker-out old a.uncounted u.same h
      | inr k ↦ under-out _ m k.question old outcome a.uncounted k.asked h
    ]

pub update-out : (m : Message) (old : Asker ScriptedLink) (reply : Result ResponseCode NetError) (new : Asker ScriptedLink) → SendUpdate wire byte_calls m old reply new → IsOut old.link → IsOut new.link
update-out m old reply new a h =
    ap (λ (x : Asker ScriptedLink). x.link.out_of_memory) a.counted
    ∙ elim a.sent [
      | inl u ↦ asker-out old a.uncounted u.1 h
      | inr k ↦ sent-out m None k.datagram old k.waited a.uncounted k.sent h
    ]
