-- A question is asked.
use Rattle.std.proofs.Common.{◌≡◌, ◌≤◌, Bool, true, false, ℕ, length, List, [], ◌∷◌, ◌++◌, Option, Some, None, Result, Ok, Err, refl, sym, subst, inl, inr, ap, ◌∙◌}
use Rattle.std.specs.Prelude.{◌⊎◌, slice_get}
use Rattle.std.proofs.lemmas.Option.{slice_get_past}
use Rattle.std.proofs.lemmas.Bool.{true≢false}
use Rattle.dns_messages.specs.declared.query.Query.{Query}
use Rattle.dns_messages.specs.declared.message.Message.{Message}
use Rattle.dns_messages.specs.declared.response.DnsResponse.{DnsResponse}
use Rattle.stub_lookup.specs.declared.error.LinkFault.TheVariants as fault
use Rattle.stub_lookup.specs.declared.error.NetError.TheVariants as net
use Rattle.dns_messages.specs.declared.response_code.ResponseCode.{ResponseCode}
use Rattle.stub_lookup.specs.declared.error.NetError.{NetError}
use Rattle.stub_client.specs.Handle.{Outcome}
use Rattle.stub_client.specs.declared.request.DnsRequest.{DnsRequest}
use Rattle.stub_link.specs.declared.link.LinkError.{LinkError}
use Rattle.stub_link.specs.declared.wire_handle.WireHandle.{WireHandle}
use Rattle.stub_link.specs.Link.{Calls, calls_of, wire}
use Rattle.stub_link.specs.Request.{IsQuestion, with_id}
use Rattle.stub_link.specs.Ask.{AfterReply, AfterWaiting, Ask, AskUnder, Asker, IsAsked, IsSent, IsStreamed, IsSupported, IsUnsupported, draw, faults_after}
use Rattle.stub_link.specs.Update.{IsUpdateSent, SendUpdate, code_of}
use Rattle.stub_link.specs.WireHandle.{Asks, FailsByLink, SendsUpdate, StreamsTo, asker_of, is_truncated}

-- the reply is whole, or there is none
ends-once : {L : Type 0} (c : Calls L (List ℕ)) (id : ℕ) (q : Query) (bytes : List ℕ) (waited : Outcome) (mid : Asker L) → is_truncated waited ≡ false → AfterWaiting wire c id q bytes waited mid waited mid
ends-once c id q bytes (Err error) mid h = (refl, refl)
ends-once {L} c id q bytes (Ok response) mid h =
    subst (λ (b : Bool). AfterReply wire c id q bytes b response mid (Ok response) mid) (sym h) (refl, refl)

pub asked-once : {L : Type 0} (c : Calls L (List ℕ)) (m : Message) (q : Query) (bytes : List ℕ) (old : Asker L) (waited : Outcome) (new : Asker L) → IsSent wire c m (Some q) bytes old waited new → is_truncated waited ≡ false
    → IsAsked wire c m q old waited new
asked-once c m q bytes old waited new sent h = record { datagram = bytes; waited = waited; mid = new; sent = sent; ends = ends-once c m.metadata.id q bytes waited new h }

-- the reply is truncated
ends-again : {L : Type 0} (c : Calls L (List ℕ)) (id : ℕ) (q : Query) (bytes : List ℕ) (waited : Outcome) (mid : Asker L) (outcome : Outcome) (link : L) → is_truncated waited ≡ true
    → StreamsTo c.streams id q bytes mid.link outcome link → AfterWaiting wire c id q bytes waited mid outcome (record mid { link = link })
ends-again c id q bytes (Err error) mid outcome link h s = absurd (true≢false (sym h))
ends-again {L} c id q bytes (Ok response) mid outcome link h s =
    subst (λ (b : Bool). AfterReply wire c id q bytes b response mid outcome (record mid { link = link })) (sym h)
    (record { result = s.result; link = link; streams = s.streamed; after = s.after; new_is = refl })

pub asked-again : {L : Type 0} (c : Calls L (List ℕ)) (m : Message) (q : Query) (bytes : List ℕ) (old : Asker L) (waited : Outcome) (mid : Asker L) (outcome : Outcome) (link : L) → IsSent wire c m (Some q) bytes old waited mid
    → is_truncated waited ≡ true → StreamsTo c.streams m.metadata.id q bytes mid.link outcome link → IsAsked wire c m q old outcome (record mid { link = link })
asked-again c m q bytes old waited mid outcome link sent h s =
    record { datagram = bytes; waited = waited; mid = mid; sent = sent; ends = ends-again c m.metadata.id q bytes waited mid outcome link h s }

-- ---- the id

pub supported-by : {L : Type 0} (c : Calls L (List ℕ)) (m : Message) (q : Query) (old : Asker L) (outcome : Outcome) (new : Asker L) (found : Option ℕ) → IsQuestion m q → slice_get old.ids (length old.sent) ≡ found
    → AskUnder wire c found m q old outcome new → IsSupported wire c m old outcome new
supported-by c m q old outcome new found a is by = record {
  question = q;
  asks = a;
  asked = subst (λ (drawn : Option ℕ). AskUnder wire c drawn m q old outcome new) (sym is) by;
}

-- the id was drawn
pub asked-drawn : {L : Type 0} (c : Calls L (List ℕ)) (m : Message) (q : Query) (old mid : Asker L) (outcome : Outcome) (new : Asker L) (id : ℕ) → mid ≡ draw id q old
    → ((outcome ≡ Err net.Memory) × (new ≡ mid)) ⊎ IsAsked wire c (with_id id m) q mid outcome new → AskUnder wire c (Some id) m q old outcome new
asked-drawn c m q old mid outcome new id e (inl u) = inl (u.0, inr (u.1 ∙ e))
asked-drawn {L} c m q old mid outcome new id e (inr a) = inr (subst (λ (s : Asker L). IsAsked wire c (with_id id m) q s outcome new) e a)

-- ---- faults are counted

pub asks-counted : {L : Type 0} (sends : L → List ℕ → Result (Unit {0}) LinkError → L → Type 0) (receives : L → Result (Option (List ℕ)) LinkError → L → Type 0) (streams : L → List ℕ → Result (List ℕ) LinkError → L → Type 0) (failure_count : L → ℕ)
    (request : DnsRequest) (now : ℕ) (m : Message) (old : WireHandle L) (outcome : Outcome) (mid new : WireHandle L) → m ≡ request.message
    → IsUnsupported m (asker_of old) outcome (asker_of mid) ⊎ IsSupported wire (calls_of sends receives streams) m (asker_of old) outcome (asker_of mid)
    → FailsByLink outcome (failure_count old.link) (failure_count mid.link) → new ≡ record mid { faults = faults_after outcome mid.faults }
    → Asks sends receives streams failure_count old request now outcome new
asks-counted {L} sends receives streams failure_count request now m old outcome mid new same asked failed e = record {
  ask = subst (λ (n : Message). Ask wire (calls_of sends receives streams) n (asker_of old) outcome (asker_of new)) same
      (record { uncounted = asker_of mid; asked = asked; counted = ap (λ (h : WireHandle L). asker_of h) e });
  failed = subst (λ (l : L). FailsByLink outcome (failure_count old.link) (failure_count l)) (sym (ap (λ (h : WireHandle L). h.link) e)) failed;
}

pub update-counted : {L : Type 0} (sends : L → List ℕ → Result (Unit {0}) LinkError → L → Type 0) (receives : L → Result (Option (List ℕ)) LinkError → L → Type 0) (streams : L → List ℕ → Result (List ℕ) LinkError → L → Type 0) (failure_count : L → ℕ)
    (m update : Message) (old : WireHandle L) (reply : Result ResponseCode NetError) (mid new : WireHandle L) → m ≡ update
    → ((reply ≡ Err net.Memory) × (asker_of mid ≡ asker_of old)) ⊎ IsUpdateSent wire (calls_of sends receives streams) m (asker_of old) reply (asker_of mid)
    → FailsByLink reply (failure_count old.link) (failure_count mid.link) → new ≡ record mid { faults = faults_after reply mid.faults }
    → SendsUpdate sends receives streams failure_count old update reply new
update-counted {L} sends receives streams failure_count m update old reply mid new same sent failed e = record {
  sent = subst (λ (n : Message). SendUpdate wire (calls_of sends receives streams) n (asker_of old) reply (asker_of new)) same
      (record { uncounted = asker_of mid; sent = sent; counted = ap (λ (h : WireHandle L). asker_of h) e });
  failed = subst (λ (l : L). FailsByLink reply (failure_count old.link) (failure_count l)) (sym (ap (λ (h : WireHandle L). h.link) e)) failed;
}

-- the code of a reply fails as the reply does
pub code-fails : (outcome : Outcome) (a b : ℕ) → FailsByLink outcome a b → FailsByLink (code_of outcome) a b
code-fails (Ok response) a b f = f
code-fails (Err (net.Link fault.NotSent)) a b f = f
code-fails (Err (net.Link fault.NotReceived)) a b f = f
code-fails (Err (net.Link fault.StreamFailed)) a b f = f
code-fails (Err (net.Link fault.Quiet)) a b f = f
code-fails (Err (net.Link fault.NoMatch)) a b f = f
code-fails (Err (net.Link fault.Truncated)) a b f = f
code-fails (Err (net.Link fault.StreamUnreadable)) a b f = f
code-fails (Err (net.Link fault.StreamMismatch)) a b f = f
code-fails (Err (net.Link fault.NoId)) a b f = f
code-fails (Err (net.Dns e)) a b f = f
code-fails (Err (net.Proto e)) a b f = f
code-fails (Err (net.Message e)) a b f = f
code-fails (Err net.Unsupported) a b f = f
code-fails (Err net.Memory) a b f = f
