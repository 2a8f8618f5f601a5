-- What questions cost, over the zone's server, and which ids they draw.
use Rattle.std.proofs.Common.{◌≡◌, ◌≤◌, ◌+◌, ◌++◌, Bool, true, false, inl, inr, ℕ, zero, suc, List, [], ◌∷◌, Some, Result, length, map, take, slice_get, refl, sym, ap, subst, ◌∙◌, arith}
use Rattle.dns_messages.specs.declared.message.Message.{Message}
use Rattle.dns_messages.specs.declared.query.Query.{Query}
use Rattle.dns_messages.specs.declared.response_code.ResponseCode.{ResponseCode}
use Rattle.stub_config.specs.declared.request_options.DnsRequestOptions.{DnsRequestOptions}
use Rattle.stub_lookup.specs.declared.error.NetError.{NetError}
use Rattle.stub_client.specs.Handle.{Ask, Led, Outcome, request_for}
use Rattle.stub_client.specs.declared.request.DnsRequest.{DnsRequest}
use Rattle.stub_link.specs.Ask.{Asker}
use Rattle.stub_link.specs.AskState.{AskState, AskZone, UpdateZone}
use Rattle.stub_link.specs.Link.{messages}
use Rattle.stub_link.specs.LinkState.{link_calls}
use Rattle.stub_run.specs.Counts.{AreFew, HasDrawn}
use Rattle.stub_run.proofs.OutOfMemory.{IsOut, ask-zone-out, with-memory}
use Rattle.stub_run.proofs.Requests.{Draws, Tallies, ask-tallies, update-tallies}

abbrev pub AsksServer : AskState → DnsRequest → ℕ → Outcome → AskState → Type 0
AsksServer old request now outcome new = AskZone old request now outcome new

-- ---- one request

pub few-by : {L : Type 0} (old new : Asker L) → Tallies 1 old new → AreFew 1 old new
few-by old new t = record { questions = t.questions; dropped = t.dropped }

pub question-few : (old new : AskState) (request : DnsRequest) (now : ℕ) (outcome : Outcome) → AskZone old request now outcome new
    → new.link.out_of_memory ≡ false → AreFew 1 old new
question-few old new request now outcome (inl out) memory = with-memory (λ a. AreFew 1 old a) new memory (inl out.1)
question-few old new request now outcome (inr ask) memory =
    few-by old new (ask-tallies messages link_calls request.message old outcome new ask)

pub update-few : (old new : AskState) (update : Message) (reply : Result ResponseCode NetError) → UpdateZone old update reply new
    → new.link.out_of_memory ≡ false → (new.questions ≤ old.questions) × (new.dropped ≤ old.dropped + 16)
update-few old new update reply (inl out) memory =
    with-memory (λ a. (a.questions ≤ old.questions) × (a.dropped ≤ old.dropped + 16)) new memory (inl out.1)
update-few old new update reply (inr sends) memory =
    let t = update-tallies messages link_calls update old reply new sends in
    let questions = t.questions in
    (omega (arith, questions), t.dropped)

-- ---- questions one after another

-- out of memory, it stays so
led-out : (options : DnsRequestOptions) (now : ℕ) (old : AskState) (asks : List Ask) (new : AskState)
    → Led AsksServer options now old asks new → IsOut old.link → IsOut new.link
led-out options now old [] new h out = ap (λ (a : AskState). a.link.out_of_memory) h ∙ out
led-out options now old (ask ∷ asks) new h out =
    led-out options now h.0 asks new h.2
    (ask-zone-out old (request_for ask.question options) now ask.outcome h.0 h.1 out)

pub no-questions : {L : Type 0} (old new : Asker L) → new ≡ old → AreFew 0 old new
no-questions {L} old new same = subst (λ (a : Asker L). AreFew 0 old a) (sym same) (record {
  questions = omega arith;
  dropped = omega arith;
})

pub more-questions : {L : Type 0} (count : ℕ) (old mid new : Asker L) → AreFew 1 old mid → AreFew count mid new
    → AreFew (suc count) old new
more-questions count old mid new one rest =
    let asked = one.questions in
    let more = rest.questions in
    let dropped = one.dropped in
    let others = rest.dropped in
    record { questions = omega (arith, asked, more); dropped = omega (arith, dropped, others) }

led-few : (options : DnsRequestOptions) (now : ℕ) (old : AskState) (asks : List Ask) (new : AskState)
    → Led AsksServer options now old asks new → new.link.out_of_memory ≡ false → AreFew (length asks) old new
led-few options now old [] new h memory = no-questions old new h
led-few options now old (ask ∷ asks) new h memory =
    more-questions (length asks) old h.0 new
    (question-few old h.0 (request_for ask.question options) now ask.outcome h.1 (quiet h.0.link.out_of_memory refl))
    (led-few options now h.0 asks new h.2 memory)
  where
    quiet : (b : Bool) → h.0.link.out_of_memory ≡ b → h.0.link.out_of_memory ≡ false
    quiet false is = is
    quiet true is =
        with-memory (λ a. h.0.link.out_of_memory ≡ false) new memory (inl (led-out options now h.0 asks new h.2 is))

pub fewer : {L : Type 0} (count most : ℕ) (old new : Asker L) → count ≤ most → AreFew count old new → AreFew most old new
fewer count most old new within few =
    let questions = few.questions in
    let dropped = few.dropped in
    record { questions = omega (arith, within, questions); dropped = omega (arith, within, dropped) }

pub lookup-few : (options : DnsRequestOptions) (now : ℕ) (old : AskState) (asks : List Ask) (new : AskState)
    → Led AsksServer options now old asks new → length asks ≤ 8 → new.link.out_of_memory ≡ false → AreFew 8 old new
lookup-few options now old asks new led within memory =
    fewer (length asks) 8 old new within (led-few options now old asks new led memory)

-- ---- ids

take-next : (xs : List ℕ) (n x : ℕ) → slice_get xs n ≡ Some x → take (suc n) xs ≡ take n xs ++ x ∷ []
take-next [] n x h = absurd (cc)
take-next (y ∷ ys) zero x h = ap (λ (z : ℕ). z ∷ []) (same y x h)
  where
    same : (y x : ℕ) → Some y ≡ Some x → y ≡ x
    same y x h = cc
take-next (y ∷ ys) (suc n) x h = ap (λ (zs : List ℕ). y ∷ zs) (take-next ys n x h)

map-last : (sent : List (ℕ × Query)) (d : ℕ × Query) → map (λ (draw : ℕ × Query). draw.0) (sent ++ d ∷ []) ≡ map (λ (draw : ℕ × Query). draw.0) sent ++ d.0 ∷ []
map-last [] d = refl
map-last (s ∷ sent) d = ap (λ (zs : List ℕ). s.0 ∷ zs) (map-last sent d)

length-last : (sent : List (ℕ × Query)) (d : ℕ × Query) → length (sent ++ d ∷ []) ≡ suc (length sent)
length-last [] d = refl
length-last (s ∷ sent) d = ap (λ (n : ℕ). suc n) (length-last sent d)

-- the ids that were drawn, of those of a list
abbrev AreFirst : List ℕ → List (ℕ × Query) → Type 0
AreFirst ids sent = map (λ (draw : ℕ × Query). draw.0) sent ≡ take (length sent) ids

drawn-more : (ids : List ℕ) (sent : List (ℕ × Query)) (d : ℕ × Query) → slice_get ids (length sent) ≡ Some d.0 → AreFirst ids sent
    → AreFirst ids (sent ++ d ∷ [])
drawn-more ids sent d next h =
    map-last sent d ∙ ap (λ (zs : List ℕ). zs ++ d.0 ∷ []) h ∙ sym (take-next ids (length sent) d.0 next)
    ∙ ap (λ (n : ℕ). take n ids) (sym (length-last sent d))

draws-more : (ids : List ℕ) (old new : AskState) → HasDrawn ids old → new.ids ≡ old.ids → Draws old new → HasDrawn ids new
draws-more ids old new h same (inl sent) = record {
  ids_are = same ∙ h.ids_are;
  drawn = subst (λ (s : List (ℕ × Query)). AreFirst ids s) (sym sent) h.drawn;
}
draws-more ids old new h same (inr d) = record {
  ids_are = same ∙ h.ids_are;
  drawn = subst (λ (s : List (ℕ × Query)). AreFirst ids s) (sym d.3)
      (drawn-more ids old.sent (d.0, d.1) (subst (λ (xs : List ℕ). slice_get xs (length old.sent) ≡ Some d.0) h.ids_are d.2) h.drawn);
}

pub tallies-draw : (most : ℕ) (ids : List ℕ) (old new : AskState) → Tallies most old new → HasDrawn ids old → HasDrawn ids new
tallies-draw most ids old new t h = draws-more ids old new h t.ids t.draws
