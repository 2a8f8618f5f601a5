-- Questions that are asked one after another: the state stays faithful, and all outcomes hold answers that stood.
use Rattle.std.proofs.Common.{◌≡◌, ℕ, ◌++◌, List, [], ◌∷◌, false, All, refl, sym, ap, subst, ◌∙◌, inl, inr, arith}
use Rattle.std.proofs.lemmas.Bool.{true≢false}
use Rattle.std.proofs.lemmas.List.{append-nil, append_assoc}
use Rattle.std.proofs.lemmas.List.Elements.{All-cons, All-nil}
use Rattle.dns_names.specs.Name.{DomainName}
use Rattle.dns_messages.specs.declared.query.Query.{Query}
use Rattle.stub_config.specs.declared.request_options.DnsRequestOptions.{DnsRequestOptions}
use Rattle.stub_client.specs.Handle.{Ask, Led, Outcome, request_for}
use Rattle.stub_client.specs.Origins.{asked_at}
use Rattle.stub_client.specs.declared.request.DnsRequest.{DnsRequest}
use Rattle.stub_link.specs.AskState.{AskState, AskZone}
use Rattle.stub_link.specs.LinkState.{Version}
use Rattle.stub_laws.specs.history.Answered.{IsAnsweredBy, IsAnsweredSince}
use Rattle.stub_laws.specs.history.Faithful.{HasNoReuse, IsFaithful, StaysFaithful, StaysFaithfulUnlessOut}
use Rattle.stub_laws.proofs.AskLaws.{more-faithful, since-wider}
use Rattle.stub_laws.specs.history.Stands.{Extends}
use Rattle.stub_laws.proofs.FaithfulLaws.{ask-answers, ask-answers-since, ask-stays}
use Rattle.stub_laws.proofs.LaterLaws.{answered-still}
use Rattle.stub_laws.proofs.OutLaws.{IsOut, ask-out}
use Rattle.stub_laws.proofs.ServeLaws.{UpdatesKeepZones}

-- what a question to the zone's server leads to
abbrev pub asks_zone : AskState → DnsRequest → ℕ → Outcome → AskState → Type 0
asks_zone old request now outcome new = AskZone old request now outcome new

pub stays-then : (origin : DomainName) (old mid new : AskState) → StaysFaithful origin old mid → StaysFaithful origin mid new → StaysFaithful origin old new
stays-then origin old mid new first second = record {
  faithful = second.faithful;
  moment_is = second.moment_is ∙ first.moment_is;
  added = (
    first.added.0 ++ second.added.0,
    second.added.1
        ∙ ap (λ (vs : List Version). vs ++ second.added.0) first.added.1
        ∙ append_assoc old.link.history first.added.0 second.added.0,
  );
  stands = λ moment rows past stand.
      second.stands moment rows (let at : mid.link.moment ≡ old.link.moment = first.moment_is in omega arith) (first.stands moment rows past stand);
  drawn = first.drawn ++ second.drawn;
  sent_is = second.sent_is ∙ ap (λ (s : List (ℕ × Query)). s ++ second.drawn) first.sent_is ∙ append_assoc old.sent first.drawn second.drawn;
}

zone-out : (old new : AskState) (request : DnsRequest) (now : ℕ) (outcome : Outcome) → AskZone old request now outcome new → IsOut old.link → IsOut new.link
zone-out old new request now outcome (inl s) h = s.1
zone-out old new request now outcome (inr x) h = ask-out request.message old outcome new x h

module _ (options : DnsRequestOptions) (now : ℕ) where
  led-out : (old new : AskState) (asks : List Ask) → Led asks_zone options now old asks new → IsOut old.link → IsOut new.link
  led-out old new [] led h = ap (λ (a : AskState). a.link.out_of_memory) led ∙ h
  led-out old new (ask ∷ asks) led h =
      led-out led.0 new asks led.2 (zone-out old led.0 (request_for ask.question options) now ask.outcome led.1 h)

  module _ (keep : UpdatesKeepZones) (origin : DomainName) where
    -- a question did not run out of memory if those after it did not
    first-stays : (old mid new : AskState) (ask : Ask) (asks : List Ask) → IsFaithful origin old
        → AskZone old (request_for ask.question options) now ask.outcome mid → Led asks_zone options now mid asks new
        → new.link.out_of_memory ≡ false → StaysFaithful origin old mid
    first-stays old mid new ask asks f (inl s) rest memory = absurd (true≢false (sym (led-out mid new asks rest s.1) ∙ memory))
    first-stays old mid new ask asks f (inr x) rest memory = by (ask-stays keep origin old f (request_for ask.question options).message ask.outcome mid x)
      where
        by : StaysFaithfulUnlessOut origin old mid → StaysFaithful origin old mid
        by (inl out) = absurd (true≢false (sym (led-out mid new asks rest out) ∙ memory))
        by (inr stays) = stays

    first-answers : (old mid new : AskState) (ask : Ask) (asks : List Ask) (later : List (ℕ × Query)) → IsFaithful origin old
        → AskZone old (request_for ask.question options) now ask.outcome mid → Led asks_zone options now mid asks new
        → new.link.out_of_memory ≡ false → HasNoReuse (mid.sent ++ later)
        → IsAnsweredBy origin mid.link.history (record { moment = old.link.moment; ask = ask })
    first-answers old mid new ask asks later f (inl s) rest memory once = absurd (true≢false (sym (led-out mid new asks rest s.1) ∙ memory))
    first-answers old mid new ask asks later f (inr x) rest memory once =
        ask-answers keep origin old f (request_for ask.question options).message ask.outcome mid x ask.question later refl once

    first-since : (old mid new : AskState) (ask : Ask) (asks : List Ask) (later : List (ℕ × Query)) → IsFaithful origin old
        → AskZone old (request_for ask.question options) now ask.outcome mid → Led asks_zone options now mid asks new
        → new.link.out_of_memory ≡ false → HasNoReuse (mid.sent ++ later)
        → IsAnsweredSince origin old.link.history mid.link.history ask
    first-since old mid new ask asks later f (inl s) rest memory once = absurd (true≢false (sym (led-out mid new asks rest s.1) ∙ memory))
    first-since old mid new ask asks later f (inr x) rest memory once =
        ask-answers-since keep origin old f (request_for ask.question options).message ask.outcome mid x ask.question later refl once

    pub led-holds : (old new : AskState) (asks : List Ask) (later : List (ℕ × Query)) → IsFaithful origin old → old.link.moment ≡ now
        → Led asks_zone options now old asks new → new.link.out_of_memory ≡ false → HasNoReuse (new.sent ++ later)
        → StaysFaithful origin old new × All (IsAnsweredBy origin new.link.history) (asked_at now asks)
    led-holds old new [] later f at led memory once = (
      more-faithful origin old new [] (ap (λ (a : AskState). a.link) led) (ap (λ (a : AskState). a.sent) led ∙ sym (append-nil old.sent)) f,
      All-nil (IsAnsweredBy origin new.link.history),
    )
    led-holds old new (ask ∷ asks) later f at led memory once =
        let mid : AskState = led.0 in
        let first = first-stays old mid new ask asks f led.1 led.2 memory in
        let rest = led-holds mid new asks later first.faithful (first.moment_is ∙ at) led.2 memory once in
        let once-there : HasNoReuse (mid.sent ++ (rest.0.drawn ++ later)) =
        subst (λ (s : List (ℕ × Query)). HasNoReuse s)
        (ap (λ (s : List (ℕ × Query)). s ++ later) rest.0.sent_is ∙ append_assoc mid.sent rest.0.drawn later) once in
        let answered : IsAnsweredBy origin mid.link.history (record { moment = now; ask = ask }) =
        subst (λ (t : ℕ). IsAnsweredBy origin mid.link.history (record { moment = t; ask = ask })) at
        (first-answers old mid new ask asks (rest.0.drawn ++ later) f led.1 led.2 memory once-there) in
        let past : mid.link.moment ≡ now = first.moment_is ∙ at in (
          stays-then origin old mid new first rest.0,
          All-cons (IsAnsweredBy origin new.link.history) (record { moment = now; ask = ask }) (asked_at now asks)
              (answered-still origin mid.link new.link (record { moment = now; ask = ask }) (omega arith) rest.0.stands answered) rest.1,
        )

    -- the outcomes hold the answers of rows that hold since earlier versions
    pub led-since : (earlier : List Version) (old new : AskState) (asks : List Ask) (later : List (ℕ × Query)) → Extends earlier old.link.history
        → IsFaithful origin old → old.link.moment ≡ now → Led asks_zone options now old asks new → new.link.out_of_memory ≡ false
        → HasNoReuse (new.sent ++ later) → All (IsAnsweredSince origin earlier new.link.history) asks
    led-since earlier old new [] later before f at led memory once = All-nil (IsAnsweredSince origin earlier new.link.history)
    led-since earlier old new (ask ∷ asks) later before f at led memory once =
        let mid : AskState = led.0 in
        let first = first-stays old mid new ask asks f led.1 led.2 memory in
        let at-mid : mid.link.moment ≡ now = first.moment_is ∙ at in
        let rest = (led-holds mid new asks later first.faithful at-mid led.2 memory once).0 in
        let once-there : HasNoReuse (mid.sent ++ (rest.drawn ++ later)) =
        subst (λ (s : List (ℕ × Query)). HasNoReuse s)
        (ap (λ (s : List (ℕ × Query)). s ++ later) rest.sent_is ∙ append_assoc mid.sent rest.drawn later) once in
        let here : IsAnsweredSince origin old.link.history mid.link.history ask =
        first-since old mid new ask asks (rest.drawn ++ later) f led.1 led.2 memory once-there in
        let mid-before : Extends earlier mid.link.history = (
          before.0 ++ first.added.0,
          first.added.1
              ∙ ap (λ (vs : List Version). vs ++ first.added.0) before.1
              ∙ append_assoc earlier before.0 first.added.0,
        ) in
        All-cons (IsAnsweredSince origin earlier new.link.history) ask asks
        (λ response ok.
        let held = here response ok in
        record {
          rows = held.rows;
          since = since-wider earlier old.link.history mid.link.history new.link.history held.rows before rest.added held.since;
          holds = held.holds;
        })
        (led-since earlier mid new asks later mid-before first.faithful at-mid led.2 memory once)
