-- What the steps of a lookup come to, from the clauses of what they call.
use Rattle.std.proofs.Common.{◌≡◌, ◌≢◌, ◌++◌, ◌/◌, List, [], ◌∷◌, ℕ, Option, Some, None, Err, ap, ◌∙◌, refl, subst, sym}
use Rattle.std.specs.declared.net.socket_addr.SocketAddr.{SocketAddr}
use Rattle.dns_messages.specs.declared.query.Query.{Query}
use Rattle.stub_client.specs.Handle.{Outcome}
use Rattle.stub_client.specs.Looks.{Reply}
use Rattle.api_resolver.specs.known.Known.{known_outcome}
use Rattle.api_resolver.specs.known.Progress as progress
use Rattle.api_resolver.specs.declared.known.known.KnownOutcome.{KnownOutcome}
use Rattle.api_resolver.specs.declared.known.known.KnownReply.{KnownReply}
use Rattle.api_resolver.specs.declared.known.progress.Progress.{Progress}
use Rattle.api_resolver.specs.declared.known.progress.Progress.TheVariants as progresses
use Rattle.stub_lookup.specs.declared.error.LinkFault.TheVariants as fault
use Rattle.stub_lookup.specs.declared.error.NetError.{NetError}
use Rattle.stub_lookup.specs.declared.error.NetError.TheVariants as net
use Rattle.stub_servers.specs.Servers.{Servers}
use Rattle.api_resolver.specs.Exchange.{ComesTo, HasEnded, IsWaiting, Steps}
use Rattle.api_resolver.specs.Lookup.{DrawsId, Follows, Goes, KeepsSettings, Opens, OpensFrom, Takes, failure_of, lookup_settings_of, with_known}
use Rattle.api_resolver.specs.Lookup as lookup
use Rattle.api_resolver.specs.declared.event.Arrival.TheVariants.{Message}
use Rattle.api_resolver.specs.declared.event.Event.{Event}
use Rattle.api_resolver.specs.declared.exchange.Awaited.{Awaited}
use Rattle.api_resolver.specs.declared.exchange.Continuation.{Continuation}
use Rattle.api_resolver.specs.declared.exchange.Continuation.TheVariants as next
use Rattle.api_resolver.specs.declared.exchange.Exchange.{Exchange}
use Rattle.api_resolver.specs.declared.exchange.ExchangeStep.{ExchangeStep}
use Rattle.api_resolver.specs.declared.exchange.ExchangeStep.TheVariants as step
use Rattle.api_resolver.specs.declared.exchange.Start.{Start}
use Rattle.api_resolver.specs.declared.lookup.Course.{Course}
use Rattle.api_resolver.specs.declared.lookup.LookupState.{LookupState}
use Rattle.api_resolver.specs.declared.lookup.LookupState.TheVariants.{Ended, Waits}
use Rattle.api_resolver.specs.declared.lookup.OpenLookup.{OpenLookup}
use Rattle.api_resolver.specs.declared.resolver.StepResolver.{StepResolver}

-- ---- the exchange for the next question

-- it waits for the reply to its first message
pub waits_first : (resolver : StepResolver) (start : Start) (events : List Event) (found : ExchangeStep) (awaited : Awaited)
    → ComesTo resolver.settings start events found → found ≡ step.Waits awaited → events ≡ []
    → OpensFrom resolver start (Waits (record { start = start; events = events; awaited = awaited }))
waits_first resolver start events found awaited comes is none =
    let waiting : IsWaiting resolver.settings start events awaited = subst (λ (s : ExchangeStep). ComesTo resolver.settings start events s) is comes in
    subst (λ (es : List Event). OpensFrom resolver start (Waits (record { start = start; events = es; awaited = awaited }))) (sym none)
    (lookup.exchange_waits awaited (subst (λ (es : List Event). IsWaiting resolver.settings start es awaited) none waiting))

-- it ends at once
pub ends_first : (resolver : StepResolver) (start : Start) (events : List Event) (found : ExchangeStep) (outcome : Outcome) (servers : Servers) (error : NetError)
    → ComesTo resolver.settings start events found → found ≡ step.Ends outcome servers → events ≡ [] → error ≡ failure_of outcome
    → OpensFrom resolver start (Ended (Err error))
ends_first resolver start events found outcome servers error comes is none failed =
    let ended : HasEnded resolver.settings start events outcome servers = subst (λ (s : ExchangeStep). ComesTo resolver.settings start events s) is comes in
    subst (λ (e : NetError). OpensFrom resolver start (Ended (Err e))) (sym failed)
    (lookup.exchange_is_over outcome servers (subst (λ (es : List Event). HasEnded resolver.settings start es outcome servers) none ended))

-- there is no id for it
pub has_no_id : (resolver : StepResolver) (course course' : Course) (q : Query) (clock : ℕ) (drawn : Option ℕ) → DrawsId course drawn course' → drawn ≡ None
    → Opens resolver course q clock (Ended (Err (net.Link fault.NoId))) course'
has_no_id resolver course course' q clock drawn draws none =
    lookup.no_id_is_left course' (subst (λ (d : Option ℕ). DrawsId course d course') none draws)

-- it begins under the id that was drawn, with a copy of the servers
pub begins : (resolver : StepResolver) (course course' : Course) (q : Query) (clock id : ℕ) (drawn : Option ℕ) (servers : Servers) (state : LookupState)
    → DrawsId course drawn course' → drawn ≡ Some id → servers ≡ resolver.servers
    → OpensFrom resolver (record { question = q; id = id; moment = clock; servers = servers }) state → Opens resolver course q clock state course'
begins resolver course course' q clock id drawn servers state draws some same opens =
    lookup.exchange_begins id state course' (subst (λ (d : Option ℕ). DrawsId course d course') some draws)
    (subst (λ (s : Servers). OpensFrom resolver (record { question = q; id = id; moment = clock; servers = s }) state) same opens)

-- ---- steps

-- a lookup ends over the replies that are known
pub goes_to_end : (old new : StepResolver) (course course' : Course) (clock : ℕ) (found : Progress) (reply : Reply)
    → progress.ComesTo (lookup_settings_of old) (course.begun / 1000) course.known old.client.cache course.question found new.client.cache
    → found ≡ progresses.Ends reply → course' ≡ course → KeepsSettings old new → Goes old course clock (Ended reply) course' new
goes_to_end old new course course' clock found reply comes is same keeps =
    lookup.lookup_ends reply course' new
    (subst (λ (f : Progress). progress.ComesTo (lookup_settings_of old) (course.begun / 1000) course.known old.client.cache course.question f new.client.cache) is comes) same keeps

-- it asks a question that nothing is known of
pub goes_to_ask : (old new : StepResolver) (course mid course' : Course) (clock : ℕ) (found : Progress) (q : Query) (state : LookupState)
    → progress.ComesTo (lookup_settings_of old) (course.begun / 1000) course.known old.client.cache course.question found new.client.cache
    → found ≡ progresses.Asks q → mid ≡ course → KeepsSettings old new → Opens new mid q clock state course' → Goes old course clock state course' new
goes_to_ask old new course mid course' clock found q state comes is same keeps opens =
    let asks = subst (λ (f : Progress). progress.ComesTo (lookup_settings_of old) (course.begun / 1000) course.known old.client.cache course.question f new.client.cache) is comes in
    lookup.question_is_asked q state course' new asks.0 (subst (λ (m : Course). Opens new m q clock state course') same opens) asks.1 keeps

-- one more reply is known
pub now_known : (course mid : Course) (q : Query) (outcome : KnownOutcome) (known : List KnownReply) → mid ≡ record course { known = known }
    → known ≡ course.known ++ record { question = q; outcome = outcome } ∷ [] → mid ≡ with_known q outcome course
now_known course mid q outcome known is more = is ∙ ap (λ (k : List KnownReply). (let c : Course = record course { known = k } in c)) more

-- there is no memory for one more
pub still_known : (course : Course) (known : List KnownReply) → known ≡ course.known → (let c : Course = record course { known = known } in c) ≡ course
still_known course known same = ap (λ (k : List KnownReply). (let c : Course = record course { known = k } in c)) same

-- the lookup goes on with it
pub follows_on : (old new : StepResolver) (course mid course' : Course) (q : Query) (outcome : Outcome) (clock : ℕ) (found : Option KnownOutcome) (known : KnownOutcome) (state : LookupState)
    → found ≡ known_outcome outcome → found ≡ Some known → mid ≡ with_known q known course → Goes old mid clock state course' new
    → Follows old course q outcome clock state course' new
follows_on old new course mid course' q outcome clock found known state is some same goes =
    lookup.outcome_is_known known state course' new (sym is ∙ some) (subst (λ (m : Course). Goes old m clock state course' new) same goes)

-- the exchange still waits
pub takes_and_waits : (old new : StepResolver) (course course' : Course) (exchange after : Exchange) (event : Event) (found : Continuation)
    → Steps old.settings exchange event found → found ≡ next.Waits after → course' ≡ course → new ≡ old → Takes old course exchange event (Waits after) course' new
takes_and_waits old new course course' exchange after event found steps is same unchanged =
    lookup.exchange_goes_on after course' new (subst (λ (f : Continuation). Steps old.settings exchange event f) is steps) same unchanged

-- it ends, and the lookup goes on
pub takes_and_ends : (old mid new : StepResolver) (course course' : Course) (exchange : Exchange) (event : Event) (found : Continuation) (outcome : Outcome) (servers : Servers) (q : Query)
    (state : LookupState) → Steps old.settings exchange event found → found ≡ next.Ends outcome servers → mid ≡ record old { servers = servers } → q ≡ exchange.start.question
    → Follows mid course q outcome event.moment state course' new → Takes old course exchange event state course' new
takes_and_ends old mid new course course' exchange event found outcome servers q state steps is same asked follows =
    let from-mid = subst (λ (m : StepResolver). Follows m course q outcome event.moment state course' new) same follows in
    lookup.exchange_ends outcome servers state course' new (subst (λ (f : Continuation). Steps old.settings exchange event f) is steps)
    (subst (λ (asks : Query). Follows (record old { servers = servers }) course asks outcome event.moment state course' new) asked from-mid)

-- ---- messages

-- one from the server that is asked
pub from_server : (old new : StepResolver) (held after : OpenLookup) (bytes : List ℕ) (from : SocketAddr) (clock : ℕ) (awaited : Awaited)
    → lookup.awaited_in held.state ≡ Some awaited → awaited.outgoing.server ≡ from
    → lookup.TakesEvent old held (record { moment = clock; arrival = Message bytes }) after new → lookup.Receives old held bytes from clock after new
from_server old new held after bytes from clock awaited is same takes = lookup.message_is_taken awaited after new is same takes

-- one from another
pub from_another : (old : StepResolver) (held : OpenLookup) (bytes : List ℕ) (from : SocketAddr) (clock : ℕ) (awaited : Awaited)
    → lookup.awaited_in held.state ≡ Some awaited → awaited.outgoing.server ≢ from → lookup.Receives old held bytes from clock held old
from_another old held bytes from clock awaited is other =
    lookup.message_is_dropped held old (λ (a : Awaited) (some : lookup.awaited_in held.state ≡ Some a). subst (λ (b : Awaited). b.outgoing.server ≢ from) (let same : awaited ≡ a = cc in same) other) refl refl

-- one that is not awaited
pub after_the_end : (old : StepResolver) (held : OpenLookup) (bytes : List ℕ) (from : SocketAddr) (clock : ℕ)
    → lookup.awaited_in held.state ≡ None → lookup.Receives old held bytes from clock held old
after_the_end old held bytes from clock none =
    lookup.message_is_dropped held old (λ (a : Awaited) (some : lookup.awaited_in held.state ≡ Some a). absurd (let never : ⊥ = cc in never)) refl refl
