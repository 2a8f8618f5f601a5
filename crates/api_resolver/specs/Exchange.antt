-- The exchange for one question.
use Rattle.std.specs.Prelude.{◌≡◌, ◌==◌, ◌++◌, if◌then◌else◌, max, false, List, [], ◌∷◌, ℕ, Option, Some, None}
use Rattle.stub_client.specs.Handle.{Behavior, Outcome, request_for}
use Rattle.stub_client.specs.Request.{request_of}
use Rattle.stub_servers.specs.Servers.{Servers}
use Rattle.stub_net.specs.Ids.{DrawsFirst}
use Rattle.stub_net.specs.Network.{NetworkCalls, network_calls}
use Rattle.stub_net.specs.Pool.{Gives}
use Rattle.stub_net.specs.scrub.Scrub.{GivesScrubbed}
use Rattle.stub_net.specs.declared.pool.NameServerPool.{NameServerPool}
use Rattle.api_resolver.specs.Replay.{ReadsClock, Receives, ReplayState, Sends, Streams, first_replay}
use Rattle.api_resolver.specs.declared.event.Event.{Event}
use Rattle.api_resolver.specs.declared.event.Outgoing.{Outgoing}
use Rattle.api_resolver.specs.declared.exchange.Awaited.{Awaited}
use Rattle.api_resolver.specs.declared.exchange.Continuation.{Continuation}
use Rattle.api_resolver.specs.declared.exchange.Continuation.TheVariants as next
use Rattle.api_resolver.specs.declared.exchange.Exchange.{Exchange}
use Rattle.api_resolver.specs.declared.exchange.ExchangeSettings.{ExchangeSettings}
use Rattle.api_resolver.specs.declared.exchange.ExchangeStep.{ExchangeStep}
use Rattle.api_resolver.specs.declared.exchange.ExchangeStep.TheVariants.{Ends, Waits}
use Rattle.api_resolver.specs.declared.exchange.Start.{Start}

-- a pool over a network of what has come so far, with the ids of a list
abbrev pub Pool : Type 0
Pool = NameServerPool ReplayState (List ℕ)

-- the pool of an exchange before it is asked, over a network of events
pub record IsPool (settings : ExchangeSettings) (start : Start) (events : List Event) (pool : Pool) : Type 0 where
  pub network_is : pool.requester.network ≡ first_replay start.moment events
  pub ids_are : pool.ids ≡ start.id ∷ []
  pub servers_are : pool.servers ≡ start.servers
  pub timeout_is : pool.requester.timeout ≡ settings.timeout
  pub attempts_are : pool.attempts ≡ max settings.options.attempts 1
  pub sends_datagrams : pool.requester.streams_alone ≡ false

-- the message whose reply is awaited
abbrev pub awaited_at : Option Outgoing → ℕ → Option ℕ → Option Awaited
awaited_at (Some outgoing) count (Some deadline) =
    Some (record { outgoing = outgoing; number = count; deadline = deadline })
awaited_at (Some outgoing) count None = None
awaited_at None count deadline = None

-- the message whose reply a network awaits, if there was no event for a wait
abbrev pub awaited_of : ReplayState → Option Awaited
awaited_of network = awaited_at network.outgoing network.count network.deadline

-- what the calls of a network of events do
abbrev pub replay_calls : NetworkCalls ReplayState
replay_calls = network_calls (λ old server bytes result new. Sends old server bytes result new)
    (λ old deadline result new. Receives old deadline result new)
    (λ old server bytes deadline result new. Streams old server bytes deadline result new)
    (λ old now new. ReadsClock old now new)

-- what the pool does with a request, as a handle
abbrev pub pool_gives : Behavior Pool
pool_gives old request now outcome new =
    Gives replay_calls (λ old id new. DrawsFirst old id new) old request.message outcome new

-- The exchange for a question, over the events that have come so far: the pool is asked the question, with this outcome, of which
-- remains what the question leads to, and is in this state afterwards.
pub record Asks (settings : ExchangeSettings) (start : Start) (events : List Event) (outcome : Outcome) (new : Pool) : Type 0 where
  pub pool : Pool
  pub is_pool : IsPool settings start events pool
  pub gives : GivesScrubbed pool_gives pool (request_for start.question settings.request) 0
      (request_of start.question settings.request).queries outcome new

-- an exchange waits for the reply to the message that the pool sent last
pub record IsWaiting (settings : ExchangeSettings) (start : Start) (events : List Event) (awaited : Awaited) : Type 0 where
  pub outcome : Outcome
  pub new : Pool
  pub asks : Asks settings start events outcome new
  pub awaited_is : awaited_of new.requester.network ≡ Some awaited

-- an exchange ends: the pool had an event for each wait
pub record HasEnded (settings : ExchangeSettings) (start : Start) (events : List Event) (outcome : Outcome) (servers : Servers)
    : Type 0 where
  pub new : Pool
  pub asks : Asks settings start events outcome new
  pub ended : awaited_of new.requester.network ≡ None
  pub servers_are : servers ≡ new.servers

-- what an exchange comes to
abbrev pub ComesTo : ExchangeSettings → Start → List Event → ExchangeStep → Type 0
ComesTo settings start events (Waits awaited) = IsWaiting settings start events awaited
ComesTo settings start events (Ends outcome servers) = HasEnded settings start events outcome servers

-- what has come, with one more event
abbrev pub with_event : Exchange → Event → List Event
with_event exchange event = exchange.events ++ event ∷ []

-- An exchange that awaits the reply to a message with one more event. It drops the event if this is the message that was sent last.
abbrev pub after_message : Exchange → Awaited → List Event → Exchange
after_message old awaited more =
    if awaited.number == old.awaited.number then old else record old { events = more; awaited = awaited }

-- what an exchange goes on with
abbrev pub after_step : Exchange → ExchangeStep → List Event → Continuation
after_step old (Waits awaited) more = next.Waits (after_message old awaited more)
after_step old (Ends outcome servers) more = next.Ends outcome servers

-- An exchange goes on after one more event.
pub record Steps (settings : ExchangeSettings) (old : Exchange) (event : Event) (new : Continuation) : Type 0 where
  pub step : ExchangeStep
  pub comes_to : ComesTo settings old.start (with_event old event) step
  pub new_is : new ≡ after_step old step (with_event old event)
