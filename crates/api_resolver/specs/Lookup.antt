-- A lookup that is open, or has ended.
use Rattle.std.specs.Prelude.{◌≡◌, ◌≢◌, ◌++◌, ◌/◌, false, filter_map, List, [], ◌∷◌, ℕ, Option, Some, None, Ok, Err}
use Rattle.std.specs.declared.net.socket_addr.SocketAddr.{SocketAddr}
use Rattle.dns_wire.specs.declared.codes.dns_class.DNSClass.TheVariants.{IN}
use Rattle.dns_wire.specs.declared.codes.record_type.RecordType.{RecordType}
use Rattle.dns_messages.specs.declared.query.Query.{Query}
use Rattle.dns_names.specs.Name.{DomainName}
use Rattle.stub_cache.specs.Ttl.{default_bounds, plain_config}
use Rattle.stub_client.specs.Handle.{Outcome}
use Rattle.stub_client.specs.Looks.{Reply, lookup_settings, out_of_memory}
use Rattle.stub_client.specs.declared.caching_client.step.LookupSettings.{LookupSettings}
use Rattle.stub_config.specs.declared.config.ResolverConfig.{ResolverConfig}
use Rattle.stub_config.specs.declared.options.ResolverOpts.{ResolverOpts}
use Rattle.stub_config.specs.declared.request_options.DnsRequestOptions.{DnsRequestOptions}
use Rattle.stub_lookup.specs.declared.error.LinkFault.TheVariants as fault
use Rattle.stub_lookup.specs.declared.error.NetError.{NetError}
use Rattle.stub_lookup.specs.declared.error.NetError.TheVariants as net
use Rattle.stub_servers.specs.Server.{server_of}
use Rattle.stub_servers.specs.ServerList.{is_round_robin, servers_from}
use Rattle.stub_servers.specs.Servers.{Servers}
use Rattle.api_resolver.specs.Exchange.{HasEnded, IsWaiting, Steps}
use Rattle.api_resolver.specs.known.Known.{known_outcome}
use Rattle.api_resolver.specs.known.Progress.{Concludes, GoesOn}
use Rattle.api_resolver.specs.declared.event.Arrival.TheVariants.{Message}
use Rattle.api_resolver.specs.declared.event.Event.{Event}
use Rattle.api_resolver.specs.declared.exchange.Awaited.{Awaited}
use Rattle.api_resolver.specs.declared.exchange.Continuation.TheVariants as next
use Rattle.api_resolver.specs.declared.exchange.Exchange.{Exchange}
use Rattle.api_resolver.specs.declared.exchange.Start.{Start}
use Rattle.api_resolver.specs.declared.known.known.KnownOutcome.{KnownOutcome}
use Rattle.api_resolver.specs.declared.lookup.Course.{Course}
use Rattle.api_resolver.specs.declared.lookup.LookupState.{LookupState}
use Rattle.api_resolver.specs.declared.lookup.LookupState.TheVariants.{Ended, Waits}
use Rattle.api_resolver.specs.declared.lookup.OpenLookup.{OpenLookup}
use Rattle.api_resolver.specs.declared.resolver.StepResolver.{StepResolver}

-- ---- lookups

-- a lookup of the records of a name and a type, before anything is known
abbrev pub course_of : DomainName → RecordType → List ℕ → ℕ → Course
course_of name kind ids clock = record {
  question = record { name = name; query_type = kind; query_class = IN };
  begun = clock;
  ids = ids;
  known = [];
}

-- the first id is drawn, or there is none
abbrev pub DrawsFrom : List ℕ → Course → Option ℕ → Course → Type 0
DrawsFrom [] old drawn new = (drawn ≡ None) × (new ≡ old)
DrawsFrom (id ∷ ids) old drawn new = (drawn ≡ Some id) × (new ≡ record old { ids = ids })

-- a lookup draws the id of an exchange
abbrev pub DrawsId : Course → Option ℕ → Course → Type 0
DrawsId old drawn new = DrawsFrom old.ids old drawn new

-- the message whose reply a lookup awaits
abbrev pub awaited_in : LookupState → Option Awaited
awaited_in (Waits exchange) = Some exchange.awaited
awaited_in (Ended reply) = None

-- a lookup that ended for want of memory
abbrev pub ended_for_memory : LookupState
ended_for_memory = Ended out_of_memory

-- why an exchange ended before anything came; it can't have a reply
abbrev pub failure_of : Outcome → NetError
failure_of (Err error) = error
failure_of (Ok response) = net.Unsupported

-- what the client of a resolver is told
abbrev pub lookup_settings_of : StepResolver → LookupSettings
lookup_settings_of resolver = lookup_settings resolver.client resolver.settings.request

-- ---- resolvers

-- what the requests of a resolver with these options ask for
abbrev pub request_options : ResolverOpts → DnsRequestOptions
request_options options = record {
  use_edns = options.edns0;
  edns_payload_len = options.edns_payload_len;
  edns_set_dnssec_ok = false;
  recursion_desired = options.recursion_desired;
}

-- A resolver before its first lookup: it has the servers of a configuration, and an empty cache.
pub record IsFresh (config : ResolverConfig) (options : ResolverOpts) (timeout : ℕ) (resolver : StepResolver) : Type 0 where
  pub servers_are : resolver.servers
      ≡ servers_from (filter_map server_of config.name_servers) (is_round_robin options.server_ordering_strategy)
  pub settings_are : resolver.settings ≡ record { options = options; request = request_options options; timeout = timeout }
  pub cache_is : resolver.client.cache ≡ record { entries = []; capacity = options.cache_size; config = plain_config default_bounds }
  pub aliases_are : resolver.client.preserve_intermediates ≡ options.preserve_intermediates

-- ---- the exchange for the next question

-- An exchange begins: it waits for the reply to its first message, or ends at once, as where there is no server.
pub data OpensFrom (resolver : StepResolver) (start : Start) : LookupState → Type 0 where
  exchange_waits : (awaited : Awaited) → IsWaiting resolver.settings start [] awaited
      → OpensFrom resolver start (Waits (record { start = start; events = []; awaited = awaited }))
  exchange_is_over : (outcome : Outcome) (servers : Servers) → HasEnded resolver.settings start [] outcome servers
      → OpensFrom resolver start (Ended (Err (failure_of outcome)))
  no_memory_to_begin : OpensFrom resolver start ended_for_memory

-- how the exchange for a question begins, under an id and with the servers as they are
abbrev pub start_of : StepResolver → Query → ℕ → ℕ → Start
start_of resolver q id clock = record { question = q; id = id; moment = clock; servers = resolver.servers }

-- The exchange for a question begins under the first id that is left, which no other exchange has. Without an id it is F9.
pub data Opens (resolver : StepResolver) (course : Course) (q : Query) (clock : ℕ) : LookupState → Course → Type 0 where
  exchange_begins : (id : ℕ) (state : LookupState) (course' : Course) → DrawsId course (Some id) course'
      → OpensFrom resolver (start_of resolver q id clock) state → Opens resolver course q clock state course'
  no_id_is_left : (course' : Course) → DrawsId course None course'
      → Opens resolver course q clock (Ended (Err (net.Link fault.NoId))) course'
  no_memory_for_servers : Opens resolver course q clock ended_for_memory course

-- ---- steps

-- the servers and the settings of a resolver are as they were
pub record KeepsSettings (old new : StepResolver) : Type 0 where
  pub same_servers : new.servers ≡ old.servers
  pub same_settings : new.settings ≡ old.settings
  pub same_aliases : new.client.preserve_intermediates ≡ old.client.preserve_intermediates

-- A lookup goes on over the replies that are known: it ends, and the cache has what it stored; or it begins the exchange for a
-- question that nothing is known of, and the cache is as it was.
pub data Goes (old : StepResolver) (course : Course) (clock : ℕ) : LookupState → Course → StepResolver → Type 0 where
  lookup_ends : (reply : Reply) (course' : Course) (new : StepResolver)
      → Concludes (lookup_settings_of old) (course.begun / 1000) course.known old.client.cache course.question reply new.client.cache
      → course' ≡ course → KeepsSettings old new → Goes old course clock (Ended reply) course' new
  question_is_asked : (q : Query) (state : LookupState) (course' : Course) (new : StepResolver)
      → GoesOn (lookup_settings_of old) (course.begun / 1000) course.known old.client.cache course.question q
      → Opens new course q clock state course' → new.client.cache ≡ old.client.cache → KeepsSettings old new
      → Goes old course clock state course' new
  no_memory_for_question : (course' : Course) (new : StepResolver) → course' ≡ course → new ≡ old
      → Goes old course clock ended_for_memory course' new

-- one more reply is known
abbrev pub with_known : Query → KnownOutcome → Course → Course
with_known q outcome course = record course { known = course.known ++ record { question = q; outcome = outcome } ∷ [] }

-- The outcome of the exchange for a question is known, and the lookup goes on, or memory ran out.
pub data Follows (old : StepResolver) (course : Course) (q : Query) (outcome : Outcome) (clock : ℕ)
    : LookupState → Course → StepResolver → Type 0 where
  outcome_is_known : (known : KnownOutcome) (state : LookupState) (course' : Course) (new : StepResolver)
      → known_outcome outcome ≡ Some known → Goes old (with_known q known course) clock state course' new
      → Follows old course q outcome clock state course' new
  memory_ran_out : (course' : Course) (new : StepResolver) → course' ≡ course → new ≡ old
      → Follows old course q outcome clock ended_for_memory course' new

-- What comes of the wait of a lookup: its exchange still waits, or ends, and the lookup goes on with the servers that it leaves. There
-- may be no memory for it.
pub data Takes (old : StepResolver) (course : Course) (exchange : Exchange) (event : Event)
    : LookupState → Course → StepResolver → Type 0 where
  exchange_goes_on : (after : Exchange) (course' : Course) (new : StepResolver) → Steps old.settings exchange event (next.Waits after)
      → course' ≡ course → new ≡ old → Takes old course exchange event (Waits after) course' new
  exchange_ends : (outcome : Outcome) (servers : Servers) (state : LookupState) (course' : Course) (new : StepResolver)
      → Steps old.settings exchange event (next.Ends outcome servers)
      → Follows (record old { servers = servers }) course exchange.start.question outcome event.moment state course' new
      → Takes old course exchange event state course' new
  no_memory_for_step : (course' : Course) (new : StepResolver) → course' ≡ course → new ≡ old
      → Takes old course exchange event ended_for_memory course' new

-- what comes of the wait of a lookup that is open; one that has ended does not change
abbrev pub TakesIn : LookupState → StepResolver → OpenLookup → Event → OpenLookup → StepResolver → Type 0
TakesIn (Waits exchange) old lookup event lookup' new = Takes old lookup.course exchange event lookup'.state lookup'.course new
TakesIn (Ended reply) old lookup event lookup' new = (lookup' ≡ lookup) × (new ≡ old)

-- the same for a lookup
abbrev pub TakesEvent : StepResolver → OpenLookup → Event → OpenLookup → StepResolver → Type 0
TakesEvent old lookup event lookup' new = TakesIn lookup.state old lookup event lookup' new

-- A message is received. It is what comes of the wait of a lookup if the server sent it to which the message was sent that is
-- awaited; otherwise it changes nothing.
pub data Receives (old : StepResolver) (lookup : OpenLookup) (bytes : List ℕ) (from : SocketAddr) (clock : ℕ)
    : OpenLookup → StepResolver → Type 0 where
  message_is_taken : (awaited : Awaited) (lookup' : OpenLookup) (new : StepResolver) → awaited_in lookup.state ≡ Some awaited
      → awaited.outgoing.server ≡ from
      → TakesEvent old lookup (record { moment = clock; arrival = Message bytes }) lookup' new
      → Receives old lookup bytes from clock lookup' new
  message_is_dropped : (lookup' : OpenLookup) (new : StepResolver)
      → ((awaited : Awaited) → awaited_in lookup.state ≡ Some awaited → awaited.outgoing.server ≢ from) → lookup' ≡ lookup
      → new ≡ old → Receives old lookup bytes from clock lookup' new
