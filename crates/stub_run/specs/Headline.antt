-- What a run promises of the records that its lookups return: each of them stood in the zone. It is stated by the world and the
-- events alone: nothing here speaks of a cache, of datagrams or of handles.
use Rattle.std.specs.Prelude.{◌≡◌, ◌<◌, ◌^◌, true, string_bytes, take, length, List, [], ◌∷◌, ℕ, Option, Some, None, Result, Ok, Err}
use Rattle.std.specs.declared.net.ip_addr.IpAddr.{IpAddr}
use Rattle.dns_names.specs.Parse.{name_of_text}
use Rattle.dns_text.specs.Address.{IsTextOf}
use Rattle.dns_zone.specs.Rows.{IsZone, ZoneContent}
use Rattle.stub_config.specs.declared.config.ResolverConfig.{ResolverConfig}
use Rattle.stub_config.specs.declared.options.ResolverOpts.{ResolverOpts}
use Rattle.stub_hosts.specs.Hosts.{HostsContent}
use Rattle.stub_cache.specs.Ttl.{TtlConfigContent, bounds_of_options, plain_config}
use Rattle.stub_client.specs.Laws.{RecordClaim}
use Rattle.stub_core.specs.Origins.{HasNoMinima, HostIsFrom, NameIsFrom}
use Rattle.stub_core.specs.Resolver.{known_type}
use Rattle.stub_core.specs.ResolverBuilder.{with_used_hosts}
use Rattle.stub_core.specs.declared.resolver.settings.Settings.{Settings}
use Rattle.stub_link.specs.History.{Occasion, Past, first_past, past_after_occasion}
use Rattle.stub_link.specs.LinkState.{Version}
use Rattle.stub_laws.specs.history.Answered.{greatest_ttl, is_plain}
use Rattle.stub_laws.specs.history.Stands.{HasChainFor, HasShortChains, IsFreshFor}
use Rattle.stub_run.specs.Run.{RunState}
use Rattle.stub_run.specs.World.{BeginsWith, IsFirst}
use Rattle.stub_run.specs.declared.event.Action.{Action}
use Rattle.stub_run.specs.declared.event.Action.TheVariants as actions
use Rattle.stub_run.specs.declared.event.Event.{Event}
use Rattle.stub_run.specs.declared.report.EventReply.{EventReply}
use Rattle.stub_run.specs.declared.report.EventReply.TheVariants as replies
use Rattle.stub_run.specs.declared.report.EventReport.{EventReport}
use Rattle.stub_run.specs.declared.report.Report.{Report}
use Rattle.stub_run.specs.declared.report.Stopped.{Stopped}
use Rattle.stub_run.specs.declared.report.Stopped.TheVariants as stops
use Rattle.stub_run.specs.declared.world.World.{World}

-- ---- worlds

-- what a world is made of: a zone, the maximum size of its server's datagrams, the ids to draw, and what a resolver is built from
pub record WorldContent : Type 0 where
  pub zone : ZoneContent
  pub limit : ℕ
  pub ids : List ℕ
  pub config : ResolverConfig
  pub options : ResolverOpts
  pub hosts : HostsContent

-- a world is made of a zone, ids and the parts of a resolver, whose payload size has 16 bits (RFC 6891 section 6.1.2)
pub record IsMadeOf (world : World) (content : WorldContent) : Type 0 where
  pub zone : IsZone content.zone
  pub payload : content.options.edns_payload_len < 2 ^ 16
  pub state : RunState
  pub first : IsFirst content.zone content.limit content.ids content.config content.options content.hosts state
  pub begins : BeginsWith world state

-- the settings of the resolver: its hosts are empty if the options say that they are never used
abbrev pub settings_of : WorldContent → Settings
settings_of content = with_used_hosts (record { config = content.config; options = content.options; hosts = content.hosts })

-- the bounds of the TTLs that the resolver keeps and returns
abbrev pub ttls_of : WorldContent → TtlConfigContent
ttls_of content = plain_config (bounds_of_options content.options)

-- the least TTL of positive answers is 0
abbrev pub HasNoLeastTtl : WorldContent → Type 0
HasNoLeastTtl content = HasNoMinima (ttls_of content)

-- ---- claims about what is returned

-- a claim about the records that may be returned for a question at a moment, by the versions of the zone's rows so far
abbrev pub HistoryClaim : Type 1
HistoryClaim = List Version → RecordClaim

-- bounded staleness, with the greatest TTL that is kept for the type
abbrev pub IsFreshBy : TtlConfigContent → HistoryClaim
IsFreshBy ttls history q now r = IsFreshFor history (greatest_ttl ttls q.query_type) now q.name r

-- the chain bound, with the greatest TTL that is kept for the type, if no chain of aliases passes seven links in any of the versions
abbrev pub HasChainBy : TtlConfigContent → HistoryClaim
HasChainBy ttls history q now r = HasShortChains history → HasChainFor history (greatest_ttl ttls q.query_type) now q.name r

-- A claim holds of the reply to an event: of each answer of the asked type, if this is plain, and of each address of a host. (Of the
-- other types the claims on whole sets say the same: their links are not aliases alone.)
-- Excepted are records of the hosts for the names and types at which they are asked, and literal addresses. It holds of no reply to
-- another kind of event.
abbrev pub HoldsOfEvent : RecordClaim → Settings → ℕ → Action → EventReply → Type 0
HoldsOfEvent Claim settings at (actions.Lookup name kind) (replies.Lookup found) =
    is_plain (known_type kind) ≡ true → NameIsFrom Claim settings at (Ok name) kind found
HoldsOfEvent Claim settings at (actions.LookupIp host) (replies.LookupIp found) =
    (address : Option IpAddr) × IsTextOf (string_bytes host) address
    × HostIsFrom Claim settings at address (name_of_text (string_bytes host)) found
HoldsOfEvent Claim settings at (actions.Clear name kind) (replies.Cleared done) = Unit {0}
HoldsOfEvent Claim settings at actions.ClearAll (replies.Cleared done) = Unit {0}
HoldsOfEvent Claim settings at (actions.Update update) (replies.Update reply) = Unit {0}
HoldsOfEvent Claim settings at action reply = ⊥

-- A claim holds of each reply, by the versions of the zone's rows up to the end of its event.
abbrev pub HoldsOfEvents : HistoryClaim → Settings → Past → List Event → List EventReport → List Occasion → Type 0
HoldsOfEvents Claim settings past [] [] [] = Unit {0}
HoldsOfEvents Claim settings past (e ∷ events) (report ∷ reports) (occasion ∷ occasions) =
    HoldsOfEvent (Claim (past_after_occasion past occasion).history) settings e.at e.action report.reply
    × HoldsOfEvents Claim settings (past_after_occasion past occasion) events reports occasions
HoldsOfEvents Claim settings past events reports occasions = ⊥

-- ---- runs

-- Bounded staleness of a run with these occasions: each record that is returned stood in the zone, was reached by aliases that
-- stood there, and its TTL counts from such a moment.
abbrev pub AreFresh : WorldContent → List Event → List EventReport → List Occasion → Type 0
AreFresh content events reports occasions =
    HoldsOfEvents (IsFreshBy (ttls_of content)) (settings_of content) (first_past content.zone) events reports occasions

-- The chain bound of a run with these occasions: if no chain of aliases passes seven links in any version of the zone up to the end
-- of an event, each record that the event returns and the aliases that lead to it stood at one moment, from which none of their TTLs
-- is exceeded.
abbrev pub HaveChainBounds : WorldContent → List Event → List EventReport → List Occasion → Type 0
HaveChainBounds content events reports occasions =
    HoldsOfEvents (HasChainBy (ttls_of content)) (settings_of content) (first_past content.zone) events reports occasions

-- ---- reports

-- the report of a run, also of one that ran out of memory
abbrev pub report_in : Result Report Stopped → Option Report
report_in (Ok report) = Some report
report_in (Err (stops.Memory report)) = Some report
report_in (Err stops.Moments) = None

-- the events that a report has reached
abbrev pub reported : List Event → Report → List Event
reported events report = take (length report.events.items) events
