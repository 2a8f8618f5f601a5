-- Lookups over a resolver, and what they count.
use Rattle.std.specs.Prelude.{◌≡◌, ◌+◌, ◌-◌, ◌^◌, ℕ, Bool, Option, Result, Ok, Err, filter_map, max, min}
use Rattle.std.specs.declared.net.ip_addr.IpAddr.{IpAddr}
use Rattle.dns_names.specs.Name.{DomainName}
use Rattle.dns_names.specs.declared.error.ParseError.{ParseError}
use Rattle.stub_client.specs.Handle.{Behavior}
use Rattle.stub_client.specs.Looks.{Reply}
use Rattle.stub_core.specs.Resolver.{ResolvesHost, ResolvesName}
use Rattle.stub_core.specs.declared.resolver.Resolver.{Resolver}
use Rattle.dns_messages.specs.declared.response_code.ResponseCode.{ResponseCode}
use Rattle.stub_lookup.specs.declared.error.NetError.{NetError}
use Rattle.stub_lookup.specs.declared.error.NetError.TheVariants.{Unsupported}
use Rattle.stub_net.specs.Network.{NetworkCalls}
use Rattle.stub_net.specs.Pool.{Gives}
use Rattle.stub_net.specs.Try.{first_counts}
use Rattle.stub_net.specs.scrub.Scrub.{GivesScrubbed}
use Rattle.stub_net.specs.declared.scrub.Scrubber.{Scrubber}
use Rattle.stub_net.specs.declared.pool.NameServerPool.{NameServerPool}
use Rattle.stub_net.specs.declared.requester.NetCounts.{NetCounts}
use Rattle.stub_servers.specs.Server.{server_of}
use Rattle.stub_servers.specs.ServerList.{is_round_robin, servers_from}
use Rattle.stub_servers.specs.Servers.{Servers}
use Rattle.stub_config.specs.declared.config.ResolverConfig.{ResolverConfig}
use Rattle.stub_config.specs.declared.options.ResolverOpts.{ResolverOpts}
use Rattle.stub_core.specs.ResolverBuilder.{empty_cache, used_hosts}
use Rattle.stub_hosts.specs.Hosts.{HostsContent}
use Rattle.stub_net.specs.declared.signed.error.UpdateError.{UpdateError}
use Rattle.stub_net.specs.declared.signed.error.UpdateError.TheVariants.{Net}
use Rattle.lookup_cli.specs.declared.answers.item.Question.{Question}
use Rattle.lookup_cli.specs.declared.answers.item.Question.TheVariants.{Addresses, Records, Unknown}
use Rattle.lookup_cli.specs.declared.session.Session.{Session}

-- A pool before it is asked, with a time-out in milliseconds in place of that of the options; it asks over streams alone if it is to.
pub record IsPool {N I : Type 0} (network : N) (ids : I) (servers : Servers) (options : ResolverOpts) (timeout : ℕ) (alone : Bool)
    (pool : NameServerPool N I) : Type 0 where
  pub network_is : pool.requester.network ≡ network
  pub ids_are : pool.ids ≡ ids
  pub servers_are : pool.servers ≡ servers
  pub timeout_is : pool.requester.timeout ≡ timeout
  pub attempts_are : pool.attempts ≡ max options.attempts 1
  pub alone_is : pool.requester.streams_alone ≡ alone
  pub counts_are : pool.requester.counts ≡ first_counts

-- the servers of a configuration, in the order of the options
abbrev pub servers_by : ResolverConfig → ResolverOpts → Servers
servers_by config options =
    servers_from (filter_map server_of config.name_servers) (is_round_robin options.server_ordering_strategy)

-- A session before its first lookup: its cache is empty, it has the hosts unless the options say that they are never looked up, and its
-- pool has the servers of the configuration.
pub record IsNewSession {N I : Type 0} (network : N) (ids : I) (config : ResolverConfig) (options : ResolverOpts) (timeout : ℕ)
    (alone : Bool) (hosts : HostsContent) (session : Session N I) : Type 0 where
  pub config_is : session.resolver.settings.config ≡ config
  pub options_are : session.resolver.settings.options ≡ options
  pub hosts_are : session.resolver.settings.hosts ≡ used_hosts options.use_hosts_file hosts
  pub cache : session.resolver.client.cache ≡ empty_cache options
  pub aliases : session.resolver.client.preserve_intermediates ≡ options.preserve_intermediates
  pub pool : IsPool network ids (servers_by config options) options timeout alone session.resolver.client.handle.handle

-- what a pool over a network does with a request, as a handle of whose replies only what the question leads to remains
abbrev pub pool_gives : {N I : Type 0} → NetworkCalls N → (I → Option ℕ → I → Type 0) → Behavior (Scrubber (NameServerPool N I))
pool_gives calls draws old request now outcome new =
    GivesScrubbed (λ old request now outcome new. Gives calls draws old request.message outcome new) old.handle request now
    request.message.queries outcome new.handle

-- A lookup of what is asked about a name: its addresses, its records of a type, or nothing, for which the resolver is left as it is.
abbrev pub LooksUpItem : {H : Type 0} → Behavior H → ℕ → (Option IpAddr → Type 0) → Result DomainName ParseError → Question
    → Resolver H → Reply → Resolver H → Type 0
LooksUpItem gives now is_ip name Addresses old reply new = ResolvesHost gives now is_ip name old reply new
LooksUpItem gives now is_ip name (Records kind) old reply new = ResolvesName gives now name kind old reply new
LooksUpItem gives now is_ip name Unknown old reply new = (reply ≡ Err Unsupported) × (new ≡ old)

-- the number of requests, over both transports, as a counter of 64 bits has it
abbrev pub request_count : NetCounts → ℕ
request_count counts = min (counts.datagrams + counts.streams) (2 ^ 64 - 1)

-- the response code of an update without a signature, or the error of the network
abbrev pub update_result : Result ResponseCode NetError → Result ResponseCode UpdateError
update_result (Ok code) = Ok code
update_result (Err error) = Err (Net error)
