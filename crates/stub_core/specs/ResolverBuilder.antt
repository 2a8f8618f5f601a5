-- What builds a resolver: its settings, and which options are refused.
use Rattle.std.specs.Prelude.{◌≡◌, ◌||◌, not, if◌then◌else◌, Bool, [], is_some, Result, Ok, Err}
use Rattle.dns_messages.specs.Response.{is_empty}
use Rattle.stub_config.specs.Options.{default_options}
use Rattle.stub_config.specs.declared.config.ResolverConfig.{ResolverConfig}
use Rattle.stub_config.specs.declared.options.ResolverOpts.{ResolverOpts}
use Rattle.stub_config.specs.declared.strategy.ResolveHosts.{ResolveHosts}
use Rattle.stub_config.specs.declared.strategy.ResolveHosts.TheVariants.{Never}
use Rattle.stub_lookup.specs.declared.error.NetError.{NetError}
use Rattle.stub_lookup.specs.declared.error.NetError.TheVariants.{Unsupported}
use Rattle.stub_cache.specs.Cache.{CacheContent}
use Rattle.stub_hosts.specs.Hosts.{HostsContent}
use Rattle.stub_cache.specs.Ttl.{are_reversed, bounds_of_options, plain_config}
use Rattle.stub_cache.specs.Ttl.{TtlConfigContent}
use Rattle.stub_core.specs.declared.resolver.Resolver.{Resolver}
use Rattle.stub_core.specs.declared.resolver.builder.ResolverBuilder.{ResolverBuilder}
use Rattle.stub_core.specs.declared.resolver.settings.Settings.{Settings}

-- hosts without names
abbrev pub no_hosts : HostsContent
no_hosts = record { a = []; aaaa = [] }

-- the settings that a builder begins with
abbrev pub default_settings : ResolverConfig → Settings
default_settings config = record { config = config; options = default_options; hosts = no_hosts }

-- whether an option is set that no resolver supports: networks whose addresses are denied, random case, trust anchors
abbrev pub sets_unsupported : ResolverOpts → Bool
sets_unsupported options =
    not (is_empty options.deny_answers) || options.case_randomization || is_some options.trust_anchor

-- whether no resolver is built: with such an option, and with a minimum TTL above its maximum
abbrev pub is_unsupported : ResolverOpts → Bool
is_unsupported options = sets_unsupported options || are_reversed (bounds_of_options options)

-- the bounds of TTLs, if a resolver is built
abbrev pub supported_config : ResolverOpts → Result TtlConfigContent NetError
supported_config options = if is_unsupported options then Err Unsupported else Ok (plain_config (bounds_of_options options))

-- the hosts, unless they are never looked up
abbrev pub used_hosts : ResolveHosts → HostsContent → HostsContent
used_hosts Never hosts = no_hosts
used_hosts other hosts = hosts

-- the settings of the resolver that is built
abbrev pub with_used_hosts : Settings → Settings
with_used_hosts settings = record settings { hosts = used_hosts settings.options.use_hosts_file settings.hosts }

-- an empty cache, with the capacity and the bounds of TTLs of the options
abbrev pub empty_cache : ResolverOpts → CacheContent
empty_cache options = record {
  entries = [];
  capacity = options.cache_size;
  config = plain_config (bounds_of_options options);
}

-- a resolver that a builder with supported options builds
pub record Builds {H : Type 0} (builder : ResolverBuilder H) (resolver : Resolver H) : Type 0 where
  pub settings : resolver.settings ≡ with_used_hosts builder.settings
  pub handle : resolver.client.handle ≡ builder.handle
  pub cache : resolver.client.cache ≡ empty_cache builder.settings.options
  pub aliases : resolver.client.preserve_intermediates ≡ builder.settings.options.preserve_intermediates

-- a builder with other options
abbrev pub with_options : {H : Type 0} → ResolverBuilder H → ResolverOpts → ResolverBuilder H
with_options builder options = record builder { settings = record builder.settings { options = options } }
