-- The configuration that a text of resolv.conf(5) has.
use Rattle.std.specs.Prelude.{◌≡◌, if◌then◌else◌, Bool, List, [], ◌∷◌, ℕ, None, map}
use Rattle.std.specs.declared.net.ip_addr.IpAddr.{IpAddr}
use Rattle.std.specs.declared.net.ip_addr.IpAddr.TheVariants.{V4}
use Rattle.stub_config.specs.Options.{default_options}
use Rattle.stub_config.specs.config.{both_connections, server_of, tcp_connection}
use Rattle.stub_config.specs.declared.config.ResolverConfig.{ResolverConfig}
use Rattle.stub_config.specs.declared.config.connection.ConnectionConfig.{ConnectionConfig}
use Rattle.stub_config.specs.declared.options.ResolverOpts.{ResolverOpts}
use Rattle.stub_config.specs.declared.strategy.ServerOrderingStrategy.{ServerOrderingStrategy}
use Rattle.stub_config.specs.declared.strategy.ServerOrderingStrategy.TheVariants.{RoundRobin, UserProvidedOrder}
use Rattle.stub_servers.specs.declared.resolv_conf.conf.SystemConf.{SystemConf}
use Rattle.stub_servers.specs.declared.resolv_conf.options.ConfOptions.{ConfOptions}
use Rattle.stub_servers.specs.declared.resolv_conf.settings.Settings.{Settings}
use Rattle.stub_servers.specs.resolv_conf.Line.{lines_of}
use Rattle.stub_servers.specs.resolv_conf.Settings.{no_settings, SetsAll}

-- the address of the local host, 127.0.0.1
abbrev pub localhost : IpAddr
localhost = V4 (record { octets = 127 ∷ 0 ∷ 0 ∷ 1 ∷ [] })

-- the name servers: that of the local host if the file has none
abbrev pub servers_or_localhost : List IpAddr → List IpAddr
servers_or_localhost [] = localhost ∷ []
servers_or_localhost (address ∷ addresses) = address ∷ addresses

-- the connections to each server: UDP before TCP, or TCP alone
abbrev pub connections_of : Bool → List ConnectionConfig
connections_of use_vc = if use_vc then tcp_connection else both_connections

-- the order of servers: that of the lines, or in turn
abbrev pub ordering_of : Bool → ServerOrderingStrategy
ordering_of rotate = if rotate then RoundRobin else UserProvidedOrder

-- the configuration of settings: `domain` is a search list with one name, and the field of this name is empty
abbrev pub config_of : Settings → ResolverConfig
config_of settings = record {
  domain = None;
  search = settings.search;
  name_servers = map (server_of (connections_of settings.options.use_vc)) (servers_or_localhost settings.servers);
}

-- the default options of a resolver, but for those that the file sets
abbrev pub resolver_options : ConfOptions → ResolverOpts
resolver_options options = record default_options {
  ndots = options.ndots;
  timeout = options.timeout;
  attempts = options.attempts;
  edns0 = options.edns0;
  server_ordering_strategy = ordering_of options.rotate;
}

-- the configuration of settings
abbrev pub conf_of : Settings → SystemConf
conf_of settings = record { config = config_of settings; options = resolver_options settings.options }

-- A text has a configuration: that of the settings after all its lines.
abbrev pub IsConfOf : List ℕ → SystemConf → Type 0
IsConfOf text conf = (settings : Settings) × SetsAll (lines_of text) no_settings settings × (conf ≡ conf_of settings)
