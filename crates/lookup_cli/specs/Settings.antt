-- The configuration and the options of the resolver.
use Rattle.std.specs.Prelude.{true, false, if◌then◌else◌, unwrap_or, map, codes, List, [], ◌∷◌, ℕ, Option, Some, None}
use Rattle.std.specs.Net.Socket.{socket_ip, socket_port}
use Rattle.std.specs.declared.net.socket_addr.SocketAddr.{SocketAddr}
use Rattle.dns_messages.specs.Response.{is_empty}
use Rattle.stub_config.specs.config.Connection.{connection_of}
use Rattle.stub_config.specs.declared.config.ResolverConfig.{ResolverConfig}
use Rattle.stub_config.specs.declared.config.connection.ConnectionConfig.{ConnectionConfig}
use Rattle.stub_config.specs.declared.config.connection.ProtocolConfig.TheVariants.{Udp, Tcp}
use Rattle.stub_config.specs.declared.config.name_server.NameServerConfig.{NameServerConfig}
use Rattle.stub_config.specs.declared.options.ResolverOpts.{ResolverOpts}
use Rattle.stub_config.specs.declared.strategy.ServerOrderingStrategy.TheVariants.{RoundRobin}
use Rattle.lookup_cli.specs.declared.arguments.Arguments.{Arguments}

-- options, with what the arguments say in place of what they say, and without aliases in answers
abbrev pub options_by : Arguments → ResolverOpts → ResolverOpts
options_by arguments options = record options {
  ndots = unwrap_or arguments.ndots options.ndots;
  attempts = unwrap_or arguments.attempts options.attempts;
  ip_strategy = unwrap_or arguments.strategy options.ip_strategy;
  edns0 = arguments.edns;
  preserve_intermediates = false;
  server_ordering_strategy = if arguments.rotate then RoundRobin else options.server_ordering_strategy;
  cache_size = if arguments.cache then options.cache_size else 0;
}

-- a connection to another port
abbrev pub at_port : ℕ → ConnectionConfig → ConnectionConfig
at_port port connection = record connection { port = port }

-- the server at an address and port, which is asked over UDP and then over TCP, and whose negative responses are trusted
abbrev pub server_at : SocketAddr → NameServerConfig
server_at address = record {
  ip = socket_ip address;
  trust_negative_responses = true;
  connections = at_port (socket_port address) (connection_of Udp) ∷ at_port (socket_port address) (connection_of Tcp) ∷ [];
}

-- a configuration, with the servers of the arguments in place of its own if there are any
abbrev pub with_servers : Arguments → ResolverConfig → ResolverConfig
with_servers arguments config =
    if is_empty arguments.servers.items then config
    else record config { name_servers = map server_at arguments.servers.items }

-- a configuration, with the search list of the arguments in place of its own and of its domain if they have one
abbrev pub with_search : Arguments → ResolverConfig → ResolverConfig
with_search arguments config =
    if is_empty arguments.search.items then config
    else record config { domain = None; search = arguments.search.items }

-- a configuration with the servers and the search list of the arguments
abbrev pub config_by : Arguments → ResolverConfig → ResolverConfig
config_by arguments config = with_search arguments (with_servers arguments config)

-- the path of the configuration that is read if the arguments name none: that of the system, unless they have a server
abbrev pub conf_path : Arguments → Option (List ℕ)
conf_path arguments = if is_empty arguments.servers.items then Some (codes "/etc/resolv.conf") else None
