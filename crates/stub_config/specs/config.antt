-- Name servers, and the configuration of a resolver.
use Rattle.std.specs.Prelude.{List, [], ◌∷◌, true, None}
use Rattle.std.specs.declared.net.ip_addr.IpAddr.{IpAddr}
use Rattle.stub_config.specs.declared.config.ResolverConfig.{ResolverConfig}
use Rattle.stub_config.specs.declared.config.connection.ConnectionConfig.{ConnectionConfig}
use Rattle.stub_config.specs.declared.config.connection.ProtocolConfig.TheVariants.{Udp, Tcp}
use Rattle.stub_config.specs.declared.config.name_server.NameServerConfig.{NameServerConfig}
use Rattle.stub_config.specs.config.Connection.{connection_of}
pub mod Connection
pub mod PublicServers
pub mod ServerGroup

-- UDP alone
abbrev pub udp_connection : List ConnectionConfig
udp_connection = connection_of Udp ∷ []

-- TCP alone
abbrev pub tcp_connection : List ConnectionConfig
tcp_connection = connection_of Tcp ∷ []

-- UDP before TCP
abbrev pub both_connections : List ConnectionConfig
both_connections = connection_of Udp ∷ connection_of Tcp ∷ []

-- a server whose negative responses are trusted
abbrev pub server_of : List ConnectionConfig → IpAddr → NameServerConfig
server_of connections ip =
    record { ip = ip; trust_negative_responses = true; connections = connections }

-- a configuration without domain and search list
abbrev pub config_of_servers : List NameServerConfig → ResolverConfig
config_of_servers servers = record { domain = None; search = []; name_servers = servers }
