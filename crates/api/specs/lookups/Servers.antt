-- The servers of a resolver, and what it is told of them.
use Rattle.std.specs.Prelude.{◌≡◌, ◌≢◌, ◌<◌, ◌*◌, ◌+◌, ◌%◌, true, List, [], ◌∷◌, ℕ, None, Some, length, slice_get, slice_range}
use Rattle.std.specs.Net.Socket.{socket_ip, socket_port}
use Rattle.std.specs.declared.net.socket_addr.SocketAddr.{SocketAddr}
use Rattle.api.specs.lookups.Endpoint.{IsEndpoint, endpoint_len}
use Rattle.api.specs.declared.lookups.refusal.LookupRefusal.{LookupRefusal}
use Rattle.api.specs.declared.lookups.refusal.LookupRefusal.TheVariants as refusal
use Rattle.stub_config.specs.Options.{default_options}
use Rattle.stub_config.specs.declared.config.ResolverConfig.{ResolverConfig}
use Rattle.stub_config.specs.declared.config.connection.ConnectionConfig.{ConnectionConfig}
use Rattle.stub_config.specs.declared.config.connection.ProtocolConfig.{ProtocolConfig}
use Rattle.stub_config.specs.declared.config.connection.ProtocolConfig.TheVariants.{Udp, Tcp}
use Rattle.stub_config.specs.declared.config.name_server.NameServerConfig.{NameServerConfig}
use Rattle.stub_config.specs.declared.options.ResolverOpts.{ResolverOpts}

-- a connection to a port
abbrev pub connection_to : ℕ → ProtocolConfig → ConnectionConfig
connection_to port protocol = record { port = port; protocol = protocol; bind_addr = None }

-- the server at an address and a port, which is asked over UDP and then over TCP
abbrev pub server_of : SocketAddr → NameServerConfig
server_of address = record {
  ip = socket_ip address;
  trust_negative_responses = true;
  connections = connection_to (socket_port address) Udp ∷ connection_to (socket_port address) Tcp ∷ [];
}

-- the place with a number has the server at the address and the port that so many bytes are
pub record IsServerAt (bytes : List ℕ) (place : ℕ) (servers : List NameServerConfig) : Type 0 where
  pub address : SocketAddr
  pub is_endpoint : IsEndpoint (slice_range bytes (place * endpoint_len) (place * endpoint_len + endpoint_len)) address
  pub server_is : slice_get servers place ≡ Some (server_of address)

-- a configuration has the servers that bytes are, one after another, and nothing else
pub record AreServers (bytes : List ℕ) (config : ResolverConfig) : Type 0 where
  pub count_is : length bytes ≡ length config.name_servers * endpoint_len
  pub servers_are : (place : ℕ) → place < length config.name_servers → IsServerAt bytes place config.name_servers
  pub no_domain : config.domain ≡ None
  pub no_search : config.search ≡ []

-- why bytes are no servers
abbrev pub AreNoServers : List ℕ → LookupRefusal → Type 0
AreNoServers bytes refusal.Endpoint = length bytes % endpoint_len ≢ 0
AreNoServers bytes refusal.Memory = Unit {0}
AreNoServers bytes other = ⊥

-- the options of a resolver that makes so many rounds through its servers, and caches so many responses
abbrev pub options_of : ℕ → ℕ → ResolverOpts
options_of attempts cache_size = record default_options {
  attempts = attempts;
  cache_size = cache_size;
}
