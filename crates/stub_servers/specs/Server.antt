-- Servers, as a configuration has them.
use Rattle.std.specs.Prelude.{Bool, true, false, ℕ, Option, Some, None, find, option_map}
use Rattle.std.specs.declared.net.ip_addr.IpAddr.{IpAddr}
use Rattle.std.specs.declared.net.ip_addr.IpAddr.TheVariants as ip
use Rattle.std.specs.declared.net.socket_addr.SocketAddr.{SocketAddr}
use Rattle.std.specs.declared.net.socket_addr.SocketAddr.TheVariants as socket
use Rattle.stub_config.specs.declared.config.connection.ConnectionConfig.{ConnectionConfig}
use Rattle.stub_config.specs.declared.config.connection.Protocol.{Protocol}
use Rattle.stub_config.specs.declared.config.connection.Protocol.TheVariants.{Tcp, Udp}
use Rattle.stub_config.specs.declared.config.name_server.NameServerConfig.{NameServerConfig}
use Rattle.stub_config.specs.config.Connection.{protocol_of}
use Rattle.stub_servers.specs.declared.server.Server.{Server}

-- the address and port, without flow information and scope
abbrev pub socket_addr : IpAddr → ℕ → SocketAddr
socket_addr (ip.V4 address) port = socket.V4 (record { ip = address; port = port })
socket_addr (ip.V6 address) port = socket.V6 (record { ip = address; port = port; flowinfo = 0; scope_id = 0 })

-- whether protocols are the same
abbrev pub same_protocol : Protocol → Protocol → Bool
same_protocol Udp Udp = true
same_protocol Tcp Tcp = true
same_protocol Udp Tcp = false
same_protocol Tcp Udp = false

-- whether a connection is of a protocol
abbrev pub is_over : Protocol → ConnectionConfig → Bool
is_over protocol connection = same_protocol (protocol_of connection.protocol) protocol

-- the address and port of the first connection of a protocol
abbrev pub address_over : Protocol → NameServerConfig → Option SocketAddr
address_over protocol config = option_map (λ c. socket_addr config.ip c.port) (find (is_over protocol) config.connections)

-- a server with these addresses, if it has any
abbrev pub server_at : Option SocketAddr → Option SocketAddr → Bool → Option Server
server_at None None trusted = None
server_at udp tcp trusted = Some (record { udp = udp; tcp = tcp; trust_negative_responses = trusted })

-- the server of a configuration, at the first address of each protocol (RFC 1035 section 4.2)
abbrev pub server_of : NameServerConfig → Option Server
server_of config = server_at (address_over Udp config) (address_over Tcp config) config.trust_negative_responses

-- a server without an address
abbrev pub no_server : Server
no_server = record { udp = None; tcp = None; trust_negative_responses = true }
