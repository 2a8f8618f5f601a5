-- Connections to name servers.
use Rattle.std.specs.Prelude.{ℕ, None}
use Rattle.stub_config.specs.declared.config.connection.Protocol.{Protocol}
use Rattle.stub_config.specs.declared.config.connection.Protocol.TheVariants as protocols
use Rattle.stub_config.specs.declared.config.connection.ProtocolConfig.{ProtocolConfig}
use Rattle.stub_config.specs.declared.config.connection.ProtocolConfig.TheVariants.{Udp, Tcp}
use Rattle.stub_config.specs.declared.config.connection.ConnectionConfig.{ConnectionConfig}

-- the protocol of a connection's settings
abbrev pub protocol_of : ProtocolConfig → Protocol
protocol_of Udp = protocols.Udp
protocol_of Tcp = protocols.Tcp

-- the port that servers listen on (RFC 1035 section 4.2)
abbrev pub port_of : ProtocolConfig → ℕ
port_of Udp = 53
port_of Tcp = 53

-- a connection to the port of the protocol, from any local address
abbrev pub connection_of : ProtocolConfig → ConnectionConfig
connection_of protocol =
    record { port = port_of protocol; protocol = protocol; bind_addr = None }
