-- The servers of a group.
use Rattle.std.specs.Prelude.{◌≡◌, ◌+◌, List, [], ◌∷◌, Option, Some, None, Result, Ok, Err, drop, length}
use Rattle.std.specs.declared.alloc.AllocError.{AllocError}
use Rattle.stub_config.specs.config.{both_connections, tcp_connection, udp_connection}
use Rattle.stub_config.specs.declared.config.connection.ConnectionConfig.{ConnectionConfig}
use Rattle.stub_config.specs.declared.config.name_server.NameServerConfig.{NameServerConfig}
use Rattle.stub_config.specs.declared.config.server_group.Protocols.{Protocols}
use Rattle.stub_config.specs.declared.config.server_group.Protocols.TheVariants.{Udp, Tcp, UdpAndTcp}

-- the connections to each server of a group
abbrev pub connections_of : Protocols → List ConnectionConfig
connections_of Udp = udp_connection
connections_of Tcp = tcp_connection
connections_of UdpAndTcp = both_connections

-- An item is the first server that is left, or want of memory in its place; the others are left.
abbrev pub GivesServer : List NameServerConfig → Option (Result NameServerConfig AllocError) → List NameServerConfig → Type 0
GivesServer left None rest = (left ≡ []) × (rest ≡ [])
GivesServer left (Some (Ok server)) rest = left ≡ server ∷ rest
GivesServer left (Some (Err error)) rest = (length left ≡ 1 + length rest) × (rest ≡ drop 1 left)
