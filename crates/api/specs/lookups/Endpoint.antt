-- Addresses and ports as bytes.
use Rattle.std.specs.Prelude.{◌≡◌, ◌++◌, ◌/◌, ◌%◌, List, [], ◌∷◌, ℕ, drop, length, take}
use Rattle.std.specs.Int.{w16, from_be_bytes}
use Rattle.std.specs.Net.Addr.{IsCanonicalOf, ipv4_octets, ipv6_octets, ipv6_segments, segments_of}
use Rattle.std.specs.Net.Socket.{socket_flowinfo, socket_ip, socket_port, socket_scope_id}
use Rattle.std.specs.declared.net.ip_addr.IpAddr.{IpAddr}
use Rattle.std.specs.declared.net.ip_addr.IpAddr.TheVariants.{V4, V6}
use Rattle.std.specs.declared.net.ipv6_addr.Ipv6Addr.{Ipv6Addr}
use Rattle.std.specs.declared.net.socket_addr.SocketAddr.{SocketAddr}

-- how many bytes an address with its port has
abbrev pub endpoint_len : ℕ
endpoint_len = 18

-- Eighteen bytes are those of an address and a port: the address is the IPv4 address if it is mapped (RFC 4291 section 2.5.5.2),
-- and else that of IPv6, without flow information and scope.
pub record IsEndpoint (bytes : List ℕ) (address : SocketAddr) : Type 0 where
  pub length_is : length bytes ≡ endpoint_len
  pub octets : Ipv6Addr
  pub octets_are : ipv6_segments octets ≡ segments_of (take 16 bytes)
  pub ip_is : IsCanonicalOf octets (socket_ip address)
  pub port_is : socket_port address ≡ from_be_bytes w16 (drop 16 bytes)
  pub no_flow : socket_flowinfo address ≡ 0
  pub no_scope : socket_scope_id address ≡ 0

-- the octets of an address, where IPv4 addresses are mapped
abbrev pub mapped_octets : IpAddr → List ℕ
mapped_octets (V4 a) = 0 ∷ 0 ∷ 0 ∷ 0 ∷ 0 ∷ 0 ∷ 0 ∷ 0 ∷ 0 ∷ 0 ∷ 255 ∷ 255 ∷ ipv4_octets a
mapped_octets (V6 a) = ipv6_octets a

-- the bytes of an address and a port
abbrev pub endpoint_bytes : SocketAddr → List ℕ
endpoint_bytes address =
    mapped_octets (socket_ip address) ++ (socket_port address / 256) ∷ (socket_port address % 256) ∷ []
