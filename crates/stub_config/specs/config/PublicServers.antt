-- The addresses of public name servers.
use Rattle.std.specs.Prelude.{List, ℕ}
use Rattle.std.specs.Net.Addr.{ipv4_octets, ipv6_segments}
use Rattle.std.specs.declared.net.ip_addr.IpAddr.{IpAddr}
use Rattle.std.specs.declared.net.ip_addr.IpAddr.TheVariants.{V4, V6}

-- the four octets of an IPv4 address, and the eight segments of an IPv6 address
abbrev pub address_numbers : IpAddr → List ℕ
address_numbers (V4 a) = ipv4_octets a
address_numbers (V6 a) = ipv6_segments a
