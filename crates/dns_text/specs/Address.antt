-- Addresses in text (RFC 4291 section 2.2, RFC 5952 section 4).
use Rattle.std.specs.Prelude.{ℕ, List, Option, Some, None}
use Rattle.std.specs.Net.Addr.{ipv4_octets, ipv6_segments}
use Rattle.std.specs.Net.Grammar.{IsIpv4Text, IsIpv6Text, IsIpText}
use Rattle.std.specs.Net.Text.{ipv4_text, hex_groups_text}
use Rattle.std.specs.declared.net.ipv4_addr.Ipv4Addr.{Ipv4Addr}
use Rattle.std.specs.declared.net.ipv6_addr.Ipv6Addr.{Ipv6Addr}
use Rattle.std.specs.declared.net.ip_addr.IpAddr.{IpAddr}
use Rattle.std.specs.declared.net.ip_addr.IpAddr.TheVariants.{V4, V6}

-- the address that a text spells, or none if it spells none
abbrev pub IsTextOf : List ℕ → Option IpAddr → Type 0
IsTextOf text None = (a : IpAddr) → ¬ (IsIpText text a)
IsTextOf text (Some a) = IsIpText text a

-- the same for four decimal numbers alone
abbrev pub IsTextOfIpv4 : List ℕ → Option Ipv4Addr → Type 0
IsTextOfIpv4 text None = (a : Ipv4Addr) → ¬ (IsIpv4Text text a)
IsTextOfIpv4 text (Some a) = IsIpv4Text text a

-- and for eight hexadecimal groups alone
abbrev pub IsTextOfIpv6 : List ℕ → Option Ipv6Addr → Type 0
IsTextOfIpv6 text None = (a : Ipv6Addr) → ¬ (IsIpv6Text text a)
IsTextOfIpv6 text (Some a) = IsIpv6Text text a

-- The text of an address: four decimal numbers, or hexadecimal groups with `::` for the longest run of zeros (RFC 5952
-- section 4), also if the address is IPv4-mapped.
abbrev pub ip_text : IpAddr → List ℕ
ip_text (V4 a) = ipv4_text (ipv4_octets a)
ip_text (V6 a) = hex_groups_text (ipv6_segments a)
