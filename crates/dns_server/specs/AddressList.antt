-- Address prefixes, and the addresses that they cover (RFC 4632 section 3.1, RFC 4291 section 2.3).
use Rattle.std.specs.Prelude.{◌≡◌, ◌+◌, ◌-◌, ◌/◌, ◌^◌, ◌==◌, ◌&&◌, true, false, Bool, List, [], ◌∷◌, ℕ, Option, Some, None, Result, Ok, Err, position, take, drop}
use Rattle.std.specs.List.{list_any}
use Rattle.std.specs.Net.Addr.{ipv4_octets, ipv6_octets, ipv6_segments}
use Rattle.std.specs.declared.net.ipv4_addr.Ipv4Addr.{Ipv4Addr}
use Rattle.std.specs.declared.net.ipv6_addr.Ipv6Addr.{Ipv6Addr}
use Rattle.std.specs.declared.net.ip_addr.IpAddr.{IpAddr}
use Rattle.std.specs.declared.net.ip_addr.IpAddr.TheVariants.{V4, V6}
use Rattle.dns_wire.specs.codes.Decimal.{decimal_up_to}
use Rattle.dns_names.specs.Reverse.{addr_prefix, addr_of, prefix_len_of}
use Rattle.dns_names.specs.declared.reverse.AddrPrefix.{AddrPrefix}
use Rattle.dns_text.specs.Address.{IsTextOf}
use Rattle.dns_server.specs.declared.address_list.PrefixError.{PrefixError}
use Rattle.dns_server.specs.declared.address_list.PrefixError.TheVariants as faults

-- the octets of an address
abbrev pub ip_octets : IpAddr → List ℕ
ip_octets (V4 a) = ipv4_octets a
ip_octets (V6 a) = ipv6_octets a

-- whether two octets begin with the same bits: so many of them, or all eight
abbrev pub same_front : ℕ → ℕ → ℕ → Bool
same_front bits a b = a / 2 ^ (8 - bits) == b / 2 ^ (8 - bits)

-- whether as many octets begin with the same bits: eight of each octet, as long as bits are left
abbrev pub same_bits : ℕ → List ℕ → List ℕ → Bool
same_bits bits [] [] = true
same_bits bits (a ∷ one) (b ∷ other) = same_front bits a b && same_bits (bits - 8) one other
same_bits bits one other = false

-- whether a prefix covers the address with these octets: it has the length of the prefix's address, and begins with its bits
abbrev pub covers : List ℕ → AddrPrefix → Bool
covers octets prefix = same_bits (prefix_len_of prefix) (ip_octets (addr_of prefix)) octets

-- whether some prefix covers the address with these octets
abbrev pub is_covered : List AddrPrefix → List ℕ → Bool
is_covered prefixes octets = list_any (covers octets) prefixes

-- ---- text

-- how many bits an address has
abbrev pub width_of : IpAddr → ℕ
width_of (V4 a) = 32
width_of (V6 a) = 128

-- whether a character divides an address and a length
abbrev pub is_slash : ℕ → Bool
is_slash c = c == 47

-- the prefix with the length that a text has
abbrev pub prefix_with : IpAddr → Option ℕ → Result AddrPrefix PrefixError
prefix_with address (Some len) = Ok (addr_prefix address len)
prefix_with address None = Err faults.Length

-- the prefix of an address, if there is one, with the length that a text has, or else with all its bits
abbrev pub prefix_from : Option IpAddr → Option (List ℕ) → Result AddrPrefix PrefixError
prefix_from (Some address) (Some len) = prefix_with address (decimal_up_to (width_of address) len)
prefix_from (Some address) None = Ok (addr_prefix address (width_of address))
prefix_from None len = Err faults.Address

-- the text of an address, and that of a length, if there is one, are read as a prefix
abbrev pub ReadsParts : List ℕ → Option (List ℕ) → Result AddrPrefix PrefixError → Type 0
ReadsParts text len result = (address : Option IpAddr) × (IsTextOf text address × (result ≡ prefix_from address len))

-- a text with its first slash at a place, if it has one, is read as a prefix
abbrev pub ReadsAt : List ℕ → Option ℕ → Result AddrPrefix PrefixError → Type 0
ReadsAt text (Some place) result = ReadsParts (take place text) (Some (drop (place + 1) text)) result
ReadsAt text None result = ReadsParts text None result

-- A text is read as a prefix: an address, and then nothing, or a slash and a length in decimal (RFC 4632 section 3.1).
abbrev pub ReadsPrefix : List ℕ → Result AddrPrefix PrefixError → Type 0
ReadsPrefix text result = ReadsAt text (position is_slash text) result

-- ---- the loopback addresses

-- the list of 127.0.0.0/8 (RFC 1122 section 3.2.1.3) and ::1 (RFC 4291 section 2.5.3)
pub record IsLoopbackList (prefixes : List AddrPrefix) : Type 0 where
  pub v4 : Ipv4Addr
  pub v6 : Ipv6Addr
  pub v4_is : ipv4_octets v4 ≡ 127 ∷ 0 ∷ 0 ∷ 0 ∷ []
  pub v6_is : ipv6_segments v6 ≡ 0 ∷ 0 ∷ 0 ∷ 0 ∷ 0 ∷ 0 ∷ 0 ∷ 1 ∷ []
  pub prefixes_are : prefixes ≡ addr_prefix (V4 v4) 8 ∷ addr_prefix (V6 v6) 128 ∷ []
