-- Names of addresses (RFC 1035 section 3.5, RFC 3596 section 2.5).
use Rattle.std.specs.Prelude.{ℕ, ◌+◌, ◌-◌, ◌*◌, ◌/◌, ◌%◌, ◌&&◌, nat_lt, nat_le, if◌then◌else◌, Bool, true, List, [], ◌∷◌, ◌++◌, length, take, drop, codes, replicate, slice_index, not, option_map, false, Option, Some, None}
use Rattle.std.specs.Net.Addr.{ipv4_octets, ipv6_segments}
use Rattle.std.specs.declared.net.ip_addr.IpAddr.{IpAddr}
use Rattle.std.specs.declared.net.ip_addr.IpAddr.TheVariants.{V4, V6}
use Rattle.dns_names.specs.Name.{DomainName}
use Rattle.dns_names.specs.Compare.{same_labels}
use Rattle.dns_wire.specs.codes.Decimal.{is_digit, decimal_up_to}
use Rattle.dns_names.specs.declared.reverse.AddrPrefix.{AddrPrefix}

-- an address with a prefix length
abbrev pub addr_prefix : IpAddr → ℕ → AddrPrefix
addr_prefix addr prefix_len = record { addr = addr; prefix_len = prefix_len }

-- the address of a prefix
abbrev pub addr_of : AddrPrefix → IpAddr
addr_of prefix = prefix.addr

-- the length of a prefix in bits
abbrev pub prefix_len_of : AddrPrefix → ℕ
prefix_len_of prefix = prefix.prefix_len

-- the zone of IPv4 addresses: below it each octet is a decimal label
abbrev pub in_addr : List (List ℕ)
in_addr = codes "in-addr" ∷ codes "arpa" ∷ []

-- the decimal label of an octet, without leading zeros (RFC 1035 section 3.5)
abbrev pub decimal_label : ℕ → List ℕ
decimal_label n =
    if nat_lt n 10 then (48 + n) ∷ []
    else if nat_lt n 100 then (48 + n / 10) ∷ (48 + n % 10) ∷ []
    else (48 + n / 100) ∷ (48 + n / 10 % 10) ∷ (48 + n % 10) ∷ []

-- the zone of IPv6 addresses: below it each four bits are a label of one hexadecimal digit
abbrev pub ip6 : List (List ℕ)
ip6 = codes "ip6" ∷ codes "arpa" ∷ []

-- the label of four bits, one hexadecimal digit in lower case (RFC 3596 section 2.5)
abbrev pub hex_label : ℕ → List ℕ
hex_label n = (if nat_lt n 10 then 48 + n else 87 + n) ∷ []

-- the labels of a segment's four digits, the last digit first
abbrev pub segment_labels : ℕ → List (List ℕ)
segment_labels s = hex_label (s % 16) ∷ hex_label (s / 16 % 16) ∷ hex_label (s / 256 % 16) ∷ hex_label (s / 4096) ∷ []

-- the labels of numbers, the last number first
abbrev pub in_reverse : (ℕ → List (List ℕ)) → List ℕ → List (List ℕ)
in_reverse labels [] = []
in_reverse labels (n ∷ ns) = in_reverse labels ns ++ labels n

-- the reverse name of an address
abbrev pub reverse_name : IpAddr → DomainName
reverse_name (V4 a) = record { is_fqdn = true; labels = in_reverse (λ n. decimal_label n ∷ []) (ipv4_octets a) ++ in_addr }
reverse_name (V6 a) = record { is_fqdn = true; labels = in_reverse segment_labels (ipv6_segments a) ++ ip6 }

-- ---- parsing

-- the value of a hexadecimal digit in either case
abbrev pub hex_value : ℕ → Option ℕ
hex_value c =
    if is_digit c then Some (c - 48)
    else if nat_le 97 c && nat_le c 102 then Some (c - 87)
    else if nat_le 65 c && nat_le c 70 then Some (c - 55)
    else None

-- a label of one hexadecimal digit
abbrev pub nibble : List ℕ → Option ℕ
nibble [] = None
nibble (c ∷ []) = hex_value c
nibble (c ∷ d ∷ cs) = None

-- a label as a number: a hexadecimal digit, or a decimal number up to 255
abbrev pub number : Bool → List ℕ → Option ℕ
number is_hex label = if is_hex then nibble label else decimal_up_to 255 label

-- numbers with one more at the end, if there are both
abbrev pub append_number : Option (List ℕ) → Option ℕ → Option (List ℕ)
append_number None n = None
append_number (Some ns) None = None
append_number (Some ns) (Some n) = Some (ns ++ n ∷ [])

-- the numbers of labels, the last label first
abbrev pub numbers : Bool → List (List ℕ) → Option (List ℕ)
numbers is_hex [] = Some []
numbers is_hex (label ∷ labels) = append_number (numbers is_hex labels) (number is_hex label)

-- the prefix of an IPv4 address whose first octets are given
abbrev pub v4_prefix : List ℕ → AddrPrefix
v4_prefix ns = record {
  addr = V4 (record { octets = slice_index ns 0 ∷ slice_index ns 1 ∷ slice_index ns 2 ∷ slice_index ns 3 ∷ [] });
  prefix_len = 8 * length ns;
}

-- the segment of four hexadecimal digits from a place on
abbrev pub segment_at : List ℕ → ℕ → ℕ
segment_at ns k = 4096 * slice_index ns k + 256 * slice_index ns (k + 1) + 16 * slice_index ns (k + 2) + slice_index ns (k + 3)

-- the prefix of an IPv6 address whose first hexadecimal digits are given
abbrev pub v6_prefix : List ℕ → AddrPrefix
v6_prefix ns = record {
  addr = V6 (record {
    segments = segment_at ns 0 ∷ segment_at ns 4 ∷ segment_at ns 8 ∷ segment_at ns 12
        ∷ segment_at ns 16 ∷ segment_at ns 20 ∷ segment_at ns 24 ∷ segment_at ns 28 ∷ [];
  });
  prefix_len = 4 * length ns;
}

-- whether there are one to `most` labels below a zone of two labels
abbrev pub is_below_zone : List (List ℕ) → ℕ → List (List ℕ) → Bool
is_below_zone zone most labels =
    nat_lt 2 (length labels) && nat_le (length labels) (most + 2) && same_labels zone (drop (length labels - 2) labels)

-- the labels below a zone of two labels
abbrev pub labels_below_zone : List (List ℕ) → List (List ℕ)
labels_below_zone labels = take (length labels - 2) labels

-- The prefix that a reverse name spells: one to four decimal labels below `in-addr.arpa.`, or one to 32 hexadecimal
-- digits below `ip6.arpa.`.
abbrev pub arpa_prefix : DomainName → Option AddrPrefix
arpa_prefix name =
    if not name.is_fqdn then None
    else if is_below_zone in_addr 4 name.labels then option_map v4_prefix (numbers false (labels_below_zone name.labels))
    else if is_below_zone ip6 32 name.labels then option_map v6_prefix (numbers true (labels_below_zone name.labels))
    else None

-- up to 32 numbers, padded with zeros
abbrev pub pad_with_zeros : List ℕ → List ℕ
pad_with_zeros ns = ns ++ replicate (32 - length ns) 0
