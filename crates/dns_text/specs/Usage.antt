-- Special-use names (RFC 6761).
use Rattle.std.specs.Prelude.{◌||◌, Bool, true, List, ℕ, [], ◌∷◌, codes}
use Rattle.std.specs.declared.net.ip_addr.IpAddr.TheVariants.{V6}
use Rattle.dns_names.specs.Name.{DomainName}
use Rattle.dns_names.specs.Compare.{at_or_below}
use Rattle.dns_names.specs.Reverse.{reverse_name}
use Rattle.dns_text.specs.declared.usage.ZoneUsage.{ZoneUsage}
use Rattle.dns_text.specs.declared.usage.ResolverUsage.{ResolverUsage}
use Rattle.dns_text.specs.declared.usage.ResolverUsage.TheVariants.{Normal, Loopback, LinkLocal, NxDomain}

-- the name of a zone
abbrev pub zone_name : ZoneUsage → DomainName
zone_name usage = usage.name

-- how a resolver treats the names of a zone
abbrev pub resolver_usage : ZoneUsage → ResolverUsage
resolver_usage usage = usage.resolver

-- the zone with these labels, treated in this way
abbrev pub zone_at : List (List ℕ) → ResolverUsage → ZoneUsage
zone_at labels resolver = record { name = record { is_fqdn = true; labels = labels }; resolver = resolver }

-- `localhost.` (RFC 6761 section 6.3)
abbrev pub localhost_zone : ZoneUsage
localhost_zone = zone_at (codes "localhost" ∷ []) Loopback

-- `127.in-addr.arpa.`, the reverse names of 127.0.0.0/8 (RFC 6303 section 4.2)
abbrev pub in_addr_arpa_127_zone : ZoneUsage
in_addr_arpa_127_zone = zone_at (codes "127" ∷ codes "in-addr" ∷ codes "arpa" ∷ []) Loopback

-- the reverse name of `::1` (RFC 6303 section 4.3)
abbrev pub ip6_arpa_1_zone : ZoneUsage
ip6_arpa_1_zone = record {
  name = reverse_name (V6 (record { segments = 0 ∷ 0 ∷ 0 ∷ 0 ∷ 0 ∷ 0 ∷ 0 ∷ 1 ∷ [] }));
  resolver = Loopback;
}

-- `local.`, the names of multicast DNS (RFC 6762 section 3)
abbrev pub local_zone : ZoneUsage
local_zone = zone_at (codes "local" ∷ []) LinkLocal

-- `invalid.` (RFC 6761 section 6.4)
abbrev pub invalid_zone : ZoneUsage
invalid_zone = zone_at (codes "invalid" ∷ []) NxDomain

-- `onion.` (RFC 7686 section 2)
abbrev pub onion_zone : ZoneUsage
onion_zone = zone_at (codes "onion" ∷ []) NxDomain

-- the root, whose names have no special use
abbrev pub root_zone : ZoneUsage
root_zone = zone_at [] Normal

-- ---- names of special use

-- whether a name is at or below a zone
abbrev pub is_within : ZoneUsage → DomainName → Bool
is_within usage name = at_or_below (zone_name usage).labels name.labels

-- names of the local host (RFC 6761 section 6.3), and reverse names of its addresses (RFC 6303 sections 4.2 and 4.3)
abbrev pub is_loopback : DomainName → Bool
is_loopback name =
    is_within localhost_zone name || is_within in_addr_arpa_127_zone name || is_within ip6_arpa_1_zone name

-- names that do not exist in the DNS (RFC 6761 section 6.4, RFC 7686 section 2)
abbrev pub is_nonexistent : DomainName → Bool
is_nonexistent name = is_within invalid_zone name || is_within onion_zone name
