-- What decides on the reply to a request, beside its bytes.
use Rattle.std.specs.Prelude.{◌≡◌, Bool, true, false, List, ℕ}
use Rattle.std.specs.Net.Addr.{IsIpv4Mapped, ipv4_octets, ipv6_octets, ipv6_segments, low_octets}
use Rattle.std.specs.declared.net.ip_addr.IpAddr.{IpAddr}
use Rattle.std.specs.declared.net.ip_addr.IpAddr.TheVariants.{V4, V6}
use Rattle.dns_faults.specs.declared.rules.fault.Transport.{Transport}
use Rattle.dns_faults.specs.declared.rules.fault.Transport.TheVariants as transports
use Rattle.dns_names.specs.declared.reverse.AddrPrefix.{AddrPrefix}
use Rattle.dns_server.specs.AddressList.{is_covered}
use Rattle.dns_server.specs.declared.updates.Updates.{Updates}
use Rattle.dns_server.specs.declared.updates.Updates.TheVariants as may
use Rattle.dns_zone.specs.declared.transport.Transport as reply
use Rattle.dns_zone.specs.declared.transport.Transport.TheVariants as replies

-- a transport, with the maximum size of datagrams
abbrev pub reply_transport : Transport → ℕ → reply.Transport
reply_transport transports.Datagram limit = replies.Datagram limit
reply_transport transports.Stream limit = replies.Stream

-- whether the requestors of an address may update
abbrev pub updates_of : Bool → Updates
updates_of true = may.Allowed
updates_of false = may.Refused

-- Whether a list covers an address. An IPv4-mapped IPv6 address counts as its IPv4 address (RFC 4291 section 2.5.5.2).
abbrev pub IsCoverageOf : List AddrPrefix → IpAddr → Bool → Type 0
IsCoverageOf list (V4 a) covered = covered ≡ is_covered list (ipv4_octets a)
IsCoverageOf list (V6 a) covered =
    (IsIpv4Mapped (ipv6_segments a) → covered ≡ is_covered list (low_octets a))
    × (¬ (IsIpv4Mapped (ipv6_segments a)) → covered ≡ is_covered list (ipv6_octets a))
