use Rattle.std.proofs.Common.{◌≡◌, ℕ, ◌<◌, length, get_or, ap, ◌∙◌, rules}
use Rattle.std.specs.Net.Addr.{octets_of}
use Rattle.dns_data.proofs.WireLaws.{octets_of-segments_of}
use Rattle.dns_data.proofs.wire.ipv6_from_octets.Goals as goal

pub returns-clause-octets : goal.returns-clause-octets
returns-clause-octets c =
    let len : length c.args.octets ≡ 16 = search rules in
    let small : (k : ℕ) → get_or c.args.octets k 0 < 256 = search rules in
    ap octets_of c.from_octets.ensures ∙ octets_of-segments_of 8 c.args.octets len small
