-- The text of an address spells that address alone.
use Rattle.std.proofs.Common.{◌≡◌, Option, Some, None, ap}
use Rattle.std.specs.Net.Addr.{IsIpv4Addr, IsIpv6Addr, MatchIp}
use Rattle.std.specs.Net.Grammar.{IsIpText}
use Rattle.std.specs.declared.net.ip_addr.IpAddr.{IpAddr}
use Rattle.std.specs.declared.net.ip_addr.IpAddr.TheVariants.{V4, V6}
use Rattle.std.proofs.NetLemmas.Texts.{IsDotted-ipv4_text, IsColonHex-hex_groups_text}
use Rattle.std.proofs.NetLemmas.Theorems.{IsIpText_unique}
use Rattle.dns_text.specs.Address.{IsTextOf, ip_text}

pub text_spells : (a : IpAddr) → MatchIp a IsIpv4Addr IsIpv6Addr → IsIpText (ip_text a) a
text_spells (V4 a) are = IsDotted-ipv4_text _ are.0 are.1
text_spells (V6 a) are = IsColonHex-hex_groups_text _ are.0 are.1

pub text_parses : (a : IpAddr) (found : Option IpAddr) → MatchIp a IsIpv4Addr IsIpv6Addr → IsTextOf (ip_text a) found → found ≡ Some a
text_parses a None are spells = absurd (spells a (text_spells a are))
text_parses a (Some b) are spells = ap (λ (x : IpAddr). Some x) (IsIpText_unique (ip_text a) b a spells (text_spells a are))
