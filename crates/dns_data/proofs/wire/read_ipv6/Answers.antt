use Rattle.std.proofs.Common.{◌≡◌, ℕ, List, length, sym, ap, subst, ◌∙◌, arith}
use Rattle.std.specs.Net.Addr.{ipv6_octets}
use Rattle.dns_wire.specs.Decodable.{BytesAt}
use Rattle.dns_wire.specs.Decoder.{Advances}
use Rattle.dns_wire.proofs.BytesAtLaws.{advances-bytes_at}
use Rattle.dns_data.proofs.wire.read_ipv6.Goals as goal

pub returns-clause-read : goal.returns-clause-read
returns-clause-read c = λ data_end.
    let old = c.args.decoder.now in
    let new = c.read_slice.new.self in
    let bytes : List ℕ = c.in_ok-read_slice.field-0.now in
    let e = c.in_ok-read_slice.ensures in
    let octets : ipv6_octets c.ipv6_from_octets.result ≡ bytes = c.ipv6_from_octets.ensures.octets ∙ c.copy_from_slice.ensures.after in
    let len : length bytes ≡ 16 = e.len in
    let there = advances-bytes_at old new bytes (omega (arith, len)) e.ok (subst (λ (n : ℕ). Advances old new n) (sym len) e.moved) in
    (subst (λ (xs : List ℕ). BytesAt old.bytes old.index xs new.index) (sym octets) there, ap (λ (xs : List ℕ). length xs) octets ∙ len)
