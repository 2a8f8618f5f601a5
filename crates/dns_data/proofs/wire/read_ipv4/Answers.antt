use Rattle.std.proofs.Common.{ℕ, List, ◌≡◌, length, sym, ap, subst, arith}
use Rattle.std.specs.Int.{w32, to_be_bytes}
use Rattle.std.specs.Net.Addr.{IsIpv4OfBits, ipv4_octets}
use Rattle.dns_wire.specs.Decodable.{BytesAt}
use Rattle.dns_wire.proofs.BytesAtLaws.{advances-bytes_at}
use Rattle.dns_data.proofs.wire.read_ipv4.Goals as goal
use Rattle.dns_data.proofs.wire.read_ipv4.Goals.{After-from_bits}

octets_are : (c : After-from_bits) → ipv4_octets c.from_bits.result ≡ to_be_bytes w32 c.in_ok-bits.bits
unfolding IsIpv4OfBits
octets_are c = c.from_bits.ensures

pub returns-clause-read : goal.returns-clause-read
returns-clause-read c = λ data_end.
    let octets = octets_are c in
    let old = c.args.decoder.now in
    let new = c.read_u32.new.self in
    let there = advances-bytes_at old new (to_be_bytes w32 c.in_ok-bits.bits) (omega arith) c.in_ok-bits.ensures.ok c.in_ok-bits.ensures.moved in
    (subst (λ (xs : List ℕ). BytesAt old.bytes old.index xs new.index) (sym octets) there, ap (λ (xs : List ℕ). length xs) octets)
