use Rattle.std.proofs.Common.{◌<◌, ◌≤◌, arith, rules}
use Rattle.dns_data.proofs.DecodingLaws.{within_number}
use Rattle.dns_data.proofs.wire.EdnsOptionItem.read_item.Goals as goal

pub read_octets-requires : goal.read_octets-requires
read_octets-requires c =
    let within = within_number c.read_u16.new.self c.read_u16-2.new.self c.in_ok-len.len c.in_ok-len.ensures.ok c.in_ok-len.ensures.moved in
    let small : c.in_ok-len.len < 65536 = search rules in
    let most : c.from.result ≤ 65535 = omega (arith, c.from.ensures, small) in
    (omega arith, (most, within))
