use Rattle.std.proofs.Common.{◌≡◌, length, rules}
use Rattle.dns_tsig.proofs.HmacLaws.{one_more_byte}
use Rattle.dns_tsig.proofs.hmac.compare.is_same.Goals as goal

pub loop-i-preserved : goal.loop-i-preserved
loop-i-preserved c =
    let same : length c.args.code.now ≡ length c.args.other.now = search rules in
    one_more_byte c.loop-i.difference c.loop-i.i c.args.code.now c.args.other.now c.loop-i-test.true same c.loop-i.invariant
