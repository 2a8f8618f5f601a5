use Rattle.std.proofs.Common.{◌≡◌, take}
use Rattle.dns_tsig.specs.hmac.Hmac.{masked}
use Rattle.dns_tsig.proofs.hmac.hmac.masked.Given as goal

abbrev pub invariant-loop-byte : goal.invariant-loop-byte
invariant-loop-byte l = l.bytes.items ≡ masked l.mask (take l.byte-index l.block)
