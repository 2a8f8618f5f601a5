use Rattle.std.proofs.Common.{rules}
use Rattle.dns_fields.proofs.LoopLaws.{protocol_empty, protocol_short, protocol_further}
use Rattle.dns_fields.proofs.service.wire.are_protocols.Goals as goal

pub returns-then-len-eq0 : goal.returns-then-len-eq0
returns-then-len-eq0 c = protocol_empty c.loop-left.left.now _ (search rules) (search rules) c.loop-left.invariant

pub returns-then-len-left : goal.returns-then-len-left
returns-then-len-left c = protocol_short c.loop-left.left.now _ (search rules) (search rules) c.loop-left.invariant

pub loop-left-preserved : goal.loop-left-preserved
loop-left-preserved c =
    rw (c.skip-left.ensures) (protocol_further c.from-len.result c.loop-left.left.now _ (search rules) (search rules) (search rules) (search rules) c.loop-left.invariant)
