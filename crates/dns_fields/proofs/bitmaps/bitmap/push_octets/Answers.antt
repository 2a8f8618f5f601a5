use Rattle.dns_fields.proofs.BitmapsLoopLaws.{octets_further}
use Rattle.dns_fields.proofs.bitmaps.bitmap.push_octets.Goals as goal

pub loop-index-preserved : goal.loop-index-preserved
loop-index-preserved c = λ types base are.
    rw (c.in_ok-push.ensures.items, c.octet_of.ensures types base are)
    (octets_further types base c.args.count c.loop-index.index c.loop-index.out.items _ c.loop-index-test.true (c.loop-index.invariant types base are))
