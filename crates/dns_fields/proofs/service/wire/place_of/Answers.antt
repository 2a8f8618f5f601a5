use Rattle.std.proofs.Common.{rules}
use Rattle.dns_fields.proofs.LoopLaws.{place_further, place_within}
use Rattle.dns_fields.proofs.service.wire.place_of.Goals as goal

pub loop-left-preserved : goal.loop-left-preserved
loop-left-preserved c = record {
  completes = rw (c.after_front-left.ensures) (place_further c.args.key c.args.bytes.now c.loop-left.left.now (search rules) (search rules) c.loop-left.invariant.within c.loop-left.invariant.completes);
  within = rw (c.after_front-left.ensures) (place_within _ c.args.bytes.now c.loop-left.left.now c.loop-left.invariant.within);
}
