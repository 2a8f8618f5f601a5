use Rattle.std.proofs.Common.{rules}
use Rattle.dns_fields.proofs.LoopLaws.{key_found, key_further}
use Rattle.dns_fields.proofs.service.wire.has_key.Goals as goal

pub returns-then-key_at-key : goal.returns-then-key_at-key
returns-then-key_at-key c = key_found c.args.key c.loop-left.left.now _ (search rules) (search rules) c.loop-left.invariant

pub loop-left-preserved : goal.loop-left-preserved
loop-left-preserved c = rw (c.after_front-left.ensures) (key_further c.args.key c.loop-left.left.now _ (search rules) (search rules) c.loop-left.invariant)
