use Rattle.std.proofs.Common.{rules}
use Rattle.dns_fields.proofs.LoopLaws.{parameter_further, parameter_stops}
use Rattle.dns_fields.proofs.service.wire.are_parameters.Goals as goal

pub returns-then-not-is_front : goal.returns-then-not-is_front
returns-then-not-is_front c = parameter_stops c.args.bytes.now c.loop-left.least c.loop-left.left.now _ (search rules) (search rules) c.loop-left.invariant.completes

pub loop-left-preserved : goal.loop-left-preserved
loop-left-preserved c = record {
  completes = rw (c.key_at-least.ensures.value, c.after_front-left.ensures) (parameter_further c.args.bytes.now c.loop-left.least c.loop-left.left.now _ (search rules) (search rules) c.loop-left.invariant.completes);
  least = search rules;
}
