use Rattle.std.proofs.Common.{rules}
use Rattle.dns_fields.proofs.LoopLaws.{mandatory_further, mandatory_low, mandatory_missing}
use Rattle.dns_fields.proofs.service.wire.are_mandatory.Goals as goal

pub returns-then-key-least : goal.returns-then-key-least
returns-then-key-least c = mandatory_low c.args.all.now c.loop-left.least c.loop-left.left.now _ (search rules) (search rules) c.loop-left.invariant.completes

pub returns-then-not-has_key : goal.returns-then-not-has_key
returns-then-not-has_key c = mandatory_missing c.args.all.now c.loop-left.least c.loop-left.left.now _ (search rules) (search rules) c.loop-left.invariant.completes

pub loop-left-preserved : goal.loop-left-preserved
loop-left-preserved c = record {
  completes = rw (c.key_at-key.ensures.value, c.skip-left.ensures) (mandatory_further c.args.all.now c.loop-left.least c.loop-left.left.now _ (search rules) (search rules) (search rules) c.loop-left.invariant.completes);
  least = search rules;
}

pub returns : goal.returns
returns c = search rules
