use Rattle.std.proofs.Common.{rules}
use Rattle.dns_fields.proofs.KeyLaws.{key_further, key_found}
use Rattle.dns_fields.proofs.service.key.key_among.Goals as goal

pub returns-then-eq : goal.returns-then-eq
returns-then-eq c = key_found c.args.keys.now c.loop-name.name-index _ c.args.text.now _ _ c.loop-name-test.true c.as_bytes.ensures.value (search rules) c.loop-name.invariant

pub loop-name-preserved : goal.loop-name-preserved
loop-name-preserved c = key_further c.args.keys.now c.loop-name.name-index _ c.args.text.now _ _ c.loop-name-test.true c.as_bytes.ensures.value (search rules) c.loop-name.invariant
