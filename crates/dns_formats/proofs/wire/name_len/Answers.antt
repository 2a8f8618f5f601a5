use Rattle.std.proofs.Common.{sym}
use Rattle.dns_formats.proofs.WireLaws.{label_by, too_far}
use Rattle.dns_formats.proofs.wire.name_len.Goals as goal

pub loop-place-preserved : goal.loop-place-preserved
loop-place-preserved c =
    label_by c.args.bytes.now c.loop-place.place c.loop-place-test.true _ c.loop-place.invariant c.from-len.result c.from-len.ensures c.if-len-eq0.false c.if-len-gt-MAX_LABEL_LENGTH.false

pub returns-else-place-lt-MAX_NAME_LENGTH-clause-value : goal.returns-else-place-lt-MAX_NAME_LENGTH-clause-value
returns-else-place-lt-MAX_NAME_LENGTH-clause-value c = sym (too_far c.args.bytes.now c.loop-place.place _ c.loop-place.invariant c.if-place-lt-MAX_NAME_LENGTH.false)
