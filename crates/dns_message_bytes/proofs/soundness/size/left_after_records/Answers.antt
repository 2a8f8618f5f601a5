use Rattle.std.proofs.Common.{refl, arith}
use Rattle.dns_messages.specs.Cut.{record_item}
use Rattle.dns_message_bytes.proofs.SizeLaws.{items-further}
use Rattle.dns_message_bytes.proofs.soundness.size.left_after_records.Goals as goal

pub returns-in_err-left-clause-none : goal.returns-in_err-left-clause-none
returns-in_err-left-clause-none c =
    let further = items-further record_item c.args.records.now c.loop-resource_record.resource_record-index c.resource_record-item.result _
    c.resource_record-item.is c.loop-resource_record-test.true in
    λ _. omega (arith, further, c.in_err-left.ensures.none refl, c.loop-resource_record.invariant)

pub loop-resource_record-preserved : goal.loop-resource_record-preserved
loop-resource_record-preserved c =
    let further = items-further record_item c.args.records.now c.loop-resource_record.resource_record-index c.resource_record-item.result _
    c.resource_record-item.is c.loop-resource_record-test.true in
    omega (arith, further, c.in_ok-left.ensures.some, c.loop-resource_record.invariant)
