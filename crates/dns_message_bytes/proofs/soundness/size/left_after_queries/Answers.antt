use Rattle.std.proofs.Common.{refl, arith}
use Rattle.dns_messages.specs.Cut.{query_item}
use Rattle.dns_message_bytes.proofs.SizeLaws.{items-further, query-len}
use Rattle.dns_message_bytes.proofs.soundness.size.left_after_queries.Goals as goal

pub returns-in_err-left-clause-none : goal.returns-in_err-left-clause-none
returns-in_err-left-clause-none c =
    let further = items-further query_item c.args.queries.now c.loop-query.query-index c.query-item.result _ c.query-item.is c.loop-query-test.true in
    λ _. omega (arith, further, query-len c.query-item.result, c.in_err-left.ensures.none refl, c.encoded_len.ensures.value, c.loop-query.invariant)

pub loop-query-preserved : goal.loop-query-preserved
loop-query-preserved c =
    let further = items-further query_item c.args.queries.now c.loop-query.query-index c.query-item.result _ c.query-item.is c.loop-query-test.true in
    omega (arith, further, query-len c.query-item.result, c.in_ok-left.ensures.some, c.encoded_len.ensures.value, c.loop-query.invariant)
