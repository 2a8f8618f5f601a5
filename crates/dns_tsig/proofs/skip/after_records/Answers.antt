use Rattle.dns_tsig.specs.Skip.{after_records}
use Rattle.dns_tsig.proofs.SkipLaws.{record_skipped, record_refused, records_skipped}
use Rattle.dns_tsig.proofs.skip.after_records.Goals as goal

pub loop-preserved : goal.loop-preserved
loop-preserved c =
    record_skipped c.loop.counter c.args.count c.loop.rest.now c.in-Some.more.now (after_records c.args.count c.args.bytes.now)
    c.loop-test.true c.in-Some.ensures c.loop.invariant

pub returns-in-None : goal.returns-in-None
returns-in-None c =
    record_refused c.loop.counter c.args.count c.loop.rest.now (after_records c.args.count c.args.bytes.now)
    c.loop-test.true c.in-None.ensures c.loop.invariant

pub returns : goal.returns
returns c =
    records_skipped c.loop.counter c.args.count c.loop.rest.now (after_records c.args.count c.args.bytes.now) c.loop-test.false c.loop.invariant
