use Rattle.std.proofs.Common.{sym, drop, ◌+◌}
use Rattle.dns_updates.specs.Records.{is_among}
use Rattle.dns_updates.specs.Code.{required_data}
use Rattle.dns_updates.proofs.Walks.{found, passed}
use Rattle.dns_updates.proofs.CodeLaws.{as_is, as_not}
use Rattle.dns_updates.proofs.code.required_sets.is_required_data.Goals as goal

pub returns-then-is_required_as : goal.returns-then-is_required_as
returns-then-is_required_as c =
    found (λ ps. is_among (required_data ps c.args.resource_record.now) c.args.rdata.now) c.args.prerequisites.now c.loop-prerequisite.prerequisite-index c.prerequisite-item.result _ _ c.loop-prerequisite-test.true c.prerequisite-item.is
    (as_is c.args.rdata.now c.args.resource_record.now c.prerequisite-item.result (drop (c.loop-prerequisite.prerequisite-index + 1) c.args.prerequisites.now) (sym c.if-is_required_as.ensures))
    c.loop-prerequisite.invariant

pub loop-prerequisite-preserved : goal.loop-prerequisite-preserved
loop-prerequisite-preserved c =
    passed (λ ps. is_among (required_data ps c.args.resource_record.now) c.args.rdata.now) c.args.prerequisites.now c.loop-prerequisite.prerequisite-index c.prerequisite-item.result _ c.loop-prerequisite-test.true c.prerequisite-item.is
    (as_not c.args.rdata.now c.args.resource_record.now c.prerequisite-item.result (drop (c.loop-prerequisite.prerequisite-index + 1) c.args.prerequisites.now) (sym c.if-is_required_as.ensures))
    c.loop-prerequisite.invariant
