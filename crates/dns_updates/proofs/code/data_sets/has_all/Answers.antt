use Rattle.std.proofs.Common.{sym}
use Rattle.std.specs.Borrow.{Bor}
use Rattle.dns_data.specs.declared.rdata.RData.{RData}
use Rattle.dns_updates.specs.internal.Required.{has_datum}
use Rattle.dns_updates.proofs.DataSetLaws.{all_found, all_passed}
use Rattle.dns_updates.proofs.code.data_sets.has_all.Goals as goal

pub returns-then-not-has_datum : goal.returns-then-not-has_datum
returns-then-not-has_datum c =
    all_found (has_datum c.args.index.now.keys) (λ (d : Bor RData). d.now) c.args.part.now c.loop-rdata.rdata-index c.rdata-item.result _ c.loop-rdata-test.true c.rdata-item.is (sym c.if-not-has_datum.ensures) c.loop-rdata.invariant

pub loop-rdata-preserved : goal.loop-rdata-preserved
loop-rdata-preserved c =
    all_passed (has_datum c.args.index.now.keys) (λ (d : Bor RData). d.now) c.args.part.now c.loop-rdata.rdata-index c.rdata-item.result _ c.loop-rdata-test.true c.rdata-item.is (sym c.if-not-has_datum.ensures) c.loop-rdata.invariant
