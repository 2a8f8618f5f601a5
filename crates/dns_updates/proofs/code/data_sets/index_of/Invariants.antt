use Rattle.std.proofs.Common.{◌≡◌, take}
use Rattle.dns_data.specs.declared.rdata.RData.{RData}
use Rattle.dns_updates.specs.Records.{is_among}
use Rattle.dns_updates.specs.internal.Required.{has_datum, lent}
use Rattle.dns_updates.proofs.code.data_sets.index_of.Given as goal

abbrev pub invariant-loop-rdata : goal.invariant-loop-rdata
invariant-loop-rdata l = (d : RData) → has_datum l.index.keys d ≡ is_among (lent (take l.rdata-index l.whole)) d
