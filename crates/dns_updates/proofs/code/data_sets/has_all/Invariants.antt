use Rattle.std.proofs.Common.{◌≡◌, drop}
use Rattle.std.specs.List.{list_all}
use Rattle.dns_updates.specs.internal.Required.{has_datum, lent}
use Rattle.dns_updates.proofs.code.data_sets.has_all.Given as goal

abbrev pub invariant-loop-rdata : goal.invariant-loop-rdata
invariant-loop-rdata l = list_all (has_datum l.index.keys) (lent (drop l.rdata-index l.part)) ≡ list_all (has_datum l.index.keys) (lent l.part)
