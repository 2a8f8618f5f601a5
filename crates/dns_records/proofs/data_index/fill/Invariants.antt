use Rattle.std.proofs.Common.{take}
use Rattle.dns_records.specs.DataIndex.{HasPositionsOf}
use Rattle.dns_records.proofs.data_index.fill.Given as goal

abbrev pub invariant-loop-place : goal.invariant-loop-place
invariant-loop-place l = HasPositionsOf l.positions (take l.place l.records)
