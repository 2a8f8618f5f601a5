use Rattle.std.proofs.Common.{take}
use Rattle.dns_records.specs.edits.Places.{HasPlaces}
use Rattle.dns_records.proofs.edits.data_places.enter_all.Given as goal

abbrev pub invariant-loop-place : goal.invariant-loop-place
invariant-loop-place l = HasPlaces l.entries (take l.place l.places)
