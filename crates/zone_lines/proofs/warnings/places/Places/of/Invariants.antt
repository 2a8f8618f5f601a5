use Rattle.std.proofs.Common.{take}
use Rattle.zone_lines.proofs.PlacesLaws.{Has}
use Rattle.zone_lines.proofs.warnings.places.Places.of.Given as goal

-- the places of the entries so far
abbrev pub invariant-loop-place : goal.invariant-loop-place
invariant-loop-place l = Has l.first l.property (take l.place l.entries)
