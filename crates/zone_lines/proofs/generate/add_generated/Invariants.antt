use Rattle.dns_zone_file.specs.internal.Generate.{generation_view}
use Rattle.zone_lines.proofs.GenerateLaws.{LeadsOn}
use Rattle.zone_lines.proofs.generate.add_generated.Given as goal

-- the lines so far and those of the numbers that are left are those of all numbers
abbrev pub invariant-loop-place : goal.invariant-loop-place
invariant-loop-place l = LeadsOn l.at (generation_view l.generation) l.fn.context l.place l.found.items l.context
