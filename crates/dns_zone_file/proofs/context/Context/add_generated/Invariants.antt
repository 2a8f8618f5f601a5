use Rattle.dns_zone_file.specs.internal.Generate.{generation_view}
use Rattle.dns_zone_file.proofs.GenerateLaws.{LeadsOn}
use Rattle.dns_zone_file.proofs.context.Context.add_generated.Given as goal

-- what the numbers that are left lead to, all numbers lead to
abbrev pub invariant-loop-place : goal.invariant-loop-place
invariant-loop-place l = LeadsOn (generation_view l.generation) l.fn.self l.place l.self
