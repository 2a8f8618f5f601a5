use Rattle.std.proofs.Common.{◌≡◌, drop}
use Rattle.dns_zone_file.specs.includes.Path.{goes_up}
use Rattle.dns_zone_file.proofs.includes.path.goes_up.Given as goal

-- the rest decides
abbrev pub invariant-loop-place : goal.invariant-loop-place
invariant-loop-place l = goes_up (drop l.place l.path) ≡ goes_up l.path
