use Rattle.std.proofs.Common.{◌≡◌, drop, map}
use Rattle.dns_zone_file.specs.internal.Parsing.{includes_view}
use Rattle.dns_zone_file.specs.includes.Missing.{first_missing}
use Rattle.dns_zone_file.proofs.includes.missing.first_missing.Given as goal

-- the rest decides
abbrev pub invariant-loop-name : goal.invariant-loop-name
invariant-loop-name l =
    first_missing (includes_view l.includes) (map (λ name. name.now) (drop l.name-index l.names))
    ≡ first_missing (includes_view l.includes) (map (λ name. name.now) l.names)
