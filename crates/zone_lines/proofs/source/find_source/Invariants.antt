use Rattle.std.proofs.Common.{◌≡◌, ◌+◌, drop}
use Rattle.dns_zone_file.specs.internal.Parsing.{includes_view}
use Rattle.zone_lines.specs.Source.{source_from}
use Rattle.zone_lines.proofs.source.find_source.Given as goal

-- the texts that are left decide
abbrev pub invariant-loop-place : goal.invariant-loop-place
invariant-loop-place l =
    source_from (l.place + 1) (includes_view (drop l.place l.includes)) l.name ≡ source_from 1 (includes_view l.includes) l.name
