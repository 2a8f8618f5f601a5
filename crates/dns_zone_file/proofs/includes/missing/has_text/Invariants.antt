use Rattle.std.proofs.Common.{◌≡◌, drop}
use Rattle.dns_zone_file.specs.Parsing.{text_of}
use Rattle.dns_zone_file.specs.internal.Parsing.{includes_view}
use Rattle.dns_zone_file.proofs.includes.missing.has_text.Given as goal

-- the rest decides
abbrev pub invariant-loop-other : goal.invariant-loop-other
invariant-loop-other l =
    text_of (includes_view (drop l.other-index l.includes)) l.name ≡ text_of (includes_view l.includes) l.name
