use Rattle.std.proofs.Common.{◌≡◌, drop, map}
use Rattle.dns_formats.specs.Field.{fields_among}
use Rattle.dns_formats.proofs.field.fields_among.Given as goal

-- the lines up to here are of other types
abbrev pub invariant-loop-other : goal.invariant-loop-other
invariant-loop-other l =
    fields_among (map (λ line. (line.0, line.1.now)) (drop l.other-index l.formats)) l.number ≡ fields_among (map (λ line. (line.0, line.1.now)) l.formats) l.number
