use Rattle.std.proofs.Common.{◌≡◌, drop, map}
use Rattle.dns_fields.specs.service.Text.{name_among}
use Rattle.dns_fields.proofs.service.text.name_among.Given as goal

-- the keys up to here are others
abbrev pub invariant-loop-name : goal.invariant-loop-name
invariant-loop-name l =
    name_among (map (λ line. (line.0.now, line.1)) (drop l.name-index l.keys)) l.key ≡ name_among (map (λ line. (line.0.now, line.1)) l.keys) l.key
