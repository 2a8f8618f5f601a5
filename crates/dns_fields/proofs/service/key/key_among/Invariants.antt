use Rattle.std.proofs.Common.{◌≡◌, drop, map}
use Rattle.dns_fields.specs.service.Key.{key_among}
use Rattle.dns_fields.proofs.service.key.key_among.Given as goal

-- the keys up to here have other names
abbrev pub invariant-loop-name : goal.invariant-loop-name
invariant-loop-name l =
    key_among (map (λ line. (line.0.now, line.1)) (drop l.name-index l.keys)) l.text ≡ key_among (map (λ line. (line.0.now, line.1)) l.keys) l.text
