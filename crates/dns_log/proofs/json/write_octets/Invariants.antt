use Rattle.std.proofs.Common.{◌≡◌, ℕ, List, ◌++◌, drop}
use Rattle.std.specs.Fmt.{HasWritten, IsPlainFormatter}
use Rattle.dns_log.specs.Json.{json_octets}
use Rattle.dns_log.proofs.json.write_octets.Given as goal

-- the octets that are left complete the text
abbrev pub invariant-loop-octet : goal.invariant-loop-octet
invariant-loop-octet g l = IsPlainFormatter l.initial.f
    → (done : List ℕ) × HasWritten g.W.Write.write_str_gives l.initial.f done l.f × (done ++ json_octets (drop l.octet-index l.octets) ≡ json_octets l.octets)
