use Rattle.std.proofs.Common.{◌≡◌, drop}
use Rattle.dns_formats.specs.Value.{are_tag_octets}
use Rattle.dns_formats.proofs.value.are_tag_octets.Given as goal

-- the octets up to here are letters and digits
abbrev pub invariant-loop-octet : goal.invariant-loop-octet
invariant-loop-octet l = are_tag_octets (drop l.octet-index l.octets) ≡ are_tag_octets l.octets
