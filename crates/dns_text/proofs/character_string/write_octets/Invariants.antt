use Rattle.std.proofs.Common.{◌≡◌, ℕ, List, ◌++◌, drop}
use Rattle.std.specs.Fmt.{HasWritten, IsPlainFormatter}
use Rattle.dns_text.specs.CharacterString.{escaped_text}
use Rattle.dns_text.proofs.character_string.write_octets.Given as goal

-- the octets that are left complete the text
abbrev pub invariant-loop-octet : goal.invariant-loop-octet
invariant-loop-octet g l = IsPlainFormatter l.initial.f
    → (done : List ℕ) × HasWritten g.W.Write.write_str_gives l.initial.f done l.f × (done ++ escaped_text (drop l.octet-index l.octets) ≡ escaped_text l.octets)
