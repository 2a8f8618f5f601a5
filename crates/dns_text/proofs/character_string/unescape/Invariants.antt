use Rattle.std.proofs.Common.{◌≡◌, ◌-◌, ◌≤◌, drop, length}
use Rattle.dns_text.specs.CharacterString.{unescaped}
use Rattle.dns_text.proofs.CharacterStringLaws.{octets_before}
use Rattle.dns_text.proofs.character_string.unescape.Given as goal

-- the octets that are left complete the string
abbrev pub invariant-loop-place : goal.invariant-loop-place
invariant-loop-place l = record {
  completes : octets_before l.octets.items (unescaped (drop l.place l.text)) ≡ unescaped l.text;
  within : l.place ≤ length l.text;
}

abbrev pub decreases-loop-place : goal.decreases-loop-place
decreases-loop-place l = length l.text - l.place
