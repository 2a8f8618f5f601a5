use Rattle.std.proofs.Common.{◌≡◌, ◌≤◌, drop}
use Rattle.zone_check.specs.findings.ValueText.{exceeds_from, exceeds_octet}
use Rattle.zone_check.proofs.findings.value_text.exceeds_octet.Given as goal

-- the rest of the word decides
abbrev pub invariant-loop-c : goal.invariant-loop-c
invariant-loop-c l = (l.value ≤ 255) × (exceeds_from l.value (drop l.c-index l.word) ≡ exceeds_octet l.word)
