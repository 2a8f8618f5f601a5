use Rattle.std.proofs.Common.{◌≡◌, ◌++◌, drop, string_bytes}
use Rattle.dns_names.specs.Print.{AreOctets, octets_text, label_text}
use Rattle.dns_names.proofs.text.print.push_label.Given as goal

-- the octets that are left complete the text, and if they are octets, so are all
abbrev pub invariant-loop-octet : goal.invariant-loop-octet
invariant-loop-octet l =
    (string_bytes l.text ++ octets_text l.is_first (drop l.octet-index l.label) ≡ string_bytes l.initial.text ++ label_text l.label)
    × (AreOctets (drop l.octet-index l.label) → AreOctets l.label)
