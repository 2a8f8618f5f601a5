use Rattle.std.proofs.Common.{◌≡◌, ℕ, List, ◌++◌, drop}
use Rattle.std.specs.Fmt.{HasWritten, IsPlainFormatter}
use Rattle.dns_fields.specs.service.Text.{word_text, item_text}
use Rattle.dns_fields.proofs.service.text.write_identifier.Given as goal

-- the octets that are left complete the identifier
abbrev pub invariant-loop-octet : goal.invariant-loop-octet
invariant-loop-octet g l = IsPlainFormatter l.initial.f → (done : List ℕ) × HasWritten g.W.Write.write_str_gives l.initial.f done l.f
    × (done ++ word_text (item_text (drop l.octet-index l.octets)) ≡ word_text (item_text l.octets))
