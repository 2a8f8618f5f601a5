use Rattle.std.proofs.Common.{◌≡◌, ℕ, List, ◌++◌, drop}
use Rattle.std.specs.Fmt.{HasWritten, IsPlainFormatter}
use Rattle.dns_data.specs.Text.{hex_text}
use Rattle.dns_data.proofs.generic.write_hex.Given as goal

-- the bytes that are left complete the text
abbrev pub invariant-loop-byte : goal.invariant-loop-byte
invariant-loop-byte g l = IsPlainFormatter l.initial.f
    → (done : List ℕ) × HasWritten g.W.Write.write_str_gives l.initial.f done l.f × (done ++ hex_text (drop l.byte-index l.bytes) ≡ hex_text l.bytes)
