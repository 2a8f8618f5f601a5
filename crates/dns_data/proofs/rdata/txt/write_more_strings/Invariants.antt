use Rattle.std.proofs.Common.{◌≡◌, ℕ, List, ◌++◌, drop}
use Rattle.std.specs.Fmt.{HasWritten, IsPlainFormatter}
use Rattle.dns_data.specs.internal.Text.{more_strings_text}
use Rattle.dns_data.proofs.rdata.txt.write_more_strings.Given as goal

-- the strings that are left complete the text
abbrev pub invariant-loop-string : goal.invariant-loop-string
invariant-loop-string g l = IsPlainFormatter l.initial.f
    → (done : List ℕ) × HasWritten g.W.Write.write_str_gives l.initial.f done l.f × (done ++ more_strings_text (drop l.string-index l.strings) ≡ more_strings_text l.strings)
