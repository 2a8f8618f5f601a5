use Rattle.std.proofs.Common.{◌≡◌, ℕ, List, ◌++◌}
use Rattle.std.specs.Fmt.{HasWritten, IsPlainFormatter}
use Rattle.std.specs.Str.Iter.{chars_rest}
use Rattle.lookup_cli.specs.answers.GivenText.{given_octets}
use Rattle.lookup_cli.proofs.answers.given_text.write_characters.Given as goal

-- the characters that are left complete the text
abbrev pub invariant-loop-c : goal.invariant-loop-c
invariant-loop-c g l = IsPlainFormatter l.initial.f
    → (done : List ℕ) × HasWritten g.W.Write.write_str_gives l.initial.f done l.f
    × (done ++ given_octets (chars_rest l.c-iterator) ≡ given_octets l.text)
