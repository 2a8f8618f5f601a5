-- Who may use the secrets of a key file, by the mode of stat(2).
use Rattle.std.specs.Prelude.{ℕ, ◌%◌, nat_le, Bool}

-- whether the last octal digit of a mode, that of other users, has the bit 4 to read or the bit 2 to write
abbrev pub is_exposed : ℕ → Bool
is_exposed mode = nat_le 2 (mode % 8)
