-- Numbers in bytes, most significant byte first.
use Rattle.std.specs.Prelude.{ℕ, ◌+◌, ◌*◌, List, slice_index}

-- the 16-bit number at a place
abbrev pub number_at : List ℕ → ℕ → ℕ
number_at bytes place = 256 * slice_index bytes place + slice_index bytes (place + 1)

-- the 48-bit number at the front of bytes
abbrev pub time_at : List ℕ → ℕ
time_at bytes = (number_at bytes 0 * 65536 + number_at bytes 2) * 65536 + number_at bytes 4
