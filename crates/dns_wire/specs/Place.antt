-- What contracts see of a `Place`.
use Rattle.std.specs.Prelude.{ℕ}
use Rattle.dns_wire.specs.declared.place.Place.{Place}

-- the offset of its first byte
abbrev pub place_start : {T : Type 0} → Place T → ℕ
place_start p = p.start
