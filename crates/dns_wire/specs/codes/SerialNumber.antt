-- Serial numbers, which wrap at 2 ^ 32 (RFC 1982 section 3.2).
use Rattle.std.specs.Prelude.{ℕ, ◌+◌, ◌-◌, ◌%◌, ◌^◌, ◌==◌, nat_lt, if◌then◌else◌}
use Rattle.dns_wire.specs.declared.codes.serial_number.SerialNumber.{SerialNumber}
use Rattle.dns_wire.specs.declared.codes.serial_number.SerialOrder.{SerialOrder}
use Rattle.dns_wire.specs.declared.codes.serial_number.SerialOrder.TheVariants.{Less, Equal, Greater, Undecided}

-- the value of a serial number
abbrev pub serial_value : SerialNumber → ℕ
serial_value s = s.0

-- how often a has to be incremented to reach b
abbrev pub steps_up : ℕ → ℕ → ℕ
steps_up a b = (b + 2 ^ 32 - a) % 2 ^ 32

-- a is less than b if fewer than 2 ^ 31 increments lead from a to b, undecided at 2 ^ 31, and else greater
abbrev pub serial_order : ℕ → ℕ → SerialOrder
serial_order a b =
    if steps_up a b == 0 then Equal
    else if nat_lt (steps_up a b) (2 ^ 31) then Less
    else if steps_up a b == 2 ^ 31 then Undecided
    else Greater
