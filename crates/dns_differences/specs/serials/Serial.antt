-- The serial number of a zone after a change (RFC 2136 section 3.6).
use Rattle.std.specs.Prelude.{◌+◌, ◌%◌, ◌^◌, ℕ}
use Rattle.dns_wire.specs.codes.SerialNumber.{serial_order}
use Rattle.dns_wire.specs.declared.codes.serial_number.SerialOrder.{SerialOrder}
use Rattle.dns_wire.specs.declared.codes.serial_number.SerialOrder.TheVariants as orders

-- the serial number after another (RFC 1982 section 3.1)
abbrev pub next_serial : ℕ → ℕ
next_serial n = (n + 1) % 2 ^ 32

-- the one that the change has set, if it is greater than the one before, or else the one after that
abbrev pub serial_by : SerialOrder → ℕ → ℕ → ℕ
serial_by orders.Less before after = after
serial_by orders.Equal before after = next_serial before
serial_by orders.Greater before after = next_serial before
serial_by orders.Undecided before after = next_serial before

-- the serial number after a change, by the serial numbers before it and of the SOA record that it has left
abbrev pub serial_after : ℕ → ℕ → ℕ
serial_after before after = serial_by (serial_order before after) before after
