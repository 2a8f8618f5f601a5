-- Serial numbers rise.
use Rattle.std.proofs.Common.{◌≡◌, ◌^◌, ◌<◌, ◌==◌, ℕ, cond, ltb, refl, ap, arith}
use Rattle.dns_wire.specs.codes.SerialNumber.{serial_order, steps_up}
use Rattle.dns_wire.specs.declared.codes.serial_number.SerialOrder.{SerialOrder}
use Rattle.dns_wire.specs.declared.codes.serial_number.SerialOrder.TheVariants as orders
use Rattle.dns_differences.specs.serials.Serial.{next_serial, serial_after, serial_by}

abbrev order_of : ℕ → SerialOrder
order_of n = cond (n == 0) orders.Equal (cond (ltb n (2 ^ 31)) orders.Less (cond (n == 2 ^ 31) orders.Undecided orders.Greater))

-- one step leads to the next serial number
one_step : (n : ℕ) → n < 4294967296 → steps_up n (next_serial n) ≡ 1
one_step n small = omega arith

next_rises : (n : ℕ) → n < 2 ^ 32 → serial_order n (next_serial n) ≡ orders.Less
next_rises n small = ap order_of (one_step n small)

by_order : (o : SerialOrder) (before after : ℕ) → before < 2 ^ 32 → serial_order before after ≡ o → serial_order before (serial_by o before after) ≡ orders.Less
by_order orders.Less before after small e = e
by_order orders.Equal before after small e = next_rises before small
by_order orders.Greater before after small e = next_rises before small
by_order orders.Undecided before after small e = next_rises before small

pub risen : (before after : ℕ) → before < 2 ^ 32 → after < 2 ^ 32 → serial_order before (serial_after before after) ≡ orders.Less
risen before after small other = by_order (serial_order before after) before after small refl

pub stays : (before after : ℕ) → serial_order before after ≡ orders.Less → serial_after before after ≡ after
stays before after e = ap (λ (o : SerialOrder). serial_by o before after) e
