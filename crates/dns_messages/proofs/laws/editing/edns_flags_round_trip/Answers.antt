use Rattle.std.proofs.Common.{◌≡◌, ◌<◌, ◌^◌, ◌/◌, ◌%◌, ◌==◌, ◌+◌, ◌*◌, ℕ, Bool, true, false, arith, refl}
use Rattle.dns_messages.specs.Header.{bit}
use Rattle.dns_messages.proofs.laws.editing.edns_flags_round_trip.Goals as goal

flags : (number : ℕ) (b : Bool) → ((number / 32768) % 2 == 1) ≡ b → number < 2 ^ 16 → 32768 * bit b + (number % 32768) % 32768 ≡ number
flags number true e small = grind (arith, e, small)
flags number false e small = grind (arith, e, small)

pub returns : goal.returns
returns c = λ number small. flags number _ refl small
