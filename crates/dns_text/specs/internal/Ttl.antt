-- How the code adds up a time, character by character.
use Rattle.std.specs.Prelude.{ℕ, ◌+◌, ◌-◌, ◌*◌, if◌then◌else◌, Option, Some, None, unwrap_or}
use Rattle.dns_wire.specs.codes.Decimal.{is_digit}
use Rattle.dns_text.specs.Ttl.{unit_seconds}
use Rattle.dns_text.specs.declared.ttl.TtlSum.{TtlSum}

-- a digit continues or begins a run, and a unit ends it
abbrev pub add_character : TtlSum → ℕ → Option TtlSum
add_character t c =
    if is_digit c then Some (record t { run = Some (10 * unwrap_or t.run 0 + (c - 48)) })
    else elim t.run [
      | None ↦ None
      | Some number ↦ elim (unit_seconds c) [
        | None ↦ None
        | Some seconds ↦ Some (record { sum = t.sum + seconds * number; run = None })
      ]
    ]

-- a last run without a unit is in seconds
abbrev pub total : TtlSum → ℕ
total t = t.sum + unwrap_or t.run 0
