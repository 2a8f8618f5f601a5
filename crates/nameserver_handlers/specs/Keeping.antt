-- How many differences are kept of zones.
use Rattle.std.specs.Prelude.{ℕ, zero, suc, Option, Some, None}
use Rattle.dns_differences.specs.declared.history.Limits.{Limits}

-- at most 1,000 differences of each zone, of so many records and of 64 MiB; without records, none
abbrev pub limits_of : ℕ → Option Limits
limits_of zero = None
limits_of (suc n) = Some (record { differences = 1000; records = suc n; octets = 67108864 })
