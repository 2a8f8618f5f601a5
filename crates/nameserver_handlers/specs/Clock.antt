-- The time of day.
use Rattle.std.specs.Prelude.{◌≡◌, ◌+◌, ◌/◌, min, ⊤, ℕ}
use Rattle.nameserver_handlers.specs.declared.clock.WallClock.{WallClock}
use Rattle.nameserver_handlers.specs.declared.clock.WallClock.TheVariants.{From, System}

-- A clock that began with these seconds since 1970 shows them and those that have passed. What the clock of the system shows, it says.
abbrev pub Shows : WallClock → ℕ → ℕ → Type 0
Shows System moment seconds = ⊤
Shows (From start) moment seconds = seconds ≡ min (start + moment / 1000) 18446744073709551615
