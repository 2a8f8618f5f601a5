-- How often a notification is repeated (RFC 1996 section 3.6).
use Rattle.std.specs.Prelude.{◌+◌, ◌*◌, min, ℕ}
use Rattle.dns_notify.specs.declared.retries.Retries.{Retries}

-- the interval that follows another: twice as long, up to a limit
abbrev pub longer : Retries → ℕ → ℕ
longer r interval = min (2 * interval) r.max_interval

-- the moment after an interval; the last moment is 2^64 - 1
abbrev pub later : ℕ → ℕ → ℕ
later now interval = min (now + interval) 18446744073709551615
