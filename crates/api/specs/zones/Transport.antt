-- The transports of requests, by number.
use Rattle.std.specs.Prelude.{◌≡◌, ◌≢◌, ◌<◌, ℕ}
use Rattle.api.specs.declared.buffer.refusal.Refusal.{Refusal}
use Rattle.api.specs.declared.buffer.refusal.Refusal.TheVariants as refusal
use Rattle.dns_zone.specs.declared.transport.Transport.{Transport}
use Rattle.dns_zone.specs.declared.transport.Transport.TheVariants.{Datagram, Stream}

-- 0 is the number of datagrams, whose replies have a maximum size, and 1 that of streams
abbrev pub IsTransport : ℕ → ℕ → Transport → Type 0
IsTransport transport limit (Datagram size) = (transport ≡ 0) × (size ≡ limit)
IsTransport transport limit Stream = transport ≡ 1

-- another number is refused, and so is a maximum size of a datagram below 512
abbrev pub IsRefused : ℕ → ℕ → Refusal → Type 0
IsRefused transport limit refusal.Limit = (transport ≡ 0) × (limit < 512)
IsRefused transport limit refusal.Transport = (transport ≢ 0) × (transport ≢ 1)
IsRefused transport limit other = ⊥
