-- Links over sockets: what their calls do to the zone and the counts. What sockets carry is not known.
use Rattle.std.specs.Prelude.{◌≡◌, ◌+◌, ◌-◌, ◌^◌, min, true, Bool, ℕ, Result, Ok, Err}
use Rattle.dns_zone.specs.declared.transport.Transport.{Transport}
use Rattle.dns_zone.specs.declared.transport.Transport.TheVariants.{Datagram, Stream}
use Rattle.stub_run.specs.RunOver.{LinkRules, rules_of}
use Rattle.dns_zone.specs.Rows.{ZoneContent}
use Rattle.dns_zone.specs.Serving.{Serves}
use Rattle.dns_blocking.specs.Serving as blocking
use Rattle.dns_blocking.specs.declared.error.SocketError.{SocketError}
use Rattle.dns_blocking.specs.declared.error.SocketError.TheVariants as sockets
use Rattle.stub_link.specs.declared.link.LinkError.{LinkError}
use Rattle.stub_link.specs.declared.link.LinkError.TheVariants.{Failed, Memory}
use Rattle.stub_play.specs.declared.sockets.socket_link.SocketLink.{SocketLink}

-- ---- the server

-- A server served a message that arrived over a transport, or none.
abbrev pub MayServe : Transport → ZoneContent → ZoneContent → Type 0
MayServe = blocking.MayServe Serves

-- A server served at most a number of messages, one after another. Nothing else changed the zone.
abbrev pub ServesAtMost : Transport → ZoneContent → ℕ → ZoneContent → Type 0
ServesAtMost = blocking.ServesAtMost Serves

-- ---- calls

-- what the error of a call of a socket is for a link
abbrev pub link_error : SocketError → LinkError
link_error sockets.Failed = Failed
link_error sockets.Memory = Memory

-- the number of failures after a call: one more if it failed, up to 2^64 - 1
abbrev pub failures_after : {X : Type 0} → Result X LinkError → ℕ → ℕ
failures_after (Err Failed) failures = min (failures + 1) (2 ^ 64 - 1)
failures_after _ failures = failures

-- whether the link has run out of memory, after a call
abbrev pub memory_after : {X : Type 0} → Result X LinkError → Bool → Bool
memory_after (Err Memory) old = true
memory_after _ old = old

-- A call has a result. It keeps the limit, counts its failure, and remembers want of memory.
pub record Calls {R X : Type 0} (old : SocketLink R) (result : Result X LinkError) (new : SocketLink R) : Type 0 where
  pub limit : new.limit ≡ old.limit
  pub failures : new.failures ≡ failures_after result old.failures
  pub memory : new.out_of_memory ≡ memory_after result old.out_of_memory

-- Sending a datagram keeps the zone.
pub record Sends {R X : Type 0} (old : SocketLink R) (result : Result X LinkError) (new : SocketLink R) : Type 0 where
  pub calls : Calls old result new
  pub zone : new.zone ≡ old.zone

-- Before a receive, at most 1,024 datagrams are served.
pub record Receives {R X : Type 0} (old : SocketLink R) (result : Result X LinkError) (new : SocketLink R) : Type 0 where
  pub calls : Calls old result new
  pub serves : ServesAtMost (Datagram old.limit) old.zone 1024 new.zone

-- A stream carries at most one message to the server.
pub record Streams {R X : Type 0} (old : SocketLink R) (result : Result X LinkError) (new : SocketLink R) : Type 0 where
  pub calls : Calls old result new
  pub serves : MayServe Stream old.zone new.zone

-- ---- events

-- What links over sockets do. They follow no script, so an event begins and ends as the link is.
abbrev pub socket_rules : (R : Type 0) → LinkRules (SocketLink R)
socket_rules R =
    rules_of (λ old e new. new ≡ old) (λ old result new. (result ≡ Ok tt) × (new ≡ old)) (λ link. link.out_of_memory)
    (λ old bytes result new. Sends old result new)
    (λ old result new. Receives old result new) (λ old bytes result new. Streams old result new) (λ link. link.failures)
