-- The secondaries of a zone, and the notifications that they have not responded to (RFC 1996 section 3.6).
use Rattle.std.specs.Prelude.{◌-◌, ◌&&◌, ◌==◌, nat_le, option_map, is_some, Bool, false, ℕ, zero, suc, Option, Some, None}
use Rattle.std.specs.Net.Addr.{ipv4_octets, ipv6_segments}
use Rattle.std.specs.Net.Socket.{socket_ip, socket_port}
use Rattle.std.specs.Str.{bytes_eq}
use Rattle.std.specs.declared.net.ip_addr.IpAddr.{IpAddr}
use Rattle.std.specs.declared.net.ip_addr.IpAddr.TheVariants.{V4, V6}
use Rattle.std.specs.declared.net.socket_addr.SocketAddr.{SocketAddr}
use Rattle.dns_notify.specs.declared.retries.Retries.{Retries}
use Rattle.dns_notify.specs.declared.secondary.Pending.{Pending}
use Rattle.dns_notify.specs.declared.secondary.Secondary.{Secondary}
use Rattle.dns_notify.specs.Retries.{later, longer}

-- a secondary with a notification, or without one
abbrev pub with_pending : Option Pending → Secondary → Secondary
with_pending pending s = record s { pending = pending }

-- a notification of which so many copies are left, the next of which is due at a moment, and the one after it an interval later
abbrev pub pending_if : ℕ → ℕ → ℕ → Option Pending
pending_if zero moment interval = None
pending_if (suc left) moment interval =
    Some (record { copies_left = suc left; moment = moment; interval = interval })

-- the notification of a change: all copies are left, and the first is due at once
abbrev pub announcement : Retries → ℕ → Option Pending
announcement r now = pending_if r.copies now r.first_interval

-- what is left of a notification after a copy was sent
abbrev pub after_copy : Retries → ℕ → Pending → Option Pending
after_copy r now p = pending_if (p.copies_left - 1) (later now p.interval) (longer r p.interval)

-- when the next copy for a secondary is due, if one is left
abbrev pub moment_of : Secondary → Option ℕ
moment_of s = option_map {T = Pending} {U = ℕ} (λ p. p.moment) s.pending

-- whether a moment has come
abbrev pub has_come : ℕ → Option ℕ → Bool
has_come now None = false
has_come now (Some moment) = nat_le moment now

-- whether the next copy for a secondary is due
abbrev pub is_due : ℕ → Secondary → Bool
is_due now s = has_come now (moment_of s)

-- what is left of a notification, if there is one, after a copy was sent
abbrev pub after_pending : Retries → ℕ → Option Pending → Option Pending
after_pending r now None = None
after_pending r now (Some p) = after_copy r now p

-- ---- addresses

-- whether addresses are of one family and have the same octets or segments
abbrev pub same_ip : IpAddr → IpAddr → Bool
same_ip (V4 a) (V4 b) = bytes_eq (ipv4_octets a) (ipv4_octets b)
same_ip (V6 a) (V6 b) = bytes_eq (ipv6_segments a) (ipv6_segments b)
same_ip a b = false

-- whether addresses and ports are the same
abbrev pub same_address : SocketAddr → SocketAddr → Bool
same_address a b = same_ip (socket_ip a) (socket_ip b) && (socket_port a == socket_port b)

-- whether a response from an address is expected from a secondary
abbrev pub is_expected_from : SocketAddr → Secondary → Bool
is_expected_from address s = same_address address s.address && is_some s.pending
