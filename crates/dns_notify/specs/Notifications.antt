-- The secondaries of a zone, and the notifications of a change that they have not responded to (RFC 1996 section 3.6).
use Rattle.std.specs.Prelude.{◌+◌, ◌<◌, ◌∷◌, map, min, find, option_map, Bool, if◌then◌else◌, List, [], ℕ, Option, Some, None}
use Rattle.std.specs.List.{list_any, AllByRecursion}
use Rattle.std.specs.declared.net.socket_addr.SocketAddr.{SocketAddr}
use Rattle.dns_notify.specs.declared.retries.Retries.{Retries}
use Rattle.dns_notify.specs.declared.secondary.Pending.{Pending}
use Rattle.dns_notify.specs.declared.secondary.Secondary.{Secondary}
use Rattle.dns_notify.specs.Secondary.{after_pending, announcement, is_due, is_expected_from, moment_of, same_address, with_pending}

-- what contracts see of the secondaries of a zone
pub record NotificationsContent : Type 0 where
  pub retries : Retries
  pub secondaries : List Secondary

-- a secondary that is not sent a notification
abbrev pub new_secondary : SocketAddr → Secondary
new_secondary address = record { address = address; pending = None }

-- after a change the first copy is due for each secondary
abbrev pub announced_to : Retries → ℕ → List Secondary → List Secondary
announced_to r now ss = map (with_pending (announcement r now)) ss

-- the secondaries of a zone after a change
abbrev pub announced : ℕ → NotificationsContent → NotificationsContent
announced now n = record n { secondaries = announced_to n.retries now n.secondaries }

-- ---- copies

-- the earlier of two moments, if there are two
abbrev pub earlier : Option ℕ → Option ℕ → Option ℕ
earlier None other = other
earlier (Some moment) None = Some moment
earlier (Some moment) (Some other) = Some (min moment other)

-- the earliest moment at which a copy is due
abbrev pub first_moment : List Secondary → Option ℕ
first_moment [] = None
first_moment (s ∷ ss) = earlier (moment_of s) (first_moment ss)

-- the address of the first secondary for which a copy is due
abbrev pub due_address : ℕ → List Secondary → Option SocketAddr
due_address now ss = option_map {T = Secondary} {U = SocketAddr} (λ s. s.address) (find (is_due now) ss)

-- the secondaries after a copy was sent to the first for which one is due
abbrev pub after_first_due : Retries → ℕ → List Secondary → List Secondary
after_first_due r now [] = []
after_first_due r now (s ∷ ss) =
    if is_due now s then with_pending (after_pending r now s.pending) s ∷ ss else s ∷ after_first_due r now ss

-- the secondaries of a zone after a copy was sent
abbrev pub after_due : ℕ → NotificationsContent → NotificationsContent
after_due now n = record n { secondaries = after_first_due n.retries now n.secondaries }

-- ---- responses

-- a secondary after a response from an address
abbrev pub after_response : SocketAddr → Secondary → Secondary
after_response address s = if same_address address s.address then with_pending None s else s

-- after a response from an address no copies are due for the secondary at it
abbrev pub responded : SocketAddr → NotificationsContent → NotificationsContent
responded address n = record n { secondaries = map (after_response address) n.secondaries }

-- whether a response from an address is expected
abbrev pub is_expected : SocketAddr → List Secondary → Bool
is_expected address ss = list_any (is_expected_from address) ss

-- ---- what is left to be sent

-- how many copies of a notification are left
abbrev pub copies_of : Option Pending → ℕ
copies_of None = 0
copies_of (Some p) = p.copies_left

-- how many copies are left in all
abbrev pub copies_left : List Secondary → ℕ
copies_left [] = 0
copies_left (s ∷ ss) = copies_of s.pending + copies_left ss

-- a notification with a copy that is left, or none
abbrev pub IsOpen : Option Pending → Type 0
IsOpen None = Unit {0}
IsOpen (Some p) = 0 < p.copies_left

-- each notification has a copy that is left
abbrev pub AreOpen : List Secondary → Type 0
AreOpen ss = AllByRecursion (λ (s : Secondary). IsOpen s.pending) ss
