-- The secondaries of a zone, and the messages that they are sent (RFC 1996 section 3.6).
use Rattle.std.specs.Prelude.{◌≡◌, ◌&&◌, if◌then◌else◌, Bool, List, ℕ}
use Rattle.std.specs.declared.net.socket_addr.SocketAddr.{SocketAddr}
use Rattle.dns_messages.specs.Encoding.{Encodes}
use Rattle.dns_names.specs.Name.{DomainName}
use Rattle.dns_notify.specs.Notifications.{NotificationsContent, announced, is_expected, responded}
use Rattle.dns_records.specs.Record.{Record}
use Rattle.dns_notify.specs.notifier.Notification.{notification}
use Rattle.dns_notify.specs.notifier.Response.{IsResponse}

-- what contracts see of a notifier
pub record NotifierContent : Type 0 where
  pub origin : DomainName
  pub id : ℕ
  pub message : List ℕ
  pub notifications : NotificationsContent

-- a notifier with other notifications
abbrev pub with_notifications : NotifierContent → NotificationsContent → NotifierContent
with_notifications n notifications = record n { notifications = notifications }

-- A change was announced: the message has the new SOA record, and is due for each secondary.
pub record IsAnnounced (id : ℕ) (start : Record) (now : ℕ) (old new : NotifierContent) : Type 0 where
  pub origin : new.origin ≡ old.origin
  pub id_is : new.id ≡ id
  pub encodes : Encodes 65535 (notification id old.origin start) new.message
  pub notifications : new.notifications ≡ announced now old.notifications

-- what is left after bytes that are a response or not
abbrev pub received : SocketAddr → Bool → NotificationsContent → NotificationsContent
received from is_response n = if is_response then responded from n else n

-- Bytes came from an address: they are a response or not, and it was expected or not.
pub record Receives (from : SocketAddr) (bytes : List ℕ) (old : NotifierContent) (was_expected : Bool) (new : NotifierContent) : Type 0 where
  pub is_response : Bool
  pub decides : IsResponse old.id old.origin bytes is_response
  pub expected : was_expected ≡ (is_response && is_expected from old.notifications.secondaries)
  pub left : new ≡ with_notifications old (received from is_response old.notifications)
