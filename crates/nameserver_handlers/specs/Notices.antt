-- Notifications of secondaries (RFC 1996).
use Rattle.std.specs.Prelude.{◌≡◌, ◌⊎◌, if◌then◌else◌, is_some, length, map, option_map, slice_get, slice_set, Bool, true, false, List, [], ◌∷◌, ℕ, Option, Some, None}
use Rattle.std.specs.declared.net.socket_addr.SocketAddr.{SocketAddr}
use Rattle.dns_notify.specs.Notifications.{after_due, due_address, earlier, first_moment, new_secondary}
use Rattle.dns_notify.specs.declared.notifier.follower.Follower.{Follower}
use Rattle.dns_notify.specs.notifier.Follower.{Follows}
use Rattle.dns_notify.specs.notifier.Notifier.{Receives, with_notifications}
use Rattle.dns_records.specs.Record.{Record}
use Rattle.dns_records.specs.Rows.{rows_of}
use Rattle.dns_sockets.specs.Handler.{NoticeContent}
use Rattle.dns_wire.specs.declared.codes.record_type.RecordType.TheVariants.{SOA}
use Rattle.dns_zone.specs.Rows.{ZoneContent, rows_at}

-- ---- new followers

-- the follower of a zone, whose secondaries are sent at most 8 copies of a notification: after 1, 2, 4, 8, 16, 32 and 60 seconds
abbrev pub new_follower : List SocketAddr → ZoneContent → Follower
new_follower secondaries zone = record {
  notifier = record {
    origin = zone.origin;
    id = 0;
    message = [];
    notifications = record {
      retries = record { copies = 8; first_interval = 1000; max_interval = 60000 };
      secondaries = map new_secondary secondaries;
    };
  };
  serial = None;
}

-- a follower for each zone, in their order, or none if there are no secondaries
abbrev pub new_followers : List SocketAddr → List ZoneContent → List Follower
new_followers [] zones = []
new_followers (first ∷ more) zones = map (new_follower (first ∷ more)) zones

-- ---- zones that have changed

-- the first SOA record of a zone, if it has one
abbrev pub IsStart : ZoneContent → Option Record → Type 0
IsStart zone start =
    (records : List Record) × ((rows_of records ≡ rows_at zone.rows zone.origin.labels SOA) × (start ≡ slice_get records 0))

-- The SOA record of a zone is announced to its secondaries exactly if it has another serial number than the last one that was
-- (RFC 1996 section 3.11).
abbrev pub FollowsStart : ℕ → Option Record → Follower → Follower → Type 0
FollowsStart now None old new = new ≡ old
FollowsStart now (Some start) old new = (id : ℕ) × ((is_new : Bool) × Follows id start now old is_new new)

-- the same for a zone
abbrev pub FollowsZone : ℕ → ZoneContent → Follower → Follower → Type 0
FollowsZone now zone old new = (start : Option Record) × (IsStart zone start × FollowsStart now start old new)

-- the same, or nothing is announced for want of memory or of random bytes
abbrev pub FollowsZoneIf : Bool → ℕ → ZoneContent → Follower → Follower → Type 0
FollowsZoneIf true now zone old new = FollowsZone now zone old new
FollowsZoneIf false now zone old new = (new ≡ old) ⊎ FollowsZone now zone old new

-- Each follower follows the zone at its place; or some do not, for want of memory or of random bytes.
pub record AreFollowed (now : ℕ) (zones : List ZoneContent) (old : List Follower) (are_all : Bool) (new : List Follower)
    : Type 0 where
  pub count : length new ≡ length old
  pub each : (place : ℕ) (zone : ZoneContent) (f g : Follower) → slice_get zones place ≡ Some zone → slice_get old place ≡ Some f
      → slice_get new place ≡ Some g → FollowsZoneIf are_all now zone f g
  pub others : (place : ℕ) → slice_get zones place ≡ None → slice_get new place ≡ slice_get old place

-- ---- responses

-- no follower expects a response
abbrev pub NoneExpects : SocketAddr → List ℕ → List Follower → Type 0
NoneExpects from bytes fs =
    (place : ℕ) (f : Follower) → slice_get fs place ≡ Some f → Receives from bytes f.notifier false f.notifier

-- A follower expects a response: the secondary that sent it is notified no more.
pub record IsExpected (from : SocketAddr) (bytes : List ℕ) (old new : List Follower) : Type 0 where
  pub place : ℕ
  pub follower : Follower
  pub after : Follower
  pub there : slice_get old place ≡ Some follower
  pub receives : Receives from bytes follower.notifier true after.notifier
  pub serial : after.serial ≡ follower.serial
  pub new_is : new ≡ slice_set old place after

-- bytes from an address are a response that one of the followers expects, or not
abbrev pub TakesResponse : SocketAddr → List ℕ → List Follower → Bool → List Follower → Type 0
TakesResponse from bytes old true new = IsExpected from bytes old new
TakesResponse from bytes old false new = NoneExpects from bytes old × (new ≡ old)

-- ---- what is sent

-- the earliest moment at which a notification is due
abbrev pub next_moment : List Follower → Option ℕ
next_moment [] = None
next_moment (f ∷ fs) = earlier (first_moment f.notifier.notifications.secondaries) (next_moment fs)

-- the first secondary of a zone to which its notification is due
abbrev pub due_secondary : ℕ → Follower → Option SocketAddr
due_secondary now f = due_address now f.notifier.notifications.secondaries

-- whether a notification of a zone is due
abbrev pub is_due : ℕ → Follower → Bool
is_due now f = is_some (due_secondary now f)

-- the notification of a zone for a secondary
abbrev pub notice_to : Follower → SocketAddr → NoticeContent
notice_to f peer = record { peer = peer; bytes = f.notifier.message }

-- the first notification that is due
abbrev pub due_notice : ℕ → List Follower → Option NoticeContent
due_notice now [] = None
due_notice now (f ∷ fs) = if is_due now f then option_map (notice_to f) (due_secondary now f) else due_notice now fs

-- a follower after a copy of its notification was counted
abbrev pub after_copy : ℕ → Follower → Follower
after_copy now f = record f { notifier = with_notifications f.notifier (after_due now f.notifier.notifications) }

-- followers after the first notification that is due
abbrev pub after_notice : ℕ → List Follower → List Follower
after_notice now [] = []
after_notice now (f ∷ fs) = if is_due now f then after_copy now f ∷ fs else f ∷ after_notice now fs
