-- Which SOA records of a zone are announced (RFC 1996 section 3.11).
use Rattle.std.specs.Prelude.{◌≡◌, ◌==◌, Bool, true, false, ℕ, Option, Some, None}
use Rattle.dns_records.specs.Record.{Record}
use Rattle.dns_differences.specs.serials.Record.{data_serial}
use Rattle.dns_notify.specs.notifier.Notifier.{IsAnnounced}
use Rattle.dns_notify.specs.declared.notifier.follower.Follower.{Follower}

-- whether two serial numbers are the same, or there is none
abbrev pub same_serial : Option ℕ → Option ℕ → Bool
same_serial (Some serial) (Some other) = serial == other
same_serial (Some serial) None = false
same_serial None (Some other) = false
same_serial None None = true

-- A new serial number was announced with the SOA record that has it.
pub record IsFollowed (id : ℕ) (start : Record) (now : ℕ) (old new : Follower) : Type 0 where
  pub is_new : same_serial (data_serial start.rdata) old.serial ≡ false
  pub serial_is : new.serial ≡ data_serial start.rdata
  pub announced : IsAnnounced id start now old.notifier new.notifier

-- An SOA record is announced exactly if its serial number is not the one that was announced last.
abbrev pub Follows : ℕ → Record → ℕ → Follower → Bool → Follower → Type 0
Follows id start now old true new = IsFollowed id start now old new
Follows id start now old false new = (same_serial (data_serial start.rdata) old.serial ≡ true) × (new ≡ old)
