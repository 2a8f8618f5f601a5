-- How a reply is sent.
use Rattle.std.specs.Prelude.{if◌then◌else◌, List, ℕ, Option, Some, None, option_map}
use Rattle.dns_faults.specs.declared.rules.fault.Fault.{Fault}
use Rattle.dns_faults.specs.declared.delivery.Delivery.{Delivery}

-- how a reply is sent: its bytes, the number of copies, the delay in milliseconds, and after how many bytes of its frame the
-- connection is closed
pub record Sending : Type 0 where
  pub reply : Option (List ℕ)
  pub copies : ℕ
  pub after_milliseconds : ℕ
  pub close_after : Option ℕ

-- a delivery, with the bytes of its reply
abbrev pub sending : Delivery → Sending
sending d = record {
  reply = option_map (λ bytes. bytes.items) d.reply;
  copies = d.copies;
  after_milliseconds = d.after_milliseconds;
  close_after = d.close_after;
}

-- once, at once, and the connection stays open
abbrev pub plain_sending : Option (List ℕ) → Sending
plain_sending reply = record { reply = reply; copies = 1; after_milliseconds = 0; close_after = None }

-- a delay, or none
abbrev pub delay_of : Option ℕ → ℕ
delay_of None = 0
delay_of (Some delay) = delay

-- as a fault says: twice, later, and with the connection closed after some bytes of the frame
abbrev pub sending_by : Fault → Option (List ℕ) → Sending
sending_by f reply = record {
  reply = reply;
  copies = if f.duplicate then 2 else 1;
  after_milliseconds = delay_of f.delay;
  close_after = f.close;
}
