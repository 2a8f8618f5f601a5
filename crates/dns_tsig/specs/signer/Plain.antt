-- Messages without their TSIG records.
use Rattle.std.specs.Prelude.{ℕ, ◌-◌, ◌++◌, List, take, slice_range}
use Rattle.std.specs.Int.{w16, to_be_bytes}
use Rattle.dns_tsig.specs.Numbers.{number_at}

-- A message whose TSIG record is at a place, without this record, which ARCOUNT no longer counts (RFC 8945 section 4.3.2). The id is that
-- of the message.
abbrev pub plain_message : List ℕ → ℕ → List ℕ
plain_message message place = take 10 message ++ (to_be_bytes w16 (number_at message 10 - 1) ++ slice_range message 12 place)
