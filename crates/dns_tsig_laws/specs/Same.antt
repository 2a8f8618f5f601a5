-- When two signed messages are the same.
use Rattle.std.specs.Prelude.{◌≡◌, ◌<◌, ◌≤◌, ◌^◌, ℕ, List, length, slice_range}
use Rattle.dns_tsig.specs.Numbers.{number_at}
use Rattle.dns_tsig.specs.TsigFields.{TsigFields}

-- the fields have the sizes of RFC 8945 section 4.2
pub record DoFieldsFit (tsig : TsigFields) : Type 0 where
  pub time : tsig.time < 2 ^ 48
  pub fudge : tsig.fudge < 2 ^ 16
  pub original_id : tsig.original_id < 2 ^ 16
  pub error : tsig.error < 2 ^ 16

-- a message has a record at a place after its header, which ARCOUNT counts
pub record HasRecordAt (message : List ℕ) (place : ℕ) : Type 0 where
  pub after_header : 12 ≤ place
  pub within : place ≤ length message
  pub counted : 0 < number_at message 10
  pub count_fits : number_at message 10 < 2 ^ 16

-- Two messages, whose TSIG records are at these places, are the same but for their ids and these records. The records have the same
-- fields, but for the MAC and for the case of the algorithm's name.
pub record IsSameSigned (one : List ℕ) (place : ℕ) (first : TsigFields) (two : List ℕ) (end : ℕ) (second : TsigFields) : Type 0 where
  pub flags_and_counts : slice_range one 2 10 ≡ slice_range two 2 10
  pub additionals : number_at one 10 ≡ number_at two 10
  pub sections : slice_range one 12 place ≡ slice_range two 12 end
  pub original_id : first.original_id ≡ second.original_id
  pub time : first.time ≡ second.time
  pub fudge : first.fudge ≡ second.fudge
  pub error : first.error ≡ second.error
  pub other : first.other ≡ second.other
