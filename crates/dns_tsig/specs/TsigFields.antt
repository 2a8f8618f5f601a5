-- The fields of a TSIG record, but for its owner (RFC 8945 section 4.2).
use Rattle.std.specs.Prelude.{ℕ, List}

-- the name of the algorithm as it is in the message, and times in seconds
pub record TsigFields : Type 0 where
  pub algorithm : List ℕ
  pub time : ℕ
  pub fudge : ℕ
  pub mac : List ℕ
  pub original_id : ℕ
  pub error : ℕ
  pub other : List ℕ
