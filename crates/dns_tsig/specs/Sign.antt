-- Signing of messages (RFC 8945 sections 5.1 and 5.3).
use Rattle.std.specs.Prelude.{◌≡◌, ℕ, ◌==◌, ◌++◌, nat_lt, if◌then◌else◌, List, length, Option, Some, None}
use Rattle.dns_tsig.specs.hmac.Hmac.{hmac}
use Rattle.dns_tsig.specs.Covered.{covered, prior_bytes}
use Rattle.dns_tsig.specs.Key.{algorithm_name}
use Rattle.dns_tsig.specs.Numbers.{number_at}
use Rattle.dns_tsig.specs.Record.{tsig_data, tsig_record, with_record}
use Rattle.dns_tsig.specs.declared.key.Key.{Key}
use Rattle.dns_tsig.specs.declared.covered.Coverage.{Coverage}
use Rattle.dns_tsig.specs.declared.error.SignError.{SignError}
use Rattle.dns_tsig.specs.declared.error.SignError.TheVariants.{NoHeader, Full}

-- the code of a message that has no TSIG record yet: it covers the former code, the message, and the fields of the record
abbrev pub code_for : Key → List ℕ → List ℕ → Coverage → ℕ → ℕ → ℕ → List ℕ → List ℕ
code_for key prior message coverage time fudge error other =
    hmac key.algorithm key.secret.items (prior_bytes prior ++ message ++ covered coverage key time fudge error other)

-- the TSIG record of a key with a code
abbrev pub signed_record : Key → ℕ → ℕ → ℕ → List ℕ → ℕ → List ℕ → List ℕ
signed_record key time fudge error other id code =
    tsig_record key.name.items (tsig_data (algorithm_name key.algorithm) time fudge code id error other)

-- A message was signed: its code is that of the message, and a record with the code and the id of the message was appended.
pub record IsSigned (key : Key) (prior old : List ℕ) (coverage : Coverage) (time fudge error : ℕ) (other code new : List ℕ) : Type 0 where
  pub code_is : code ≡ code_for key prior old coverage time fudge error other
  pub message_is : new ≡ with_record old (signed_record key time fudge error other (number_at old 0) code)

-- Why no record can be appended: the header has twelve bytes, and ARCOUNT 16 bits (RFC 1035 section 4.1.1).
abbrev pub refusal_of : List ℕ → Option SignError
refusal_of message =
    if nat_lt (length message) 12 then Some NoHeader
    else if number_at message 10 == 65535 then Some Full
    else None
