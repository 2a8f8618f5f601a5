-- Whether a TSIG record proves that its message comes from the holder of a key (RFC 8945 section 5.2).
use Rattle.std.specs.Prelude.{ℕ, ◌+◌, ◌/◌, ◌&&◌, ◌++◌, not, nat_le, nat_lt, if◌then◌else◌, Bool, List, length, take}
use Rattle.std.specs.Str.{bytes_eq}
use Rattle.dns_tsig.specs.declared.hmac.algorithm.Algorithm.{Algorithm}
use Rattle.dns_tsig.specs.hmac.Algorithm.{code_len}
use Rattle.dns_tsig.specs.hmac.Hmac.{hmac}
use Rattle.dns_tsig.specs.Covered.{covered, prior_bytes, unsigned_message}
use Rattle.dns_tsig.specs.TsigFields.{TsigFields}
use Rattle.dns_tsig.specs.declared.key.Key.{Key}
use Rattle.dns_tsig.specs.declared.covered.Coverage.{Coverage}
use Rattle.dns_tsig.specs.declared.judge.Judgement.{Judgement}
use Rattle.dns_tsig.specs.declared.judge.Judgement.TheVariants.{FormErr, BadSig, BadTime, BadTrunc, Verified}

-- A code is not longer than that of its algorithm, and has at least 10 bytes and at least half of them (section 5.2.2.1).
abbrev pub is_allowed_len : Algorithm → ℕ → Bool
is_allowed_len algorithm len = nat_le len (code_len algorithm) && nat_le 10 len && nat_le (code_len algorithm / 2) len

-- the clock and the time differ by no more than the fudge (section 5.2.3)
abbrev pub is_in_time : ℕ → ℕ → ℕ → Bool
is_in_time time fudge now = nat_le time (now + fudge) && nat_le now (time + fudge)

-- what the code of a received message covers: the former code, the message without its TSIG record, and the record's fields
abbrev pub received_text : Key → List ℕ → List ℕ → ℕ → TsigFields → Coverage → List ℕ
received_text key prior message place tsig coverage =
    prior_bytes prior ++ unsigned_message message place tsig.original_id
    ++ covered coverage key tsig.time tsig.fudge tsig.error tsig.other

-- the bytes of the MAC are the first ones of the code
abbrev pub is_mac_of : List ℕ → List ℕ → Bool
is_mac_of code mac = bytes_eq (take (length mac) code) mac

-- the judgement, by steps in the order of the RFC
abbrev pub judgement : Key → List ℕ → List ℕ → ℕ → TsigFields → Coverage → ℕ → Judgement
judgement key prior message place tsig coverage now =
    if not (is_allowed_len key.algorithm (length tsig.mac)) then FormErr
    else if not (is_mac_of (hmac key.algorithm key.secret.items (received_text key prior message place tsig coverage)) tsig.mac) then BadSig
    else if not (is_in_time tsig.time tsig.fudge now) then BadTime
    else if nat_lt (length tsig.mac) key.least_mac then BadTrunc
    else Verified
