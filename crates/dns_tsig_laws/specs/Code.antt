-- What it means that a request is verified (RFC 8945 section 5.2).
use Rattle.std.specs.Prelude.{◌≡◌, ℕ, true, false, nat_lt, List, [], length, slice_get, Some}
use Rattle.dns_tsig.specs.hmac.Hmac.{hmac}
use Rattle.dns_tsig.specs.Judge.{is_allowed_len, is_in_time, is_mac_of, received_text}
use Rattle.dns_tsig.specs.Verify.{is_key_of}
use Rattle.dns_tsig.specs.declared.covered.Coverage.TheVariants.{Variables}
use Rattle.dns_tsig.specs.declared.found.Signature.{Signature}
use Rattle.dns_tsig.specs.declared.key.Key.{Key}

-- the code that the holder of a key makes for a request with a TSIG record (section 4.3)
abbrev pub request_code : Key → List ℕ → Signature → List ℕ
request_code key request found =
    hmac key.algorithm key.secret.items (received_text key [] request found.place found.tsig Variables)

-- A request was signed by a holder of the key at an index, within the fudge of a time: its TSIG record has the name and the algorithm of
-- the key, and its MAC is the code, or as many of its first bytes as the key allows.
pub record IsOfHolder (keys : List Key) (index : ℕ) (request : List ℕ) (found : Signature) (now : ℕ) : Type 0 where
  pub key : Key
  pub there : slice_get keys index ≡ Some key
  pub of_key : is_key_of key found ≡ true
  pub allowed : is_allowed_len key.algorithm (length found.tsig.mac) ≡ true
  pub mac : is_mac_of (request_code key request found) found.tsig.mac ≡ true
  pub in_time : is_in_time found.tsig.time found.tsig.fudge now ≡ true
  pub whole : nat_lt (length found.tsig.mac) key.least_mac ≡ false
