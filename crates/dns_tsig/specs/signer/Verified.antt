-- What it means that a reply is accepted (RFC 8945 sections 5.2 to 5.4).
use Rattle.std.specs.Prelude.{◌≡◌, ℕ, true, false, nat_lt, List, length}
use Rattle.dns_tsig.specs.hmac.Hmac.{hmac}
use Rattle.dns_tsig.specs.Found.{IsSignature}
use Rattle.dns_tsig.specs.Judge.{is_in_time, is_mac_of, received_text}
use Rattle.dns_tsig.specs.Verify.{is_key_of}
use Rattle.dns_tsig.specs.declared.covered.Coverage.TheVariants.{Variables}
use Rattle.dns_tsig.specs.declared.found.Signature.{Signature}
use Rattle.dns_tsig.specs.declared.key.Key.{Key}
use Rattle.dns_tsig.specs.signer.Signer.{AcceptedBytes, signed_bytes}

-- the code that the holder of a key makes for a reply to the request with a code: it covers that code, the reply before it was signed,
-- and the fields of its TSIG record (RFC 8945 section 4.3)
abbrev pub reply_code : Key → List ℕ → List ℕ → Signature → List ℕ
reply_code key code reply signature =
    hmac key.algorithm key.secret.items (received_text key code reply signature.place signature.tsig Variables)

-- A reply was signed by a holder of a key, for the request with a code, within the fudge of a time.
pub record IsVerified (key : Key) (code reply : List ℕ) (now : ℕ) (accepted : AcceptedBytes) : Type 0 where
  pub signature : Signature
  pub last : IsSignature reply signature
  pub accepted_is : accepted ≡ signed_bytes reply signature
  pub of_key : is_key_of key signature ≡ true
  pub mac : is_mac_of (reply_code key code reply signature) signature.tsig.mac ≡ true
  pub whole : nat_lt (length signature.tsig.mac) key.least_mac ≡ false
  pub in_time : is_in_time signature.tsig.time signature.tsig.fudge now ≡ true
