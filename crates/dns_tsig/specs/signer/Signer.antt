-- The requestor's side of TSIG (RFC 8945 sections 5.1 and 5.4).
use Rattle.std.specs.Prelude.{◌≡◌, ℕ, List, [], Option, Some, None, Result, Ok, Err}
use Rattle.dns_tsig.specs.Client.{judged}
use Rattle.dns_tsig.specs.Found.{Finds}
use Rattle.dns_tsig.specs.Sign.{IsSigned}
use Rattle.dns_tsig.specs.declared.covered.Coverage.TheVariants.{Variables}
use Rattle.dns_tsig.specs.declared.found.Found.{Found}
use Rattle.dns_tsig.specs.declared.found.Found.TheVariants as found
use Rattle.dns_tsig.specs.declared.found.Signature.{Signature}
use Rattle.dns_tsig.specs.declared.key.Key.{Key}
use Rattle.dns_tsig.specs.signer.Plain.{plain_message}
use Rattle.dns_tsig.specs.signer.Refusal.{error_of_code, refusal_of}
use Rattle.dns_tsig.specs.declared.signer.refusal.Refusal.{Refusal}
use Rattle.dns_tsig.specs.declared.signer.refusal.Refusal.TheVariants.{Unsigned, Unreadable}
use Rattle.dns_tsig.specs.declared.signer.refusal.TsigError.{TsigError}
use Rattle.dns_tsig.specs.declared.signer.signer.Accepted.{Accepted}

-- A request is sent with a TSIG record that covers it, at a time, with a fudge of 300 seconds (RFC 8945 sections 5.1 and 10).
abbrev pub SignsRequest : Key → List ℕ → ℕ → List ℕ → List ℕ → Type 0
SignsRequest key request now code signed = IsSigned key [] request Variables now 300 0 [] code signed

-- an accepted reply by its bytes, and the error that it reports
pub record AcceptedBytes : Type 0 where
  pub message : List ℕ
  pub error : Option TsigError

-- an accepted reply, by its bytes
abbrev pub accepted_bytes : Accepted → AcceptedBytes
accepted_bytes accepted = record { message = accepted.message.items; error = accepted.error }

-- what becomes of a reply, by its bytes
abbrev pub checked_bytes : Result Accepted Refusal → Result AcceptedBytes Refusal
checked_bytes (Ok accepted) = Ok (accepted_bytes accepted)
checked_bytes (Err refusal) = Err refusal

-- the reply without its TSIG record, with the error that this reports
abbrev pub signed_bytes : List ℕ → Signature → AcceptedBytes
signed_bytes reply signature = record {
  message = plain_message reply signature.place;
  error = error_of_code signature.tsig.error;
}

-- a reply with a TSIG record is refused for a reason, or accepted
abbrev pub outcome_by : Option Refusal → List ℕ → Signature → Result AcceptedBytes Refusal
outcome_by (Some refusal) reply signature = Err refusal
outcome_by None reply signature = Ok (signed_bytes reply signature)

-- What becomes of a reply, by what it has of TSIG records: one that is not signed, or not by the key for the request with this code,
-- is refused (RFC 8945 section 5.4).
abbrev pub outcome_of : Key → List ℕ → List ℕ → ℕ → Found → Result AcceptedBytes Refusal
outcome_of key code reply now found.Unsigned = Err Unsigned
outcome_of key code reply now found.Malformed = Err Unreadable
outcome_of key code reply now (found.Signed signature) =
    outcome_by (refusal_of (judged key code reply signature Variables now) signature.tsig) reply signature

-- what becomes of a reply to the request with this code
pub record Checks (key : Key) (code reply : List ℕ) (now : ℕ) (outcome : Result AcceptedBytes Refusal) : Type 0 where
  pub record_found : Found
  pub finds : Finds reply record_found
  pub outcome_is : outcome ≡ outcome_of key code reply now record_found
