-- Accepted replies are verified.
use Rattle.std.proofs.Common.{◌≡◌, ℕ, Bool, true, false, cond, not, List, Option, Some, None, Result, Ok, refl}
use Rattle.std.specs.Prelude.{nat_lt, length}
use Rattle.dns_tsig.specs.hmac.Hmac.{hmac}
use Rattle.dns_tsig.specs.Client.{judged}
use Rattle.dns_tsig.specs.Found.{Finds}
use Rattle.dns_tsig.specs.Judge.{is_allowed_len, is_in_time, is_mac_of, judgement, received_text}
use Rattle.dns_tsig.specs.TsigFields.{TsigFields}
use Rattle.dns_tsig.specs.Verify.{is_key_of}
use Rattle.dns_tsig.specs.declared.client.ReplyVerdict.TheVariants as verdicts
use Rattle.dns_tsig.specs.declared.covered.Coverage.TheVariants.{Variables}
use Rattle.dns_tsig.specs.declared.found.Found.{Found}
use Rattle.dns_tsig.specs.declared.found.Found.TheVariants as found
use Rattle.dns_tsig.specs.declared.found.Signature.{Signature}
use Rattle.dns_tsig.specs.declared.judge.Judgement.{Judgement}
use Rattle.dns_tsig.specs.declared.judge.Judgement.TheVariants as judgements
use Rattle.dns_tsig.specs.declared.key.Key.{Key}
use Rattle.dns_tsig.specs.signer.Refusal.{refusal_by, refusal_of}
use Rattle.dns_tsig.specs.signer.Signer.{AcceptedBytes, Checks, outcome_by, outcome_of, signed_bytes}
use Rattle.dns_tsig.specs.signer.Verified.{IsVerified}
use Rattle.dns_tsig.specs.declared.signer.refusal.Refusal.{Refusal}

-- the four tests of a judgement
record Tests (mac short time : Bool) : Type 0 where
  is_mac : mac ≡ true
  is_whole : short ≡ false
  is_timely : time ≡ true

tests : (allowed mac time short : Bool)
    → cond (not allowed) judgements.FormErr (cond (not mac) judgements.BadSig (cond (not time) judgements.BadTime (cond short judgements.BadTrunc judgements.Verified))) ≡ judgements.Verified
    → Tests mac short time
tests false mac time short e = absurd (cc)
tests true false time short e = absurd (cc)
tests true true false short e = absurd (cc)
tests true true true true e = absurd (cc)
tests true true true false e = record { is_mac = refl; is_whole = refl; is_timely = refl }

-- a judgement for which nothing is refused is that of a verified reply
verified : (tsig : TsigFields) (j : Judgement) → refusal_by j tsig ≡ None → j ≡ judgements.Verified
verified tsig judgements.FormErr e = absurd (cc)
verified tsig judgements.BadSig e = absurd (cc)
verified tsig judgements.BadTime e = absurd (cc)
verified tsig judgements.BadTrunc e = absurd (cc)
verified tsig judgements.Verified e = refl

-- a reply is of the key, and its judgement is that of a verified one
record OfKey (same : Bool) (j : Judgement) : Type 0 where
  is_same : same ≡ true
  is_verified : j ≡ judgements.Verified

of_key : (b : Bool) (j : Judgement) (tsig : TsigFields) → refusal_of (cond b (verdicts.Judged j) verdicts.OtherKey) tsig ≡ None → OfKey b j
of_key false j tsig e = absurd (cc)
of_key true j tsig e = record { is_same = refl; is_verified = verified tsig j e }

-- nothing was refused, and the reply is handed on as it was before it was signed
record Passed (refusal : Option Refusal) (reply : List ℕ) (signature : Signature) (accepted : AcceptedBytes) : Type 0 where
  none : refusal ≡ None
  same : accepted ≡ signed_bytes reply signature

-- an outcome that is accepted
abbrev accepting : AcceptedBytes → Result AcceptedBytes Refusal
accepting accepted = Ok accepted

ok_same : (a b : AcceptedBytes) → accepting a ≡ accepting b → a ≡ b
ok_same a b e = cc

passed : (refusal : Option Refusal) (reply : List ℕ) (signature : Signature) (accepted : AcceptedBytes) → accepting accepted ≡ outcome_by refusal reply signature → Passed refusal reply signature accepted
passed (Some refusal) reply signature accepted e = absurd (cc)
passed None reply signature accepted e = record { none = refl; same = ok_same accepted (signed_bytes reply signature) e }

by_found : (key : Key) (code reply : List ℕ) (now : ℕ) (accepted : AcceptedBytes) (f : Found) → Finds reply f → accepting accepted ≡ outcome_of key code reply now f → IsVerified key code reply now accepted
by_found key code reply now accepted found.Unsigned finds e = absurd (cc)
by_found key code reply now accepted found.Malformed finds e = absurd (cc)
by_found key code reply now accepted (found.Signed signature) finds e =
    let p : Passed (refusal_of (judged key code reply signature Variables now) signature.tsig) reply signature accepted = passed _ reply signature accepted e in
    let k : OfKey (is_key_of key signature) (judgement key code reply signature.place signature.tsig Variables now) = of_key _ _ signature.tsig p.none in
    let t = tests (is_allowed_len key.algorithm (length signature.tsig.mac))
    (is_mac_of (hmac key.algorithm key.secret.items (received_text key code reply signature.place signature.tsig Variables)) signature.tsig.mac)
    (is_in_time signature.tsig.time signature.tsig.fudge now) (nat_lt (length signature.tsig.mac) key.least_mac) k.is_verified in
    record {
      signature = signature;
      last = finds;
      accepted_is = p.same;
      of_key = k.is_same;
      mac = t.is_mac;
      whole = t.is_whole;
      in_time = t.is_timely;
    }

pub accepted-verified : (key : Key) (code reply : List ℕ) (now : ℕ) (accepted : AcceptedBytes) → Checks key code reply now (Ok accepted) → IsVerified key code reply now accepted
accepted-verified key code reply now accepted c = by_found key code reply now accepted c.record_found c.finds c.outcome_is
