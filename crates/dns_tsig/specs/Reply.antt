-- Signing of replies, by the verdicts on their requests (RFC 8945 sections 5.2 and 5.3).
use Rattle.std.specs.Prelude.{◌≡◌, ℕ, List, [], drop, slice_get, IsSomeAnd, Option, Some, None}
use Rattle.std.specs.Int.{w64, to_be_bytes}
use Rattle.dns_tsig.specs.Numbers.{number_at}
use Rattle.dns_tsig.specs.Record.{tsig_data, tsig_record, with_record}
use Rattle.dns_tsig.specs.Sign.{IsSigned, refusal_of}
use Rattle.dns_tsig.specs.declared.error.SignError.{SignError}
use Rattle.dns_tsig.specs.declared.error.SignError.TheVariants.{NoKey}
use Rattle.dns_tsig.specs.declared.key.Key.{Key}
use Rattle.dns_tsig.specs.declared.covered.Coverage.TheVariants.{Variables}
use Rattle.dns_tsig.specs.declared.found.Signature.{Signature}
use Rattle.dns_tsig.specs.declared.found.Found.{Found}
use Rattle.dns_tsig.specs.declared.found.Found.TheVariants as found
use Rattle.dns_tsig.specs.declared.verify.Verdict.{Verdict}
use Rattle.dns_tsig.specs.declared.verify.Verdict.TheVariants as verdicts

-- the reply has no TSIG record
pub record IsUnsigned (old code new : List ℕ) : Type 0 where
  pub no_code : code ≡ []
  pub same : new ≡ old

-- The reply has a TSIG record without a code, with the name, the algorithm, the time and the fudge of the request.
pub record IsBare (signature : Signature) (error : ℕ) (old code new : List ℕ) : Type 0 where
  pub no_code : code ≡ []
  pub message_is : new ≡ with_record old (tsig_record signature.name.items
      (tsig_data signature.tsig.algorithm signature.tsig.time signature.tsig.fudge [] (number_at old 0) error []))

-- the reply is signed with the key at an index, and covers the MAC of the request
abbrev pub IsSignedAt : List Key → ℕ → List ℕ → List ℕ → ℕ → ℕ → ℕ → List ℕ → List ℕ → List ℕ → Type 0
IsSignedAt keys index mac old time fudge error other code new =
    IsSomeAnd (slice_get keys index) (λ key. IsSigned key mac old Variables time fudge error other code new)

-- The reply to a request with a TSIG record. BADSIG is 16, BADKEY 17, BADTIME 18 and BADTRUNC 22; a fudge of 300 seconds is
-- recommended (section 10).
abbrev pub SignsReply : List Key → Signature → Verdict → ℕ → List ℕ → List ℕ → List ℕ → Type 0
SignsReply keys signature (verdicts.Verified index) now old code new = IsSignedAt keys index signature.tsig.mac old now 300 0 [] code new
SignsReply keys signature (verdicts.BadTrunc index) now old code new = IsSignedAt keys index signature.tsig.mac old now 300 22 [] code new
SignsReply keys signature (verdicts.BadTime index) now old code new =
    IsSignedAt keys index signature.tsig.mac old signature.tsig.time signature.tsig.fudge 18 (drop 2 (to_be_bytes w64 now)) code new
SignsReply keys signature (verdicts.BadSig index) now old code new = IsBare signature 16 old code new
SignsReply keys signature verdicts.BadKey now old code new = IsBare signature 17 old code new
SignsReply keys signature verdicts.FormErr now old code new = IsUnsigned old code new
SignsReply keys signature verdicts.Unsigned now old code new = IsUnsigned old code new

-- the reply to a request
abbrev pub IsReply : List Key → Found → Verdict → ℕ → List ℕ → List ℕ → List ℕ → Type 0
IsReply keys (found.Signed signature) verdict now old code new = SignsReply keys signature verdict now old code new
IsReply keys found.Unsigned verdict now old code new = IsUnsigned old code new
IsReply keys found.Malformed verdict now old code new = IsUnsigned old code new

-- ---- replies that cannot be signed

-- why a reply cannot be signed with a key, if there is one
abbrev pub refusal_with : Option Key → List ℕ → Option SignError
refusal_with None old = Some NoKey
refusal_with (Some key) old = refusal_of old

-- why the reply to a request with a TSIG record cannot be signed
abbrev pub verdict_refusal : List Key → Verdict → List ℕ → Option SignError
verdict_refusal keys (verdicts.Verified index) old = refusal_with (slice_get keys index) old
verdict_refusal keys (verdicts.BadTrunc index) old = refusal_with (slice_get keys index) old
verdict_refusal keys (verdicts.BadTime index) old = refusal_with (slice_get keys index) old
verdict_refusal keys (verdicts.BadSig index) old = refusal_of old
verdict_refusal keys verdicts.BadKey old = refusal_of old
verdict_refusal keys verdicts.FormErr old = None
verdict_refusal keys verdicts.Unsigned old = None

-- why the reply to a request cannot be signed
abbrev pub reply_refusal : List Key → Found → Verdict → List ℕ → Option SignError
reply_refusal keys (found.Signed signature) verdict old = verdict_refusal keys verdict old
reply_refusal keys found.Unsigned verdict old = None
reply_refusal keys found.Malformed verdict old = None
