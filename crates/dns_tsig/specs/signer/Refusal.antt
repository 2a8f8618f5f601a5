-- Why a reply is refused, and the errors of TSIG records.
use Rattle.std.specs.Prelude.{ℕ, ◌==◌, if◌then◌else◌, [], length, Option, Some, None}
use Rattle.dns_tsig.specs.TsigFields.{TsigFields}
use Rattle.dns_tsig.specs.declared.client.ReplyVerdict.{ReplyVerdict}
use Rattle.dns_tsig.specs.declared.client.ReplyVerdict.TheVariants as verdicts
use Rattle.dns_tsig.specs.declared.judge.Judgement.{Judgement}
use Rattle.dns_tsig.specs.declared.judge.Judgement.TheVariants as judgements
use Rattle.dns_tsig.specs.declared.signer.refusal.Refusal.{Refusal}
use Rattle.dns_tsig.specs.declared.signer.refusal.Refusal.TheVariants.{Unsigned, Unreadable, OtherKey, Reported, WrongLength, WrongCode, WrongTime, Truncated}
use Rattle.dns_tsig.specs.declared.signer.refusal.TsigError.{TsigError}
use Rattle.dns_tsig.specs.declared.signer.refusal.TsigError.TheVariants.{BadSig, BadKey, BadTime, BadTrunc, Other}

-- the error of a code: 16 is BADSIG, 17 BADKEY, 18 BADTIME and 22 BADTRUNC (RFC 8945 section 3); 0 is none
abbrev pub error_of_code : ℕ → Option TsigError
error_of_code code =
    if code == 0 then None
    else if code == 16 then Some BadSig
    else if code == 17 then Some BadKey
    else if code == 18 then Some BadTime
    else if code == 22 then Some BadTrunc
    else Some (Other code)

-- a TSIG record without a code reports an error of the server, or has no code where one must be
abbrev pub reported : Option TsigError → Refusal
reported (Some error) = Reported error
reported None = WrongLength

-- a code whose length is not allowed: none, with an error of the server, or another (RFC 8945 sections 5.2.2.1 and 5.3.2)
abbrev pub refusal_without_code : TsigFields → Refusal
refusal_without_code tsig = if length tsig.mac == 0 then reported (error_of_code tsig.error) else WrongLength

-- why a reply is refused, by the judgement of its code (RFC 8945 section 5.4)
abbrev pub refusal_by : Judgement → TsigFields → Option Refusal
refusal_by judgements.FormErr tsig = Some (refusal_without_code tsig)
refusal_by judgements.BadSig tsig = Some WrongCode
refusal_by judgements.BadTime tsig = Some WrongTime
refusal_by judgements.BadTrunc tsig = Some Truncated
refusal_by judgements.Verified tsig = None

-- why a reply with a TSIG record is refused, by the verdict on it; it is accepted only if it is verified
abbrev pub refusal_of : ReplyVerdict → TsigFields → Option Refusal
refusal_of verdicts.Unsigned tsig = Some Unsigned
refusal_of verdicts.FormErr tsig = Some Unreadable
refusal_of verdicts.OtherKey tsig = Some OtherKey
refusal_of (verdicts.Judged judgement) tsig = refusal_by judgement tsig
