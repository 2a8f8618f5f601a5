-- The side of clients (RFC 8945 section 5.4).
use Rattle.std.specs.Prelude.{ℕ, if◌then◌else◌, List}
use Rattle.dns_tsig.specs.Judge.{judgement}
use Rattle.dns_tsig.specs.Verify.{is_key_of}
use Rattle.dns_tsig.specs.declared.key.Key.{Key}
use Rattle.dns_tsig.specs.declared.covered.Coverage.{Coverage}
use Rattle.dns_tsig.specs.declared.found.Signature.{Signature}
use Rattle.dns_tsig.specs.declared.found.Found.{Found}
use Rattle.dns_tsig.specs.declared.found.Found.TheVariants as found
use Rattle.dns_tsig.specs.declared.client.ReplyVerdict.{ReplyVerdict}
use Rattle.dns_tsig.specs.declared.client.ReplyVerdict.TheVariants.{Unsigned, FormErr, OtherKey, Judged}

-- by whom a reply with a TSIG record was signed
abbrev pub judged : Key → List ℕ → List ℕ → Signature → Coverage → ℕ → ReplyVerdict
judged key prior reply signature coverage now =
    if is_key_of key signature then Judged (judgement key prior reply signature.place signature.tsig coverage now) else OtherKey

-- by whom a reply was signed
abbrev pub reply_verdict : Key → List ℕ → List ℕ → Found → Coverage → ℕ → ReplyVerdict
reply_verdict key prior reply found.Unsigned coverage now = Unsigned
reply_verdict key prior reply found.Malformed coverage now = FormErr
reply_verdict key prior reply (found.Signed signature) coverage now = judged key prior reply signature coverage now
