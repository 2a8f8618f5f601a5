-- Replies that are signed as their requests are, within the sizes that these ask for (RFC 8945 section 5.3).
use Rattle.std.specs.Prelude.{◌≤◌, ◌<◌, length, List, ℕ}
use Rattle.dns_messages.specs.Message.{truncated}
use Rattle.dns_messages.specs.declared.message.Message.{Message}
use Rattle.dns_messages.specs.declared.response_code.ResponseCode.TheVariants as codes
use Rattle.dns_tsig.specs.Reply.{IsReply}
use Rattle.dns_tsig.specs.declared.key.Key.{Key}
use Rattle.dns_tsig.specs.declared.verify.Checked.{Checked}
use Rattle.dns_zone.specs.Request.{IsEncodedReply, reply_without_zone}
use Rattle.dns_zone.specs.Serving.{reply_limit}
use Rattle.dns_zone.specs.declared.transport.Transport.{Transport}
use Rattle.dns_durable.specs.declared.incoming.Terms.{Terms}

-- a reply with the signature that its request calls for
pub record IsSignedAs (keys : List Key) (checked : Checked) (time : ℕ) (plain out : List ℕ) : Type 0 where
  pub code : List ℕ
  pub is_reply : IsReply keys checked.found checked.verdict time plain code out

-- a reply with TC and NOERROR, and with no more than the question
abbrev pub IsTruncatedReply : Transport → Message → List ℕ → Type 0
IsTruncatedReply transport m out = IsEncodedReply (truncated (reply_without_zone m codes.NoError)) transport m out

-- A reply with its signature, if there is room for both. Otherwise a truncated one takes its place, with a signature of its own.
pub data IsSignedWithin (keys : List Key) (checked : Checked) (terms : Terms) (m : Message) (plain : List ℕ) : List ℕ → Type 0 where
  has_room : {out : List ℕ} → IsSignedAs keys checked terms.time plain out → length out ≤ reply_limit terms.transport m
      → IsSignedWithin keys checked terms m plain out
  has_no_room : {out : List ℕ} (whole short : List ℕ) → IsSignedAs keys checked terms.time plain whole
      → reply_limit terms.transport m < length whole → IsTruncatedReply terms.transport m short
      → IsSignedAs keys checked terms.time short out → IsSignedWithin keys checked terms m plain out
