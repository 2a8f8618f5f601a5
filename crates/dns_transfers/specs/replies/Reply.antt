-- Replies to requests for transfers, by their signatures (RFC 5936, RFC 1995, RFC 8945 sections 5.2 and 5.3).
use Rattle.std.specs.Prelude.{◌≡◌, ◌⊎◌, ◌==◌, ◌&&◌, ◌||◌, not, is_some, slice_get, Bool, true, false, List, [], ◌∷◌, ℕ, Option, Some, None}
use Rattle.dns_messages.specs.declared.header.Metadata.{Metadata}
use Rattle.dns_messages.specs.declared.message.Message.{Message}
use Rattle.dns_messages.specs.declared.op_code.OpCode.{OpCode}
use Rattle.dns_messages.specs.declared.op_code.OpCode.TheVariants as ops
use Rattle.dns_messages.specs.declared.response_code.ResponseCode.{ResponseCode}
use Rattle.dns_messages.specs.declared.response_code.ResponseCode.TheVariants.{FormErr, NotAuth, ServFail}
use Rattle.dns_tsig.specs.Found.{Finds}
use Rattle.dns_tsig.specs.Reply.{IsReply as IsSignedReply}
use Rattle.dns_tsig.specs.Verify.{verdict_of}
use Rattle.dns_tsig.specs.declared.covered.Coverage.TheVariants.{Variables}
use Rattle.dns_tsig.specs.declared.found.Found.{Found}
use Rattle.dns_tsig.specs.declared.found.Found.TheVariants as found
use Rattle.dns_tsig.specs.declared.key.Key.{Key}
use Rattle.dns_tsig.specs.declared.verify.Checked.{Checked}
use Rattle.dns_tsig.specs.declared.verify.Verdict.{Verdict}
use Rattle.dns_tsig.specs.declared.verify.Verdict.TheVariants as verdicts
use Rattle.dns_zone.specs.Request.{reply_without_zone, DecodesRequest, IsEncodedReply}
use Rattle.dns_zone.specs.Rows.{ZoneContent}
use Rattle.dns_zone.specs.declared.transport.Transport.{Transport}
use Rattle.dns_zone.specs.declared.transport.Transport.TheVariants.{Datagram, Stream}
use Rattle.dns_transfers.specs.whole.Reply.{IsReply}
use Rattle.dns_transfers.specs.whole.Request.{is_transfer}
use Rattle.dns_transfers.specs.replies.Incremental.{SendsIncremental}
use Rattle.dns_transfers.specs.replies.Request.{incremental_question}
use Rattle.dns_transfers.specs.replies.Signing.{GetsFull, SignsEach}
use Rattle.dns_transfers.specs.declared.replies.reply.Terms.{Terms}
use Rattle.dns_transfers.specs.declared.replies.zone_history.ZoneHistory.{ZoneHistory}

-- whether a request is for a transfer, whole or incremental
abbrev pub asks_for_transfer : Message → Bool
asks_for_transfer m = is_transfer m || is_some (incremental_question m)

-- the code with which a request is refused for its TSIG record (RFC 8945 section 5.2)
abbrev pub refusal_of : Verdict → Option ResponseCode
refusal_of verdicts.Unsigned = None
refusal_of (verdicts.Verified index) = None
refusal_of verdicts.FormErr = Some FormErr
refusal_of verdicts.BadKey = Some NotAuth
refusal_of (verdicts.BadSig index) = Some NotAuth
refusal_of (verdicts.BadTime index) = Some NotAuth
refusal_of (verdicts.BadTrunc index) = Some NotAuth

-- the messages of the reply to a request, by whether it is for a whole transfer
abbrev pub SendsBy : Bool → List ZoneContent → List ZoneHistory → Transport → Bool → Message → Option (List (List ℕ)) → Type 0
SendsBy true zones histories transport is_permitted m None = ⊥
SendsBy true zones histories transport is_permitted m (Some messages) = IsReply zones transport is_permitted m messages
SendsBy false zones histories transport is_permitted m found = SendsIncremental zones histories transport is_permitted m found

-- the messages of the reply to a request for a transfer, before they are signed; none to another request
abbrev pub SendsPlain : List ZoneContent → List ZoneHistory → Transport → Bool → Message → Option (List (List ℕ)) → Type 0
SendsPlain zones histories transport is_permitted m found =
    SendsBy (is_transfer m) zones histories transport is_permitted m found

-- the histories, unless the reply is signed
abbrev pub unless_signed : Verdict → List ZoneHistory → List ZoneHistory
unless_signed (verdicts.Verified index) histories = []
unless_signed other histories = histories

-- The histories by which a request is answered: none in a datagram that is signed, where a signature follows the message that has to
-- fit.
abbrev pub histories_for : Transport → Verdict → List ZoneHistory → List ZoneHistory
histories_for Stream verdict histories = histories
histories_for (Datagram limit) verdict histories = unless_signed verdict histories

-- one message, with a code and no records, signed as the request allows
pub record IsSignedRefusal (keys : List Key) (checked : Checked) (time : ℕ) (transport : Transport) (m : Message)
    (code : ResponseCode) (out : List ℕ) : Type 0 where
  pub plain : List ℕ
  pub mac : List ℕ
  pub refuses : IsEncodedReply (reply_without_zone m code) transport m plain
  pub signed : IsSignedReply keys checked.found checked.verdict time plain mac out

-- that message alone
abbrev pub IsSignedAlone : List Key → Checked → ℕ → Transport → Message → ResponseCode → List (List ℕ) → Type 0
IsSignedAlone keys checked time transport m code [] = ⊥
IsSignedAlone keys checked time transport m code (out ∷ []) = IsSignedRefusal keys checked time transport m code out
IsSignedAlone keys checked time transport m code (out ∷ other ∷ more) = ⊥

-- the key whose holder signed a request
abbrev pub verified_key : List Key → Verdict → Option Key
verified_key keys (verdicts.Verified index) = slice_get keys index
verified_key keys verdict = None

-- the code of a request, or none
abbrev pub code_of_request : Found → List ℕ
code_of_request (found.Signed signature) = signature.tsig.mac
code_of_request other = []

-- The messages of a reply, of which each is signed with the key of the request (RFC 8945 section 5.3.1). If one of them has no room
-- for a signature, one with the code ServFail takes the place of all.
abbrev pub SignsWith : Option Key → List Key → Checked → ℕ → Transport → Message → List (List ℕ) → List (List ℕ) → Type 0
SignsWith None keys checked time transport m plain out = out ≡ plain
SignsWith (Some key) keys checked time transport m plain out =
    SignsEach key time (code_of_request checked.found) Variables plain out
    ⊎ (GetsFull key time (code_of_request checked.found) Variables plain × IsSignedAlone keys checked time transport m ServFail out)

-- the messages of the reply to a request that is not refused for its TSIG record
abbrev pub SendsSigned : List ZoneContent → List ZoneHistory → List Key → Checked → Terms → Message → Option (List (List ℕ)) → Type 0
SendsSigned zones histories keys checked terms m None =
    SendsPlain zones (histories_for terms.transport checked.verdict histories) terms.transport terms.is_permitted m None
SendsSigned zones histories keys checked terms m (Some out) =
    (plain : List (List ℕ))
    × (SendsPlain zones (histories_for terms.transport checked.verdict histories) terms.transport terms.is_permitted m (Some plain)
    × SignsWith (verified_key keys checked.verdict) keys checked terms.time terms.transport m plain out)

-- the messages of the reply to a request for a transfer, by the code with which it is refused for its TSIG record
abbrev pub SendsChecked : Option ResponseCode → List ZoneContent → List ZoneHistory → List Key → Checked → Terms → Message
    → Option (List (List ℕ)) → Type 0
SendsChecked None zones histories keys checked terms m sent = SendsSigned zones histories keys checked terms m sent
SendsChecked (Some code) zones histories keys checked terms m None = ⊥
SendsChecked (Some code) zones histories keys checked terms m (Some out) =
    IsSignedAlone keys checked terms.time terms.transport m code out

-- what is checked of the bytes of a request, and the messages of its reply
pub record RepliesChecked (zones : List ZoneContent) (histories : List ZoneHistory) (keys : List Key) (terms : Terms)
    (bytes : List ℕ) (m : Message) (sent : Option (List (List ℕ))) : Type 0 where
  pub checked : Checked
  pub found : Finds bytes checked.found
  pub verdict : checked.verdict ≡ verdict_of keys bytes checked.found terms.time
  pub sends : SendsChecked (refusal_of checked.verdict) zones histories keys checked terms m sent

-- the messages of the reply to a request, if it is for a transfer
abbrev pub RepliesIf : Bool → List ZoneContent → List ZoneHistory → List Key → Terms → List ℕ → Message → Option (List (List ℕ))
    → Type 0
RepliesIf false zones histories keys terms bytes m sent = sent ≡ None
RepliesIf true zones histories keys terms bytes m sent = RepliesChecked zones histories keys terms bytes m sent

-- the messages of the reply to a request, if bytes are one
abbrev pub RepliesFor : Option Message → List ZoneContent → List ZoneHistory → List Key → Terms → List ℕ → Option (List (List ℕ))
    → Type 0
RepliesFor None zones histories keys terms bytes sent = sent ≡ None
RepliesFor (Some m) zones histories keys terms bytes sent =
    RepliesIf (asks_for_transfer m) zones histories keys terms bytes m sent

-- the messages of the reply to bytes
pub record Replies (zones : List ZoneContent) (histories : List ZoneHistory) (keys : List Key) (terms : Terms) (bytes : List ℕ)
    (sent : Option (List (List ℕ))) : Type 0 where
  pub request : Option Message
  pub decodes : DecodesRequest bytes request
  pub sends : RepliesFor request zones histories keys terms bytes sent

-- the opcode is QUERY
abbrev pub is_query : OpCode → Bool
is_query ops.Query = true
is_query other = false

-- the header is that of a query
abbrev pub has_query : Option Metadata → Bool
has_query None = false
has_query (Some m) = is_query m.op_code

-- whether the header states records in the authority section (RFC 1035 section 4.1.1)
abbrev pub has_authorities : List ℕ → Bool
has_authorities (a ∷ b ∷ c ∷ d ∷ e ∷ f ∷ g ∷ h ∷ high ∷ low ∷ more) = not ((high == 0) && (low == 0))
has_authorities bytes = false
