-- Replies of a server whose updates outlast a crash.
use Rattle.std.specs.Prelude.{◌≡◌, ℕ, Bool, true, false, if◌then◌else◌, List, [], ◌∷◌, Option, Some, None}
use Rattle.dns_messages.specs.declared.message.Message.{Message}
use Rattle.dns_messages.specs.declared.response_code.ResponseCode.{ResponseCode}
use Rattle.dns_messages.specs.declared.response_code.ResponseCode.TheVariants as codes
use Rattle.dns_zone.specs.declared.transport.Transport.{Transport}
use Rattle.dns_zone.specs.Request.{IsEncodedReply, reply_without_zone}
use Rattle.dns_zone.specs.Rows.{ZoneContent}
use Rattle.dns_authority.specs.service.Answering.{IsReplyToOther, IsServiceReply}
use Rattle.dns_authority.specs.declared.service.answering.Answering.{Answering}
use Rattle.dns_durable.specs.Incoming.{is_change}
use Rattle.dns_durable.specs.Rule.{step_of}
use Rattle.dns_durable.specs.Signed.{IsSignedWithin}
use Rattle.dns_durable.specs.declared.incoming.Admitted.{Admitted}
use Rattle.dns_durable.specs.declared.incoming.Arrived.{Arrived}
use Rattle.dns_durable.specs.declared.incoming.Arrived.TheVariants.{Request, Other}
use Rattle.dns_durable.specs.declared.policy.Admission.{Admission}
use Rattle.dns_durable.specs.declared.policy.Admission.TheVariants.{Serve, Malformed, NotAuthentic}
use Rattle.dns_durable.specs.declared.policy.Policy.{Policy}

-- whether a request is an update that may be made
abbrev pub makes_change : Admitted → Bool
makes_change a = is_change a.admission a.message.metadata.op_code

-- the zones after a request: only an update that may be made changes them, and only if it is on the disk
abbrev pub zones_left : Answering → Bool → List ZoneContent → Arrived → List ZoneContent
zones_left answering true zones (Request a) = if makes_change a then step_of answering zones a.message else zones
zones_left answering true zones (Other bytes) = zones
zones_left answering false zones a = zones

-- a reply with a response code and without a zone
abbrev pub IsBareReply : ResponseCode → Transport → Message → List ℕ → Type 0
IsBareReply code transport m out = IsEncodedReply (reply_without_zone m code) transport m out

-- the reply to a request that is served, or refused
abbrev pub IsReplyOf : Answering → Admission → List ZoneContent → Transport → Message → List ℕ → Type 0
IsReplyOf answering (Serve updates) zones transport m out = IsServiceReply answering updates zones transport m out
IsReplyOf answering Malformed zones transport m out = IsBareReply codes.FormErr transport m out
IsReplyOf answering NotAuthentic zones transport m out = IsBareReply codes.NotAuth transport m out

-- the reply to a request, by whether it is an update that may be made and is not on the disk: ServFail (RFC 2136 section 3.5)
abbrev pub IsReplyBut : Bool → Answering → Admission → List ZoneContent → Transport → Message → List ℕ → Type 0
IsReplyBut true answering admission zones transport m out = IsBareReply codes.ServFail transport m out
IsReplyBut false answering admission zones transport m out = IsReplyOf answering admission zones transport m out

-- whether a request is an update that may be made, and is not on the disk
abbrev pub is_unstored : Bool → Admitted → Bool
is_unstored true a = false
is_unstored false a = makes_change a

-- the reply to a request, before it is signed, and the zones after it
pub record IsPlainReply (answering : Answering) (stored : Bool) (zones after : List ZoneContent) (a : Admitted)
    (out : List ℕ) : Type 0 where
  pub after_is : after ≡ zones_left answering stored zones (Request a)
  pub replied : IsReplyBut (is_unstored stored a) answering a.admission zones a.incoming.terms.now.transport a.message out

-- the reply to a request, which is signed if the request is, within the size that this asks for
pub record IsSignedReply (policy : Policy) (stored : Bool) (zones after : List ZoneContent) (a : Admitted)
    (out : List ℕ) : Type 0 where
  pub plain : List ℕ
  pub replied : IsPlainReply policy.answering stored zones after a plain
  pub signed : IsSignedWithin policy.keys.items a.checked a.incoming.terms.now a.message plain out

-- each request has a reply; bytes that are not one have none, or FormErr, and change nothing
abbrev pub AnswersOne : Policy → Bool → List ZoneContent → List ZoneContent → Arrived → Option (List ℕ) → Type 0
AnswersOne policy stored zones after (Request a) (Some out) = IsSignedReply policy stored zones after a out
AnswersOne policy stored zones after (Request a) None = ⊥
AnswersOne policy stored zones after (Other bytes) found =
    (after ≡ zones) × IsReplyToOther policy.answering bytes.bytes.now found

-- the replies to requests that are answered one after another, by whether their updates are on the disk
pub data AnswersAll (policy : Policy) (stored : Bool)
    : List ZoneContent → List Arrived → List (Option (List ℕ)) → List ZoneContent → Type 0 where
  no_request : {zones : List ZoneContent} → AnswersAll policy stored zones [] [] zones
  a_request : {zones mid after : List ZoneContent} {a : Arrived} {more : List Arrived}
      {reply : Option (List ℕ)} {replies : List (Option (List ℕ))}
      → AnswersOne policy stored zones mid a reply → AnswersAll policy stored mid more replies after
      → AnswersAll policy stored zones (a ∷ more) (reply ∷ replies) after
