-- Replies to requests for transfers of zones (RFC 5936 section 2.2).
use Rattle.std.specs.Prelude.{◌≡◌, ◌⊎◌, Bool, true, false, is_some, List, [], ◌∷◌, ℕ, Option, Some, None}
use Rattle.dns_messages.specs.declared.query.Query.{Query}
use Rattle.dns_messages.specs.declared.message.Message.{Message}
use Rattle.dns_messages.specs.declared.response_code.ResponseCode.{ResponseCode}
use Rattle.dns_messages.specs.declared.response_code.ResponseCode.TheVariants.{ServFail}
use Rattle.dns_records.specs.RecordSet.{RecordSetValue}
use Rattle.dns_transfers.specs.Sending.{start, CannotSend, SendsAll}
use Rattle.dns_zone.specs.Lookup.{AreSetsOf}
use Rattle.dns_zone.specs.Request.{reply_without_zone, IsEncodedReply, IsRequest}
use Rattle.dns_zone.specs.Rows.{ZoneContent}
use Rattle.dns_zone.specs.declared.transport.Transport.{Transport}
use Rattle.dns_transfers.specs.whole.Request.{asked_by, is_transfer, refusal, zone_at}
use Rattle.dns_transfers.specs.whole.ZoneRecords.{transfer_records}

-- one message, with a code and no records
abbrev pub IsRefusal : Message → Transport → ResponseCode → List (List ℕ) → Type 0
IsRefusal m transport code [] = ⊥
IsRefusal m transport code (bytes ∷ []) = IsEncodedReply (reply_without_zone m code) transport m bytes
IsRefusal m transport code (bytes ∷ other ∷ more) = ⊥

-- the messages have the records of a zone, in the order of a transfer
pub record IsTransfer (zone : ZoneContent) (m : Message) (messages : List (List ℕ)) : Type 0 where
  pub sets : List RecordSetValue
  pub of_zone : AreSetsOf zone sets
  pub sends : SendsAll (start m (transfer_records zone.origin sets)) messages

-- a record of a zone has no room in a message of its transfer
pub record HasNoRoom (zone : ZoneContent) (m : Message) : Type 0 where
  pub sets : List RecordSetValue
  pub of_zone : AreSetsOf zone sets
  pub stuck : CannotSend (start m (transfer_records zone.origin sets))

-- the messages of a transfer, or, if a record has no room in a message, the one with the code ServFail
abbrev pub TransfersOrFails : ZoneContent → Transport → Message → List (List ℕ) → Type 0
TransfersOrFails zone transport m messages =
    IsTransfer zone m messages ⊎ (HasNoRoom zone m × IsRefusal m transport ServFail messages)

-- the messages for a zone that was found, or not, unless the transfer is refused
abbrev pub IsReplyBy : Option ResponseCode → Option ZoneContent → Transport → Message → List (List ℕ) → Type 0
IsReplyBy (Some code) found transport m messages = IsRefusal m transport code messages
IsReplyBy None None transport m messages = ⊥
IsReplyBy None (Some zone) transport m messages = TransfersOrFails zone transport m messages

-- the messages that reply to a question for a transfer
abbrev pub IsReplyFor : Option Query → List ZoneContent → Transport → Bool → Message → List (List ℕ) → Type 0
IsReplyFor None zones transport is_permitted m messages = ⊥
IsReplyFor (Some q) zones transport is_permitted m messages =
    IsReplyBy (refusal transport is_permitted (is_some (zone_at zones q))) (zone_at zones q) transport m messages

-- the messages that reply to a request for a transfer
abbrev pub IsReply : List ZoneContent → Transport → Bool → Message → List (List ℕ) → Type 0
IsReply zones transport is_permitted m messages =
    IsReplyFor (asked_by m.metadata.op_code m.queries) zones transport is_permitted m messages

-- a request has messages exactly if it is for a transfer
abbrev pub TransfersTo : List ZoneContent → Transport → Bool → Message → Option (List (List ℕ)) → Type 0
TransfersTo zones transport is_permitted m None = is_transfer m ≡ false
TransfersTo zones transport is_permitted m (Some messages) =
    (is_transfer m ≡ true) × IsReply zones transport is_permitted m messages

-- bytes have messages exactly if they are a request for a transfer
abbrev pub Transfers : List ZoneContent → Transport → Bool → List ℕ → Option (List (List ℕ)) → Type 0
Transfers zones transport is_permitted bytes None = (m : Message) → IsRequest bytes m → is_transfer m ≡ false
Transfers zones transport is_permitted bytes (Some messages) =
    (m : Message) × (IsRequest bytes m × ((is_transfer m ≡ true) × IsReply zones transport is_permitted m messages))
