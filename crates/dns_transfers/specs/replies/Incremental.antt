-- Replies to requests for incremental transfers (RFC 1995 sections 2 and 4).
use Rattle.std.specs.Prelude.{◌≡◌, ◌⊎◌, nat_le, length, Bool, true, false, List, [], ◌∷◌, ℕ, Option, Some, None}
use Rattle.dns_transfers.specs.incremental.Messages.{CannotSendDifferences, SendsDifferences}
use Rattle.dns_differences.specs.History.{since}
use Rattle.dns_differences.specs.declared.difference.Difference.{Difference}
use Rattle.dns_messages.specs.declared.message.Message.{Message}
use Rattle.dns_messages.specs.declared.query.Query.{Query}
use Rattle.dns_messages.specs.declared.response_code.ResponseCode.TheVariants.{FormErr, NotAuth, Refused, ServFail}
use Rattle.dns_records.specs.Rows.{rows_of}
use Rattle.dns_zone.specs.Rows.{ZoneContent}
use Rattle.dns_zone.specs.Serving.{reply_limit}
use Rattle.dns_zone.specs.declared.transport.Transport.{Transport}
use Rattle.dns_zone.specs.declared.transport.Transport.TheVariants.{Datagram, Stream}
use Rattle.dns_zone.specs.ZoneSerial.{rows_serial, zone_serial}
use Rattle.dns_transfers.specs.whole.Reply.{IsRefusal, TransfersOrFails}
use Rattle.dns_transfers.specs.whole.Request.{zone_at}
use Rattle.dns_transfers.specs.replies.Request.{incremental_question}
use Rattle.dns_transfers.specs.replies.ZoneHistory.{known_differences}
use Rattle.dns_transfers.specs.declared.replies.zone_history.ZoneHistory.{ZoneHistory}

-- ---- one message

-- whether there is one message, not longer than a limit
abbrev pub fits_alone : ℕ → List (List ℕ) → Bool
fits_alone limit [] = false
fits_alone limit (bytes ∷ []) = nat_le (length bytes) limit
fits_alone limit (bytes ∷ other ∷ more) = false

-- There is one message, with differences that lead to a zone, that has room over the transport. Without differences, it has the SOA record
-- alone.
pub record SendsAlone (zone : ZoneContent) (ds : List Difference) (transport : Transport) (m : Message) (messages : List (List ℕ)) : Type 0 where
  pub sends : SendsDifferences zone ds m messages
  pub fits : fits_alone (reply_limit transport m) messages ≡ true

-- differences have messages, but not one that has room over the transport
pub record AreTooMany (zone : ZoneContent) (ds : List Difference) (transport : Transport) (m : Message) : Type 0 where
  pub messages : List (List ℕ)
  pub sends : SendsDifferences zone ds m messages
  pub fits : fits_alone (reply_limit transport m) messages ≡ false

-- differences have no room in one message
abbrev pub HaveNoRoom : ZoneContent → List Difference → Transport → Message → Type 0
HaveNoRoom zone ds transport m = CannotSendDifferences zone ds m ⊎ AreTooMany zone ds transport m

-- the message, or none exactly if it has no room
abbrev pub TriesAlone : ZoneContent → List Difference → Transport → Message → Option (List (List ℕ)) → Type 0
TriesAlone zone ds transport m None = HaveNoRoom zone ds transport m
TriesAlone zone ds transport m (Some messages) = SendsAlone zone ds transport m messages

-- ---- what the requestor lacks

-- the SOA record alone, or, if it has no room, the code ServFail
abbrev pub StartsOrFails : ZoneContent → Transport → Message → List (List ℕ) → Type 0
StartsOrFails zone transport m messages =
    SendsAlone zone [] transport m messages ⊎ (HaveNoRoom zone [] transport m × IsRefusal m transport ServFail messages)

-- differences, or, if they have no room in one message, the SOA record alone, so that the requestor asks again over a stream
abbrev pub DiffersOrStarts : ZoneContent → List Difference → Transport → Message → List (List ℕ) → Type 0
DiffersOrStarts zone ds transport m messages =
    SendsAlone zone ds transport m messages ⊎ (HaveNoRoom zone ds transport m × StartsOrFails zone transport m messages)

-- differences in as many messages as they need, or, if a record has no room in any, the code ServFail
abbrev pub DiffersOrFails : ZoneContent → List Difference → Transport → Message → List (List ℕ) → Type 0
DiffersOrFails zone ds transport m messages =
    SendsDifferences zone ds m messages ⊎ (CannotSendDifferences zone ds m × IsRefusal m transport ServFail messages)

-- the messages with the differences that the requestor lacks, by the transport
abbrev pub SendsKnown : Transport → ZoneContent → List Difference → Message → List (List ℕ) → Type 0
SendsKnown Stream zone ds m messages = DiffersOrFails zone ds Stream m messages
SendsKnown (Datagram limit) zone ds m messages = DiffersOrStarts zone ds (Datagram limit) m messages

-- the messages if they are not known: the whole zone over a stream (section 4), and otherwise its SOA record alone (section 2)
abbrev pub SendsUnknown : Transport → ZoneContent → Message → List (List ℕ) → Type 0
SendsUnknown Stream zone m messages = TransfersOrFails zone Stream m messages
SendsUnknown (Datagram limit) zone m messages = StartsOrFails zone (Datagram limit) m messages

-- the messages by what the requestor lacks
abbrev pub SendsLacking : Option (List Difference) → ZoneContent → Transport → Message → List (List ℕ) → Type 0
SendsLacking None zone transport m messages = SendsUnknown transport zone m messages
SendsLacking (Some ds) zone transport m messages = SendsKnown transport zone ds m messages

-- ---- the request

-- the messages for the requestor of a version of a zone, by the serial number of the zone
abbrev pub SendsFrom : Option ℕ → ℕ → List Difference → ZoneContent → Transport → Message → List (List ℕ) → Type 0
SendsFrom None serial ds zone transport m messages = StartsOrFails zone transport m messages
SendsFrom (Some current) serial ds zone transport m messages = SendsLacking (since ds current serial) zone transport m messages

-- The messages for a zone, by the serial number that the request states: none is malformed (RFC 1995 section 3).
abbrev pub SendsSince : Option ℕ → List Difference → ZoneContent → Transport → Message → List (List ℕ) → Type 0
SendsSince None ds zone transport m messages = IsRefusal m transport FormErr messages
SendsSince (Some serial) ds zone transport m messages = SendsFrom (zone_serial zone) serial ds zone transport m messages

-- the messages for a zone that may be sent or not
abbrev pub SendsIf : Bool → List Difference → ZoneContent → Transport → Message → List (List ℕ) → Type 0
SendsIf false ds zone transport m messages = IsRefusal m transport Refused messages
SendsIf true ds zone transport m messages = SendsSince (rows_serial (rows_of m.authorities)) ds zone transport m messages

-- the messages for a zone that was found, or not
abbrev pub SendsFound : Option ZoneContent → List ZoneHistory → Transport → Bool → Message → List (List ℕ) → Type 0
SendsFound None histories transport is_permitted m messages = IsRefusal m transport NotAuth messages
SendsFound (Some zone) histories transport is_permitted m messages =
    SendsIf is_permitted (known_differences histories zone.origin) zone transport m messages

-- a request has messages exactly if it is for an incremental transfer
abbrev pub SendsFor : Option Query → List ZoneContent → List ZoneHistory → Transport → Bool → Message → Option (List (List ℕ)) → Type 0
SendsFor None zones histories transport is_permitted m None = Unit {0}
SendsFor None zones histories transport is_permitted m (Some messages) = ⊥
SendsFor (Some q) zones histories transport is_permitted m None = ⊥
SendsFor (Some q) zones histories transport is_permitted m (Some messages) =
    SendsFound (zone_at zones q) histories transport is_permitted m messages

-- the messages of the reply to a request for an incremental transfer; none to another
abbrev pub SendsIncremental : List ZoneContent → List ZoneHistory → Transport → Bool → Message → Option (List (List ℕ)) → Type 0
SendsIncremental zones histories transport is_permitted m found =
    SendsFor (incremental_question m) zones histories transport is_permitted m found
