-- Outcomes of questions that hold what a zone answers by rows that stood.
use Rattle.std.specs.Prelude.{◌≡◌, ◌≤◌, ◌==◌, ◌&&◌, ◌||◌, nat_le, nat_lt, not, Bool, true, All, List, [], ◌∷◌, ℕ, None, Ok}
use Rattle.dns_wire.specs.codes.RecordType.{type_number}
use Rattle.dns_wire.specs.declared.codes.record_type.RecordType.{RecordType}
use Rattle.dns_names.specs.Name.{DomainName}
use Rattle.dns_records.specs.Rows.{Rows}
use Rattle.dns_messages.specs.declared.message.Message.{Message}
use Rattle.dns_messages.specs.declared.query.Query.{Query}
use Rattle.dns_messages.specs.declared.response.DnsResponse.{DnsResponse}
use Rattle.dns_messages.specs.declared.response_code.ResponseCode.{ResponseCode}
use Rattle.dns_zone.specs.Answer.{answer}
use Rattle.dns_zone.specs.Rows.{IsZone, ZoneContent}
use Rattle.dns_zone.specs.Serving.{sent_reply}
use Rattle.dns_zone.specs.declared.transport.Transport.{Transport}
use Rattle.stub_cache.specs.Ttl.{TtlConfigContent, bounds_of, positive_range}
use Rattle.stub_client.specs.Handle.{Ask}
use Rattle.stub_client.specs.Origins.{Asked}
use Rattle.stub_client.specs.SpecialNames.{special_answer}
use Rattle.stub_client.specs.declared.special_names.SpecialAnswer.TheVariants.{Ordinary}
use Rattle.stub_link.specs.LinkState.{ServerReply, Version, message_of}
use Rattle.stub_link.specs.Reply.{matches}
use Rattle.stub_laws.specs.history.Stands.{HoldSince, StandAt}

-- ---- plain types

-- Whether claims are made of a type: it is a data type (RFC 6895 section 3.1), 1 to 127 or above 255, and none of CNAME, SOA,
-- SIG, SRV and OPT.
abbrev pub is_plain_number : ℕ → Bool
is_plain_number number =
    ((nat_le 1 number && nat_le number 127) || nat_lt 255 number)
    && not ((number == 5) || ((number == 6) || ((number == 24) || ((number == 33) || (number == 41)))))

-- whether claims are made of a type, which is taken by its number
abbrev pub is_plain : RecordType → Bool
is_plain kind = is_plain_number (type_number kind)

-- the greatest TTL that is kept for records of a type
abbrev pub greatest_ttl : TtlConfigContent → RecordType → ℕ
greatest_ttl config kind = (positive_range (bounds_of config kind)).greatest

-- ---- zones

-- the zone at an origin with these rows
abbrev pub zone_with : DomainName → Rows → ZoneContent
zone_with origin rows = record { origin = origin; rows = rows }

-- each version of the rows is a zone with this origin
abbrev pub AreZones : DomainName → List Version → Type 0
AreZones origin history = All (λ version. IsZone (zone_with origin version.rows)) history

-- ---- answers

-- A message repeats a question and holds exactly the answer of a zone to it: its code, answers and authorities, and no additional
-- record.
pub record HoldsAnswer (zone : ZoneContent) (q : Query) (m : Message) : Type 0 where
  pub queries : m.queries ≡ q ∷ []
  pub code : m.metadata.response_code ≡ (answer zone q).code
  pub answers : m.answers ≡ (answer zone q).answers
  pub authorities : m.authorities ≡ (answer zone q).authorities
  pub additionals : m.additionals ≡ []

-- a message holds the answer of a zone with this origin to a question for a fully qualified name, by rows that stand at a moment
pub record HoldsAnswerAt (origin : DomainName) (history : List Version) (moment : ℕ) (q : Query) (m : Message) : Type 0 where
  pub full : q.name.is_fqdn ≡ true
  pub rows : Rows
  pub stand : StandAt history moment rows
  pub holds : HoldsAnswer (zone_with origin rows) q m

-- If the outcome of a question is a response, this holds what the zone answers by rows that stood when the question was asked.
abbrev pub IsAnsweredBy : DomainName → List Version → Asked → Type 0
IsAnsweredBy origin history asked =
    (response : DnsResponse) → asked.ask.outcome ≡ Ok response
    → HoldsAnswerAt origin history asked.moment asked.ask.question response.message

-- a message holds the answer of a zone with this origin, by rows that hold since earlier versions
pub record HoldsAnswerSince (origin : DomainName) (earlier history : List Version) (q : Query) (m : Message) : Type 0 where
  pub rows : Rows
  pub since : HoldSince earlier history rows
  pub holds : HoldsAnswer (zone_with origin rows) q m

-- A message is the server's reply to a datagram, by rows that stand at a moment and hold since earlier versions: it was made while
-- the question of the datagram was open.
pub record IsMadeFor (origin : DomainName) (earlier history : List Version) (moment : ℕ) (datagram m : Message) : Type 0 where
  pub rows : Rows
  pub transport : Transport
  pub stand : StandAt history moment rows
  pub since : HoldSince earlier history rows
  pub reply : m ≡ sent_reply (zone_with origin rows) transport datagram

-- The code of an update is that of the server's reply to a datagram that matches it, by the zone at the delivery of the datagram.
pub record IsCodeAtDelivery (origin : DomainName) (history : List Version) (now id : ℕ) (code : ResponseCode) : Type 0 where
  pub delivered : ServerReply
  pub limit : ℕ
  pub origin_is : delivered.zone.origin ≡ origin
  pub stand : StandAt history delivered.moment delivered.zone.rows
  pub past : delivered.moment ≤ now
  pub matching : matches id None (message_of limit delivered) ≡ true
  pub code_is : code ≡ (message_of limit delivered).metadata.response_code

-- If the outcome of a question is a response, this holds what the zone answers by rows that hold since earlier versions.
abbrev pub IsAnsweredSince : DomainName → List Version → List Version → Ask → Type 0
IsAnsweredSince origin earlier history ask =
    (response : DnsResponse) → ask.outcome ≡ Ok response → HoldsAnswerSince origin earlier history ask.question response.message

-- no question for a special-use name was sent
abbrev pub AreOrdinary : List Asked → Type 0
AreOrdinary asked = All (λ a. special_answer a.ask.question ≡ Ordinary) asked
