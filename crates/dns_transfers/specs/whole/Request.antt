-- Requests for transfers of zones, and why they are refused (RFC 5936 sections 2.1, 2.2.1 and 4.2).
use Rattle.std.specs.Prelude.{◌==◌, ◌&&◌, find, if◌then◌else◌, Bool, true, false, List, [], ◌∷◌, Option, Some, None}
use Rattle.dns_wire.specs.codes.DNSClass.{class_number}
use Rattle.dns_wire.specs.codes.RecordType.{type_number}
use Rattle.dns_messages.specs.declared.op_code.OpCode.{OpCode}
use Rattle.dns_messages.specs.declared.op_code.OpCode.TheVariants as ops
use Rattle.dns_messages.specs.declared.query.Query.{Query}
use Rattle.dns_messages.specs.declared.message.Message.{Message}
use Rattle.dns_messages.specs.declared.response_code.ResponseCode.{ResponseCode}
use Rattle.dns_messages.specs.declared.response_code.ResponseCode.TheVariants.{FormErr, NotAuth, Refused}
use Rattle.dns_messages.specs.Message.{version_of}
use Rattle.dns_names.specs.Compare.{same_labels}
use Rattle.dns_names.specs.Name.{DomainName}
use Rattle.dns_zone.specs.Rows.{ZoneContent}
use Rattle.dns_zone.specs.declared.transport.Transport.{Transport}
use Rattle.dns_zone.specs.declared.transport.Transport.TheVariants.{Datagram, Stream}

-- a question, if there is exactly one
abbrev pub only : List Query → Option Query
only (q ∷ []) = Some q
only queries = None

-- the only question of a query
abbrev pub asked_by : OpCode → List Query → Option Query
asked_by ops.Query queries = only queries
asked_by op queries = None

-- the question of a request for a transfer: the only one, of the type AXFR
abbrev pub if_transfer : Option Query → Bool
if_transfer None = false
if_transfer (Some q) = type_number q.query_type == 252

-- whether a request is for a transfer, without a version of EDNS above 0 (RFC 6891 section 6.1.3)
abbrev pub is_transfer : Message → Bool
is_transfer m = (version_of m.edns == 0) && if_transfer (asked_by m.metadata.op_code m.queries)

-- whether a zone has this origin, ignoring ASCII case
abbrev pub has_origin : DomainName → ZoneContent → Bool
has_origin origin z = same_labels z.origin.labels origin.labels

-- the zone with this origin
abbrev pub zone_of : List ZoneContent → DomainName → Option ZoneContent
zone_of zones origin = find (has_origin origin) zones

-- the zone of the class IN that a question for a transfer names
abbrev pub zone_at : List ZoneContent → Query → Option ZoneContent
zone_at zones q = if class_number q.query_class == 1 then zone_of zones q.name else None

-- Why a transfer is refused: it is not over a stream, the server is not authoritative for the zone, or the requestor may not have
-- it.
abbrev pub refusal : Transport → Bool → Bool → Option ResponseCode
refusal (Datagram limit) is_permitted is_known = Some FormErr
refusal Stream is_permitted false = Some NotAuth
refusal Stream false true = Some Refused
refusal Stream true true = None
