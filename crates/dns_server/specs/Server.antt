-- The replies of a server (RFC 1034 section 4.3.2, RFC 1035 section 4.1, RFC 2136 section 3).
use Rattle.std.specs.Prelude.{◌≡◌, ◌<◌, length, slice_get, slice_set, List, [], ◌∷◌, ℕ, Option, Some, None, IsSomeAnd}
use Rattle.dns_messages.specs.declared.op_code.OpCode.{OpCode}
use Rattle.dns_messages.specs.declared.op_code.OpCode.TheVariants as ops
use Rattle.dns_messages.specs.declared.response_code.ResponseCode.TheVariants as codes
use Rattle.dns_messages.specs.declared.query.Query.{Query}
use Rattle.dns_messages.specs.Header.{code_number, code_of}
use Rattle.dns_messages.specs.declared.message.Message.{Message}
use Rattle.dns_zone.specs.declared.transport.Transport.{Transport}
use Rattle.dns_zone.specs.Change.{IsChange}
use Rattle.dns_zone.specs.Rows.{ZoneContent}
use Rattle.dns_zone.specs.Serving.{IsReplyTo, zone_after}
use Rattle.dns_zone.specs.Request.{DecodesRequest, IsRequest, IsEncodedReply, reply_without_zone}
use Rattle.dns_server.specs.declared.updates.Updates.{Updates}
use Rattle.dns_server.specs.declared.updates.Updates.TheVariants as may
use Rattle.dns_server.specs.declared.server.ZoneChange.{ZoneChange}
use Rattle.dns_server.specs.declared.server.route.Route.{Route}
use Rattle.dns_server.specs.declared.server.route.Route.TheVariants as by
use Rattle.dns_server.specs.Zones.{closest}

-- ---- which zone a request is for

-- the zone at a place, or Refused if there is none (RFC 1035 section 4.1.1)
abbrev pub route_to : Option ℕ → Route
route_to (Some place) = by.Zone place
route_to None = by.Code codes.Refused

-- A request has exactly one question, and is for the zone closest to its name: the name of a question (RFC 1034 section 4.3.2
-- step 2), or of the zone section of an update (RFC 2136 section 3.1.1). Whether that is the zone to update is for the zone to
-- say: it answers NotAuth if its origin is another (RFC 2136 section 3.1.2).
abbrev pub route_by_name : List ZoneContent → List Query → Route
route_by_name zones (q ∷ []) = route_to (closest zones q.name.labels)
route_by_name zones queries = by.Code codes.FormErr

-- an update is refused, before any zone is looked at, if its requestor may not update (RFC 2136 section 3.3)
abbrev pub route_update : Updates → List ZoneContent → List Query → Route
route_update may.Allowed zones queries = route_by_name zones queries
route_update may.Refused zones queries = by.Code codes.Refused

-- what decides the reply to a request with an opcode
abbrev pub route_by_code : Updates → List ZoneContent → List Query → OpCode → Route
route_by_code updates zones queries ops.Query = route_by_name zones queries
route_by_code updates zones queries ops.Update = route_update updates zones queries
route_by_code updates zones queries other = by.Code codes.NotImp

-- what decides the reply to a request
abbrev pub route : Updates → List ZoneContent → Message → Route
route updates zones m = route_by_code updates zones m.queries m.metadata.op_code

-- the zone of a route is there, and its response code is one that a header has
abbrev pub IsRouteOf : List ZoneContent → Route → Type 0
IsRouteOf zones (by.Zone place) = place < length zones
IsRouteOf zones (by.Code code) = (code_number code < 16) × (code_of (code_number code) ≡ code)

-- ---- replies, and the zones after them

-- The bytes are the reply to a request: that of the zone at a place, or one that no zone decides.
abbrev pub IsReplyBy : List ZoneContent → Route → Transport → Message → List ℕ → Type 0
IsReplyBy zones (by.Zone place) transport m out = IsSomeAnd (slice_get zones place) (λ zone. IsReplyTo zone transport m out)
IsReplyBy zones (by.Code code) transport m out = IsEncodedReply (reply_without_zone m code) transport m out

-- zones, with the one at a place as a request leaves it
abbrev pub zones_with : List ZoneContent → ℕ → Message → Option ZoneContent → List ZoneContent
zones_with zones place m (Some zone) = slice_set zones place (zone_after zone m)
zones_with zones place m None = zones

-- the zones after a request by its route: only the zone that it is for may change
abbrev pub zones_by : List ZoneContent → Message → Route → List ZoneContent
zones_by zones m (by.Zone place) = zones_with zones place m (slice_get zones place)
zones_by zones m (by.Code code) = zones

-- the zones after a request
abbrev pub zones_after : Updates → List ZoneContent → Message → List ZoneContent
zones_after updates zones m = zones_by zones m (route updates zones m)

-- What a request has changed: the zone at a place has lost the records that are deleted, and gained those that are added. Without a
-- place nothing is changed.
abbrev pub IsChangeOf : List ZoneContent → Option ZoneChange → List ZoneContent → Type 0
IsChangeOf zones None after = after ≡ zones
IsChangeOf zones (Some c) after =
    IsSomeAnd (slice_get zones c.place) (λ old. IsSomeAnd (slice_get after c.place) (λ new. IsChange old.rows new.rows c.difference))

-- the bytes are a request, out is its reply, and after are the zones that it leaves
pub record AreServed (zones : List ZoneContent) (transport : Transport) (updates : Updates) (bytes out : List ℕ) (after : List ZoneContent) : Type 0 where
  pub request : Message
  pub is_request : IsRequest bytes request
  pub replied : IsReplyBy zones (route updates zones request) transport request out
  pub after_is : after ≡ zones_after updates zones request

-- Every request has a reply. Only bytes that do not decode, and responses, have none, and leave the zones unchanged.
abbrev pub Responds : List ZoneContent → Transport → Updates → List ℕ → Option (List ℕ) → List ZoneContent → Type 0
Responds zones transport updates bytes None after = (after ≡ zones) × DecodesRequest bytes None
Responds zones transport updates bytes (Some out) after = AreServed zones transport updates bytes out after
