-- Updates of a server that keeps what RFC 2136 leaves to it: serial numbers (section 3.6), the format of data, and one TTL a set.
use Rattle.std.specs.Prelude.{◌≡◌, ◌||◌, not, slice_get, slice_set, if◌then◌else◌, true, Bool, List, [], ◌∷◌, ℕ, Option, Some, None}
use Rattle.std.specs.List.{list_all}
use Rattle.dns_wire.specs.codes.RecordType.{type_number}
use Rattle.dns_data.specs.declared.rdata.RData.{RData}
use Rattle.dns_data.specs.declared.rdata.RData.TheVariants as of
use Rattle.dns_formats.specs.Field.{fields_of}
use Rattle.dns_formats.specs.Wire.{fits}
use Rattle.dns_formats.specs.declared.field.Field.{Field}
use Rattle.dns_messages.specs.declared.message.Message.{Message}
use Rattle.dns_messages.specs.declared.query.Query.{Query}
use Rattle.dns_messages.specs.declared.response_code.ResponseCode.TheVariants as codes
use Rattle.dns_records.specs.Record.{Record}
use Rattle.dns_updates.specs.Records.{is_in_class}
use Rattle.dns_zone.specs.Rows.{ZoneContent}
use Rattle.dns_zone.specs.Maintained.{IsRecordable, maintained}
use Rattle.dns_zone.specs.declared.zone.serials.Serials.{Serials}
use Rattle.dns_server.specs.SetTtls.{with_one_ttl}
use Rattle.dns_server.specs.Zones.{closest}
use Rattle.dns_server.specs.declared.server.ZoneChange.{ZoneChange}
use Rattle.dns_server.specs.declared.server.route.Route.{Route}
use Rattle.dns_server.specs.declared.server.route.Route.TheVariants as by

-- ---- the format of data

-- bytes are the fields of a type, if their format is known (RFC 3597 section 4 covers the others)
abbrev pub fit_if : Option (List Field) → List ℕ → Bool
fit_if (Some fields) bytes = fits fields bytes
fit_if None bytes = true

-- data has the format of its type
abbrev pub is_formatted : RData → Bool
is_formatted (of.Unknown code bytes) = fit_if (fields_of (type_number code)) bytes
is_formatted other = true

-- a record of an update section is no addition, or its data has the format of its type
abbrev pub is_formatted_if_added : Record → Bool
is_formatted_if_added r = not (is_in_class r.dns_class) || is_formatted r.rdata

-- whether all data that an update adds has the format of its type
abbrev pub adds_formatted_data : Message → Bool
adds_formatted_data m = list_all is_formatted_if_added m.authorities

-- ---- which zone an update is for

-- the zone at a place, or NotAuth if there is none (RFC 2136 section 3.1.2)
abbrev pub update_route_to : Option ℕ → Route
update_route_to (Some place) = by.Zone place
update_route_to None = by.Code codes.NotAuth

-- an update is for the zone closest to the name of its zone section
abbrev pub update_route_by_name : List ZoneContent → List Query → Route
update_route_by_name zones (q ∷ []) = update_route_to (closest zones q.name.labels)
update_route_by_name zones queries = by.Code codes.FormErr

-- what decides the reply to an update: malformed data is a fault of its format (RFC 2136 section 3.4.1)
abbrev pub update_route : List ZoneContent → Message → Route
update_route zones m = if adds_formatted_data m then update_route_by_name zones m.queries else by.Code codes.FormErr

-- ---- the zones after it

-- a zone after an update, in which the records of a set have one TTL (RFC 2181 section 5.2)
abbrev pub maintained_as : Serials → ZoneContent → Message → ZoneContent
maintained_as serials zone m = maintained serials zone (with_one_ttl zone.rows m)

-- zones, with the one at a place as an update leaves it
abbrev pub maintained_with : Serials → List ZoneContent → ℕ → Message → Option ZoneContent → List ZoneContent
maintained_with serials zones place m (Some zone) = slice_set zones place (maintained_as serials zone m)
maintained_with serials zones place m None = zones

-- the zones after an update by its route: only the zone that it is for may change
abbrev pub maintained_by : Serials → List ZoneContent → Message → Route → List ZoneContent
maintained_by serials zones m (by.Zone place) = maintained_with serials zones place m (slice_get zones place)
maintained_by serials zones m (by.Code code) = zones

-- the zones after an update
abbrev pub zones_maintained : Serials → List ZoneContent → Message → List ZoneContent
zones_maintained serials zones m = maintained_by serials zones m (update_route zones m)

-- ---- what it has changed

-- One zone has changed, by a difference that can be sent in a transfer.
pub record IsChangedAt (zones : List ZoneContent) (c : ZoneChange) (after : List ZoneContent) : Type 0 where
  pub old : ZoneContent
  pub new : ZoneContent
  pub there : slice_get zones c.place ≡ Some old
  pub after_is : after ≡ slice_set zones c.place new
  pub origin_is : new.origin ≡ old.origin
  pub recordable : IsRecordable old.rows new.rows c.difference

-- What a request has changed, if a zone has served it.
abbrev pub IsRecordableOf : List ZoneContent → Option ZoneChange → List ZoneContent → Type 0
IsRecordableOf zones None after = after ≡ zones
IsRecordableOf zones (Some c) after = IsChangedAt zones c after
