-- The histories of a server and of its zones.
use Rattle.std.specs.Prelude.{◌&&◌, Bool, true, false, List, [], ◌∷◌, ℕ, nat_eq, if◌then◌else◌}
use Rattle.std.specs.List.{fold}
use Rattle.dns_messages.specs.declared.message.Message.{Message}
use Rattle.dns_messages.specs.declared.op_code.OpCode.{OpCode}
use Rattle.dns_messages.specs.declared.op_code.OpCode.TheVariants as ops
use Rattle.dns_messages.specs.declared.response_code.ResponseCode.{ResponseCode}
use Rattle.dns_messages.specs.declared.response_code.ResponseCode.TheVariants.{NoError}
use Rattle.dns_updates.specs.Change.{update_change}
use Rattle.dns_updates.specs.Code.{update_code}
use Rattle.dns_zone.specs.Rows.{ZoneContent}
use Rattle.dns_server.specs.declared.updates.Updates.{Updates}
use Rattle.dns_server.specs.declared.server.route.Route.{Route}
use Rattle.dns_server.specs.declared.server.route.Route.TheVariants as by
use Rattle.dns_server.specs.Server.{route, zones_after}

-- a request, and whether its requestor may update
pub record Request : Type 0 where
  pub updates : Updates
  pub message : Message

-- the zones after requests, one after another
abbrev pub zones_after_all : List ZoneContent → List Request → List ZoneContent
zones_after_all zones requests = fold (λ now r. zones_after r.updates now r.message) zones requests

-- whether a route leads to the zone at a place
abbrev pub leads_to : ℕ → Route → Bool
leads_to place (by.Zone other) = nat_eq other place
leads_to place (by.Code code) = false

-- whether an update is answered with NoError
abbrev pub is_accepted_by : OpCode → ResponseCode → Bool
is_accepted_by ops.Update NoError = true
is_accepted_by op code = false

-- whether a zone accepts a request: an update that it answers with NoError
abbrev pub is_accepted : ZoneContent → Message → Bool
is_accepted zone m = is_accepted_by m.metadata.op_code (update_code zone.origin zone.rows m)

-- whether a request is an update for the zone at a place, which it accepts
abbrev pub is_accepted_at : List ZoneContent → ℕ → ZoneContent → Request → Bool
is_accepted_at zones place zone r = leads_to place (route r.updates zones r.message) && is_accepted zone r.message

-- a zone after an update that it accepts
abbrev pub updated : ZoneContent → Message → ZoneContent
updated zone m = record zone { rows = update_change zone.origin zone.rows m }

-- the updates that the zone at a place accepts, in order
abbrev pub accepted_updates : List ZoneContent → ℕ → ZoneContent → List Request → List Message
accepted_updates zones place zone [] = []
accepted_updates zones place zone (r ∷ more) =
    if is_accepted_at zones place zone r
    then r.message ∷ accepted_updates (zones_after r.updates zones r.message) place (updated zone r.message) more
    else accepted_updates (zones_after r.updates zones r.message) place zone more

-- a zone after updates that it accepts, one after another
abbrev pub zone_after_updates : ZoneContent → List Message → ZoneContent
zone_after_updates zone updates = fold updated zone updates
