-- The zones from before the last update that changed records.
use Rattle.std.specs.Prelude.{not, Bool, true, false, List, Option, Some, None}
use Rattle.dns_differences.specs.Difference.{is_empty}
use Rattle.dns_messages.specs.declared.message.Message.{Message}
use Rattle.dns_zone.specs.Rows.{ZoneContent}
use Rattle.dns_server.specs.declared.server.ZoneChange.{ZoneChange}
use Rattle.dns_server.specs.declared.updates.Updates.TheVariants as may
use Rattle.dns_authority.specs.service.Answering.{zones_served}
use Rattle.dns_authority.specs.declared.service.answering.Answering.{Answering}

-- whether a request has deleted or added a record
abbrev pub has_changed : Option ZoneChange → Bool
has_changed None = false
has_changed (Some c) = not (is_empty c.difference)

-- what contracts see of the zones from before the last update: how updates are made, the zones, and the update, if there was one
pub record Former : Type 0 where
  pub answering : Answering
  pub zones : List ZoneContent
  pub last : Option Message

-- zones after an update, if there is one
abbrev pub updated : Answering → List ZoneContent → Option Message → List ZoneContent
updated answering zones None = zones
updated answering zones (Some m) = zones_served answering may.Allowed zones m

-- After an update that changed records, the zones from before it are those to which the last such update was applied.
abbrev pub former_after : Former → Message → Former
former_after f m = record f { zones = updated f.answering f.zones f.last; last = Some m }
