-- What requests have changed, one after another.
use Rattle.std.specs.Prelude.{List, [], ◌∷◌, ℕ, Option, option_map}
use Rattle.dns_server.specs.Maintaining.{IsRecordableOf}
use Rattle.dns_server.specs.declared.server.ZoneChange.{ZoneChange}
use Rattle.dns_zone.specs.Rows.{ZoneContent}
use Rattle.dns_durable.specs.declared.answering.Reply.{Reply}

-- the bytes of a reply
abbrev pub reply_bytes : Reply → Option (List ℕ)
reply_bytes reply = option_map (λ out. out.items) reply.bytes

-- what the request of a reply has changed
abbrev pub reply_change : Reply → Option ZoneChange
reply_change reply = reply.change

-- Requests lead from zones to others, each by what it has changed of one of them, or by nothing.
pub data AreChanges : List ZoneContent → List (Option ZoneChange) → List ZoneContent → Type 0 where
  no_request : {zones : List ZoneContent} → AreChanges zones [] zones
  a_request : {zones mid after : List ZoneContent} {c : Option ZoneChange} {more : List (Option ZoneChange)}
      → IsRecordableOf zones c mid → AreChanges mid more after → AreChanges zones (c ∷ more) after
