-- Changes, one after another.
use Rattle.std.proofs.Common.{◌≡◌, List, [], ◌∷◌, ◌++◌, Option, map, sym, subst}
use Rattle.dns_server.specs.Maintaining.{IsRecordableOf}
use Rattle.dns_server.specs.declared.server.ZoneChange.{ZoneChange}
use Rattle.dns_zone.specs.Rows.{ZoneContent}
use Rattle.dns_durable.specs.Changes.{AreChanges, reply_change}
use Rattle.dns_durable.specs.Changes.AreChanges.{no_request, a_request}
use Rattle.dns_durable.specs.declared.answering.Reply.{Reply}
use Rattle.dns_durable.proofs.BatchLaws.{mapped_more}

-- no request has changed anything yet
pub changes_none : (zones : List ZoneContent) (items : List Reply) → items ≡ [] → AreChanges zones (map reply_change items) zones
changes_none zones [] none = no_request
changes_none zones (r ∷ items) none = absurd cc

change_more : (start now mid : List ZoneContent) (changes : List (Option ZoneChange)) (c : Option ZoneChange) → AreChanges start changes now
    → IsRecordableOf now c mid → AreChanges start (changes ++ c ∷ []) mid
change_more start now mid changes c no_request is = a_request is no_request
change_more start now mid changes c (a_request {mid = next} {more = more} first others) is =
    a_request first (change_more next now mid more c others is)

-- what a further request has changed
pub changes_more : (start now mid : List ZoneContent) (replies : List Reply) (r : Reply) (items : List Reply) → items ≡ replies ++ r ∷ []
    → AreChanges start (map reply_change replies) now → IsRecordableOf now r.change mid → AreChanges start (map reply_change items) mid
changes_more start now mid replies r items items_are are is =
    subst (λ (l : List (Option ZoneChange)). AreChanges start l mid) (sym (mapped_more reply_change replies r items items_are))
    (change_more start now mid (map reply_change replies) r.change are is)
