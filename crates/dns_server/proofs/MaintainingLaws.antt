-- Updates of the zone at a place, by a server that keeps serial numbers.
use Rattle.std.proofs.Common.{◌≡◌, ℕ, Bool, true, false, List, refl, sym, ap, ◌∙◌, Some, cond}
use Rattle.std.specs.Prelude.{slice_get, slice_set, OnOk, OnErr, Result, Ok, Err}
use Rattle.dns_differences.specs.declared.difference.Difference.{Difference}
use Rattle.dns_messages.specs.declared.message.Message.{Message}
use Rattle.dns_updates.specs.Code.{update_code}
use Rattle.dns_zone.specs.Change.{IsChange}
use Rattle.dns_zone.specs.Rows.{Rows, ZoneContent}
use Rattle.dns_zone.specs.Maintained.{IsRecordable, maintained, is_due, zone_with}
use Rattle.dns_zone.specs.Rising.{raised}
use Rattle.dns_zone.specs.declared.zone.serials.Serials.{Serials}
use Rattle.dns_zone.specs.declared.zone.serials.Serials.TheVariants.{Kept, Rising}
use Rattle.dns_server.specs.Maintaining.{IsRecordableOf, maintained_as, maintained_by, maintained_with}
use Rattle.dns_server.specs.SetTtls.{with_one_ttl}
use Rattle.dns_server.specs.declared.server.route.Route.TheVariants as by
use Rattle.dns_server.proofs.PlaceLaws.{origin-code}

-- ---- origins stay

origin-with : (zone : ZoneContent) (m : Message) → (zone_with zone m).origin ≡ zone.origin
origin-with zone m = origin-code zone m (update_code zone.origin zone.rows m)

origin-due : (b : Bool) (zone new : ZoneContent) → new.origin ≡ zone.origin → (cond b (raised zone new) new).origin ≡ zone.origin
origin-due true zone new same = same
origin-due false zone new same = same

origin-maintained : (serials : Serials) (zone : ZoneContent) (m : Message) → (maintained serials zone m).origin ≡ zone.origin
origin-maintained Kept zone m = origin-with zone m
origin-maintained Rising zone m = origin-due (is_due zone (zone_with zone m)) zone (zone_with zone m) (origin-with zone m)

-- whatever the result of an update, the origin stays
pub origin-updated : {A E : Type 0} (r : Result A E) (serials : Serials) (zone new : ZoneContent) (m : Message)
    → OnOk r (new ≡ maintained_as serials zone m) → OnErr r (new ≡ zone) → new.origin ≡ zone.origin
origin-updated (Ok v) serials zone new m ok err = ap (λ (z : ZoneContent). z.origin) ok ∙ origin-maintained serials zone (with_one_ttl zone.rows m)
origin-updated (Err e) serials zone new m ok err = ap (λ (z : ZoneContent). z.origin) err

-- ---- the zone at a place

pub maintained-at : (serials : Serials) (zones : List ZoneContent) (place : ℕ) (zone new : ZoneContent) (m : Message) → slice_get zones place ≡ Some zone
    → new ≡ maintained_as serials zone m → slice_set zones place new ≡ maintained_by serials zones m (by.Zone place)
maintained-at serials zones place zone new m e n = ap (slice_set zones place) n ∙ sym (ap (maintained_with serials zones place m) e)

pub changed-at : (zones : List ZoneContent) (place : ℕ) (zone new : ZoneContent) (d : Difference) → slice_get zones place ≡ Some zone → new.origin ≡ zone.origin
    → IsRecordable zone.rows new.rows d → IsRecordableOf zones (Some (record { place = place; difference = d })) (slice_set zones place new)
changed-at zones place zone new d e origin is =
    record { old = zone; new = new; there = e; after_is = refl; origin_is = origin; recordable = is }

-- a change of a zone can be sent in a transfer
pub recordable-change : (old new : Rows) (d : Difference) → IsChange old new d → IsRecordable old new d
recordable-change old new d is = record { difference = is.difference; deleted_sound = is.deleted_sound; added_sound = is.added_sound }
