-- The histories of zones in a server.
use Rattle.std.proofs.Common.{◌≡◌, ℕ, Bool, true, false, ◌&&◌, List, [], ◌∷◌, refl, sym, ap, ◌∙◌, zero, suc, arith, Option, Some, None}
use Rattle.std.specs.Prelude.{nat_eq, slice_get, slice_set, if◌then◌else◌}
use Rattle.std.proofs.lemmas.Bool.Decides.{nat_tests}
use Rattle.dns_messages.specs.declared.message.Message.{Message}
use Rattle.dns_messages.specs.declared.op_code.OpCode.{OpCode}
use Rattle.dns_messages.specs.declared.op_code.OpCode.TheVariants as ops
use Rattle.dns_messages.specs.declared.response_code.ResponseCode.{ResponseCode}
use Rattle.dns_messages.specs.declared.response_code.ResponseCode.TheVariants.{NoError}
use Rattle.dns_updates.specs.Code.{update_code}
use Rattle.dns_zone.specs.Rows.{ZoneContent}
use Rattle.dns_zone.specs.Serving.{zone_after, zone_by_code, zone_by_op}
use Rattle.dns_server.specs.declared.server.route.Route.{Route}
use Rattle.dns_server.specs.declared.server.route.Route.TheVariants as by
use Rattle.dns_server.specs.Server.{route, zones_after, zones_by, zones_with}
use Rattle.dns_server.specs.History.{Request, accepted_updates, is_accepted, is_accepted_at, is_accepted_by, leads_to, updated, zone_after_updates, zones_after_all}

-- ---- one place of a list

set-here : {A : Type 0} (xs : List A) (k : ℕ) (x y : A) → slice_get xs k ≡ Some y → slice_get (slice_set xs k x) k ≡ Some x
set-here [] k x y e = absurd (cc)
set-here (z ∷ zs) zero x y e = refl
set-here (z ∷ zs) (suc k) x y e = set-here zs k x y e

set-other : {A : Type 0} (xs : List A) (k p : ℕ) (x : A) → (k ≡ p → ⊥) → slice_get (slice_set xs k x) p ≡ slice_get xs p
set-other [] k p x differ = refl
set-other (z ∷ zs) zero zero x differ = absurd (differ refl)
set-other (z ∷ zs) zero (suc p) x differ = refl
set-other (z ∷ zs) (suc k) zero x differ = refl
set-other (z ∷ zs) (suc k) (suc p) x differ = set-other zs k p x (λ e. differ (ap (λ (n : ℕ). suc n) e))

-- ---- one zone

by-code : (zone : ZoneContent) (m : Message) (code : ResponseCode)
    → zone_by_code zone m code ≡ (if is_accepted_by ops.Update code then updated zone m else zone)
by-code zone m NoError = refl
by-code zone m other = refl

by-op : (zone : ZoneContent) (m : Message) (op : OpCode)
    → zone_by_op zone m op ≡ (if is_accepted_by op (update_code zone.origin zone.rows m) then updated zone m else zone)
by-op zone m ops.Update = by-code zone m (update_code zone.origin zone.rows m)
by-op zone m other = refl

-- a zone is changed by the updates that it accepts
by-accepted : (zone : ZoneContent) (m : Message) → zone_after zone m ≡ (if is_accepted zone m then updated zone m else zone)
by-accepted zone m = by-op zone m m.metadata.op_code

-- ---- the zone at a place

unchanged : (zones : List ZoneContent) (other place : ℕ) (zone : ZoneContent) (m : Message) → (other ≡ place → ⊥)
    → slice_get zones place ≡ Some zone → (o : Option ZoneContent) → slice_get (zones_with zones other m o) place ≡ Some zone
unchanged zones other place zone m differ e None = e
unchanged zones other place zone m differ e (Some z) = set-other zones other place (zone_after z m) differ ∙ e

changed : (zones : List ZoneContent) (other place : ℕ) (zone : ZoneContent) (m : Message) → other ≡ place
    → slice_get zones place ≡ Some zone → slice_get (zones_by zones m (by.Zone other)) place ≡ Some (zone_after zone m)
changed zones other place zone m same e =
    let found : slice_get zones other ≡ Some zone = ap (slice_get zones) same ∙ e in
    ap (λ (o : Option ZoneContent). slice_get (zones_with zones other m o) place) found
    ∙ (ap (slice_get (slice_set zones other (zone_after zone m))) (sym same)
    ∙ set-here zones other (zone_after zone m) zone found)

-- a request changes the zone at a place exactly if the zone accepts it
step-by : (zones : List ZoneContent) (place : ℕ) (zone : ZoneContent) (m : Message) → slice_get zones place ≡ Some zone → (w : Route)
    → slice_get (zones_by zones m w) place ≡ Some (if leads_to place w && is_accepted zone m then updated zone m else zone)
step-by zones place zone m e (by.Code code) = e
step-by zones place zone m e (by.Zone other) = at (nat_eq other place) refl
  where
    at : (b : Bool) → nat_eq other place ≡ b
        → slice_get (zones_by zones m (by.Zone other)) place ≡ Some (if b && is_accepted zone m then updated zone m else zone)
    at true h =
        let same : other ≡ place = grind (arith, nat_tests) in
        changed zones other place zone m same e ∙ ap (λ (z : ZoneContent). Some z) (by-accepted zone m)
    at false h = unchanged zones other place zone m (λ same. absurd (grind (arith, nat_tests))) e (slice_get zones other)

pub history : (zones : List ZoneContent) (requests : List Request) (place : ℕ) (zone : ZoneContent) → slice_get zones place ≡ Some zone
    → slice_get (zones_after_all zones requests) place ≡ Some (zone_after_updates zone (accepted_updates zones place zone requests))
history zones [] place zone e = e
history zones (r ∷ more) place zone e =
    pick (is_accepted_at zones place zone r) (step-by zones place zone r.message e (route r.updates zones r.message))
    (λ next h. history (zones_after r.updates zones r.message) more place next h)
  where
    after : List ZoneContent
    after = zones_after r.updates zones r.message

    pick : (b : Bool) → slice_get after place ≡ Some (if b then updated zone r.message else zone)
        → ((next : ZoneContent) → slice_get after place ≡ Some next
        → slice_get (zones_after_all after more) place ≡ Some (zone_after_updates next (accepted_updates after place next more)))
        → slice_get (zones_after_all after more) place
        ≡ Some (zone_after_updates zone (if b then r.message ∷ accepted_updates after place (updated zone r.message) more
        else accepted_updates after place zone more))
    pick true found on = on (updated zone r.message) found
    pick false found on = on zone found
