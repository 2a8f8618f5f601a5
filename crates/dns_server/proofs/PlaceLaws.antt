-- The places of zones in a server.
use Rattle.std.proofs.Common.{◌≡◌, ℕ, Bool, true, false, ◌||◌, List, [], ◌∷◌, ◌++◌, refl, sym, ap, ◌∙◌, subst, zero, suc, Option, Some}
use Rattle.std.specs.Prelude.{slice_get, slice_set, IsSomeAnd, IfOk, OnOk, OnErr, Result, Ok, Err}
use Rattle.dns_names.specs.Compare.{same_labels}
use Rattle.dns_names.proofs.ComparisonLaws.{same_labels-symmetric}
use Rattle.dns_messages.specs.declared.message.Message.{Message}
use Rattle.dns_messages.specs.declared.op_code.OpCode.{OpCode}
use Rattle.dns_messages.specs.declared.op_code.OpCode.TheVariants as ops
use Rattle.dns_messages.specs.declared.response_code.ResponseCode.{ResponseCode}
use Rattle.dns_messages.specs.declared.response_code.ResponseCode.TheVariants.{NoError}
use Rattle.dns_updates.specs.Code.{update_code}
use Rattle.dns_zone.specs.declared.transport.Transport.{Transport}
use Rattle.dns_zone.specs.Rows.{ZoneContent, IsZone}
use Rattle.dns_zone.specs.Serving.{IsReplyTo, zone_after, zone_by_code, zone_by_op}
use Rattle.dns_server.specs.declared.server.route.Route.TheVariants as by
use Rattle.dns_server.specs.Zones.{AreServable, has_origin, is_at}
use Rattle.dns_differences.specs.declared.difference.Difference.{Difference}
use Rattle.dns_zone.specs.Change.{IsChange}
use Rattle.dns_server.specs.Server.{IsChangeOf, IsReplyBy, zones_by, zones_with}

-- ---- zones that can be served

both-false : (a b : Bool) → (a || b) ≡ false → (a ≡ false) × (b ≡ false)
both-false true b e = absurd (cc)
both-false false b e = (refl, e)

-- the origin of a further zone is another
has-push : (zones : List ZoneContent) (zone : ZoneContent) (labels : List (List ℕ)) → has_origin zones labels ≡ false
    → same_labels zone.origin.labels labels ≡ false → has_origin (zones ++ zone ∷ []) labels ≡ false
has-push [] zone labels e f = ap (λ (b : Bool). b || false) f
has-push (y ∷ ys) zone labels e f =
    let both = both-false (is_at labels y) (has_origin ys labels) e in
    ap (λ (b : Bool). b || has_origin (ys ++ zone ∷ []) labels) both.0 ∙ has-push ys zone labels both.1 f

-- a zone with another origin can be added
pub servable-push : (zones : List ZoneContent) (zone : ZoneContent) → AreServable zones → IsZone zone
    → has_origin zones zone.origin.labels ≡ false → AreServable (zones ++ zone ∷ [])
servable-push [] zone s good e = (good, (refl, tt))
servable-push (y ∷ ys) zone s good e =
    let both = both-false (is_at zone.origin.labels y) (has_origin ys zone.origin.labels) e in (
      s.0,
      (
        has-push ys zone y.origin.labels s.1.0 (same_labels-symmetric zone.origin.labels y.origin.labels ∙ both.0),
        servable-push ys zone s.1.1 good both.1,
      ),
    )

-- a zone that is replaced by one with its origin leaves the origins as they are
origins-set : (zones : List ZoneContent) (place : ℕ) (zone new : ZoneContent) (labels : List (List ℕ)) → slice_get zones place ≡ Some zone
    → new.origin ≡ zone.origin → has_origin (slice_set zones place new) labels ≡ has_origin zones labels
origins-set [] place zone new labels e o = absurd (cc)
origins-set (y ∷ ys) zero zone new labels e o =
    let same : y ≡ zone = cc in
    ap (λ (b : Bool). b || has_origin ys labels) (ap (λ origin. same_labels origin.labels labels) (o ∙ sym (ap (λ (z : ZoneContent). z.origin) same)))
origins-set (y ∷ ys) (suc place) zone new labels e o =
    ap (λ (b : Bool). is_at labels y || b) (origins-set ys place zone new labels e o)

pub servable-set : (zones : List ZoneContent) (place : ℕ) (zone new : ZoneContent) → slice_get zones place ≡ Some zone
    → new.origin ≡ zone.origin → IsZone new → AreServable zones → AreServable (slice_set zones place new)
servable-set [] place zone new e o good s = absurd (cc)
servable-set (y ∷ ys) zero zone new e o good s =
    let same : y ≡ zone = cc in
    (good, (ap (λ origin. has_origin ys origin.labels) (o ∙ sym (ap (λ (z : ZoneContent). z.origin) same)) ∙ s.1.0, s.1.1))
servable-set (y ∷ ys) (suc place) zone new e o good s =
    (s.0, (origins-set ys place zone new y.origin.labels e o ∙ s.1.0, servable-set ys place zone new e o good s.1.1))

-- ---- a request to the zone at a place

pub origin-code : (zone : ZoneContent) (m : Message) (code : ResponseCode) → (zone_by_code zone m code).origin ≡ zone.origin
origin-code zone m NoError = refl
origin-code zone m other = refl

origin-op : (zone : ZoneContent) (m : Message) (op : OpCode) → (zone_by_op zone m op).origin ≡ zone.origin
origin-op zone m ops.Update = origin-code zone m (update_code zone.origin zone.rows m)
origin-op zone m other = refl

-- a request leaves the origin as it is
pub origin-after : (zone : ZoneContent) (m : Message) → (zone_after zone m).origin ≡ zone.origin
origin-after zone m = origin-op zone m m.metadata.op_code

-- and so does a call that serves one, whatever its result
pub served-origin : {A E : Type 0} (r : Result A E) (zone new : ZoneContent) (m : Message) → OnOk r (new ≡ zone_after zone m)
    → OnErr r (new ≡ zone) → new.origin ≡ zone.origin
served-origin (Ok v) zone new m ok err = ap (λ (z : ZoneContent). z.origin) ok ∙ origin-after zone m
served-origin (Err e) zone new m ok err = ap (λ (z : ZoneContent). z.origin) err

pub if-ok : {A E : Type 0} (r : Result A E) (P Q : A → Type 0) → IfOk r P → ((x : A) → P x → Q x) → IfOk r Q
if-ok (Ok v) P Q h f = f v h
if-ok (Err e) P Q h f = tt

pub on-ok : {A E : Type 0} (r : Result A E) (P Q : Type 0) → OnOk r P → (P → Q) → OnOk r Q
on-ok (Ok v) P Q h f = f h
on-ok (Err e) P Q h f = tt

pub reply-at : (zones : List ZoneContent) (place : ℕ) (zone : ZoneContent) (transport : Transport) (m : Message) (out : List ℕ)
    → slice_get zones place ≡ Some zone → IsReplyTo zone transport m out → IsReplyBy zones (by.Zone place) transport m out
reply-at zones place zone transport m out e r =
    subst (λ (o : Option ZoneContent). IsSomeAnd o (λ z. IsReplyTo z transport m out)) (sym e) r

pub after-at : (zones : List ZoneContent) (place : ℕ) (zone new : ZoneContent) (m : Message) → slice_get zones place ≡ Some zone
    → new ≡ zone_after zone m → slice_set zones place new ≡ zones_by zones m (by.Zone place)
after-at zones place zone new m e n = ap (slice_set zones place) n ∙ sym (ap (zones_with zones place m) e)

get-set : (zones : List ZoneContent) (place : ℕ) (zone new : ZoneContent) → slice_get zones place ≡ Some zone → slice_get (slice_set zones place new) place ≡ Some new
get-set [] place zone new e = absurd (cc)
get-set (y ∷ ys) zero zone new e = refl
get-set (y ∷ ys) (suc place) zone new e = get-set ys place zone new e

pub change-at : (zones : List ZoneContent) (place : ℕ) (zone new : ZoneContent) (d : Difference) → slice_get zones place ≡ Some zone → IsChange zone.rows new.rows d
    → IsChangeOf zones (Some (record { place = place; difference = d })) (slice_set zones place new)
change-at zones place zone new d e is =
    subst (λ (o : Option ZoneContent). IsSomeAnd o (λ old. IsSomeAnd (slice_get (slice_set zones place new) place) (λ after. IsChange old.rows after.rows d))) (sym e)
    (subst (λ (o : Option ZoneContent). IsSomeAnd o (λ after. IsChange zone.rows after.rows d)) (sym (get-set zones place zone new e)) is)
