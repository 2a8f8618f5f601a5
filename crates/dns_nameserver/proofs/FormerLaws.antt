-- Requests that may not update leave zones as they are.
use Rattle.std.proofs.Common.{◌≡◌, ◌∙◌, ◌⊎◌, inl, inr, ℕ, List, [], ◌∷◌, Option, Some, None, refl, sym, ap, subst}
use Rattle.std.proofs.lemmas.List.{set-get_or}
use Rattle.std.proofs.lemmas.Option.{get_or_from_slice_get}
use Rattle.std.specs.Prelude.{slice_get, slice_set}
use Rattle.dns_authority.specs.declared.service.answering.Answering.{Answering}
use Rattle.dns_authority.specs.declared.service.answering.Answering.TheVariants.{Plain, Whole}
use Rattle.dns_authority.specs.service.Answering.{zones_by_op, zones_served}
use Rattle.dns_messages.specs.declared.message.Message.{Message}
use Rattle.dns_messages.specs.declared.op_code.OpCode.{OpCode}
use Rattle.dns_messages.specs.declared.op_code.OpCode.TheVariants as ops
use Rattle.dns_messages.specs.declared.query.Query.{Query}
use Rattle.dns_server.specs.Server.{route_by_code, route_by_name, route_to, zones_by, zones_with}
use Rattle.dns_server.specs.Zones.{closest}
use Rattle.dns_server.specs.declared.updates.Updates.{Updates}
use Rattle.dns_server.specs.declared.updates.Updates.TheVariants as may
use Rattle.dns_zone.specs.Rows.{ZoneContent}
use Rattle.dns_zone.specs.Serving.{zone_by_op}

update_or_not : (op : OpCode) → (op ≡ ops.Update) ⊎ (op ≡ ops.Update → ⊥)
update_or_not ops.Query = inr (λ e. absurd (cc e))
update_or_not ops.Status = inr (λ e. absurd (cc e))
update_or_not ops.Notify = inr (λ e. absurd (cc e))
update_or_not ops.Update = inl refl
update_or_not (ops.Unknown number) = inr (λ e. absurd (cc e))

-- a zone stays
kept_zone : (zone : ZoneContent) (m : Message) (op : OpCode) → (op ≡ ops.Update → ⊥) → zone_by_op zone m op ≡ zone
kept_zone zone m ops.Query other = refl
kept_zone zone m ops.Status other = refl
kept_zone zone m ops.Notify other = refl
kept_zone zone m ops.Update other = absurd (other refl)
kept_zone zone m (ops.Unknown number) other = refl

same_with : (zones : List ZoneContent) (place : ℕ) (m : Message) (found : Option ZoneContent) → slice_get zones place ≡ found → (m.metadata.op_code ≡ ops.Update → ⊥)
    → zones_with zones place m found ≡ zones
same_with zones place m None is other = refl
same_with zones place m (Some zone) is other =
    ap (λ (z : ZoneContent). slice_set zones place z) (kept_zone zone m m.metadata.op_code other ∙ sym (get_or_from_slice_get zones place zone zone is)) ∙ set-get_or zones place zone

same_to : (zones : List ZoneContent) (m : Message) (place : Option ℕ) → (m.metadata.op_code ≡ ops.Update → ⊥) → zones_by zones m (route_to place) ≡ zones
same_to zones m None other = refl
same_to zones m (Some place) other = same_with zones place m (slice_get zones place) refl other

same_by_name : (zones : List ZoneContent) (m : Message) (queries : List Query) → (m.metadata.op_code ≡ ops.Update → ⊥) → zones_by zones m (route_by_name zones queries) ≡ zones
same_by_name zones m [] other = refl
same_by_name zones m (q ∷ []) other = same_to zones m (closest zones q.name.labels) other
same_by_name zones m (q ∷ r ∷ more) other = refl

same_by : (zones : List ZoneContent) (m : Message) (updates : Updates) (queries : List Query) (op : OpCode) → (m.metadata.op_code ≡ ops.Update → ⊥) → (op ≡ ops.Update → ⊥)
    → zones_by zones m (route_by_code updates zones queries op) ≡ zones
same_by zones m updates queries ops.Query other differs = same_by_name zones m queries other
same_by zones m updates queries ops.Status other differs = refl
same_by zones m updates queries ops.Notify other differs = refl
same_by zones m updates queries ops.Update other differs = absurd (differs refl)
same_by zones m updates queries (ops.Unknown number) other differs = refl

-- an update without permission leads to no zone
refused_route : (zones : List ZoneContent) (m : Message) (queries : List Query) (op : OpCode) → op ≡ ops.Update → zones_by zones m (route_by_code may.Refused zones queries op) ≡ zones
refused_route zones m queries ops.Query is = absurd (cc is)
refused_route zones m queries ops.Status is = absurd (cc is)
refused_route zones m queries ops.Notify is = absurd (cc is)
refused_route zones m queries ops.Update is = refl
refused_route zones m queries (ops.Unknown number) is = absurd (cc is)

module _ (zones : List ZoneContent) (m : Message) where
  other_kept : (answering : Answering) (updates : Updates) → (m.metadata.op_code ≡ ops.Update → ⊥) → zones_served answering updates zones m ≡ zones
  other_kept Plain updates other = same_by zones m updates m.queries m.metadata.op_code other other
  other_kept (Whole any serials) updates other = by_op m.metadata.op_code other
    where
      by_op : (op : OpCode) → (op ≡ ops.Update → ⊥) → zones_by_op serials updates op zones m ≡ zones
      by_op ops.Query differs = refl
      by_op ops.Status differs = refl
      by_op ops.Notify differs = refl
      by_op ops.Update differs = absurd (differs refl)
      by_op (ops.Unknown number) differs = refl

  refused_kept : (answering : Answering) → m.metadata.op_code ≡ ops.Update → zones_served answering may.Refused zones m ≡ zones
  refused_kept Plain is = refused_route zones m m.queries m.metadata.op_code is
  refused_kept (Whole any serials) is = subst (λ (op : OpCode). zones_by_op serials may.Refused op zones m ≡ zones) (sym is) refl

-- the zones stay where no update is allowed
pub refused_stay : (answering : Answering) (zones : List ZoneContent) (m : Message) → zones_served answering may.Refused zones m ≡ zones
refused_stay answering zones m = by (update_or_not m.metadata.op_code)
  where
    by : (m.metadata.op_code ≡ ops.Update) ⊎ (m.metadata.op_code ≡ ops.Update → ⊥) → zones_served answering may.Refused zones m ≡ zones
    by (inl is) = refused_kept zones m answering is
    by (inr other) = other_kept zones m answering may.Refused other
