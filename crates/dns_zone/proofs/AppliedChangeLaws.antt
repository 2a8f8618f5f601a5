-- The difference that an update makes in a zone.
use Rattle.std.proofs.Common.{◌≡◌, ◌∙◌, List, [], ◌∷◌, map, refl, sym, ap, subst, Option, Some, None, unwrap_or}
use Rattle.std.proofs.lemmas.List.{append-nil}
use Rattle.std.specs.FinMap as rows_map
use Rattle.std.specs.List.{flat_map, IsDistinct}
use Rattle.std.specs.Prelude.{IfSome}
use Rattle.dns_wire.specs.declared.codes.record_type.RecordType.{RecordType}
use Rattle.dns_names.specs.Name.{DomainName}
use Rattle.dns_differences.specs.declared.difference.Difference.{Difference}
use Rattle.dns_messages.specs.Sound.{IsSound}
use Rattle.dns_messages.specs.declared.message.Message.{Message}
use Rattle.dns_messages.specs.declared.response_code.ResponseCode.TheVariants.{NoError}
use Rattle.dns_records.specs.Record.{Record}
use Rattle.dns_records.specs.RecordSet.{RecordSetValue, AreDistinct}
use Rattle.dns_records.specs.Rows.{key_of, set_of, type_of_record}
use Rattle.dns_records.specs.declared.row.Row.{Row}
use Rattle.dns_updates.specs.Change.{update_change, with_row}
use Rattle.dns_updates.specs.Changes.{overlay, AreInOrder}
use Rattle.dns_updates.specs.Code.{update_code}
use Rattle.dns_updates.specs.declared.changes.changed_set.ChangedSet.{ChangedSet}
use Rattle.dns_updates.proofs.PutLaws.{put_rows, puts}
use Rattle.dns_zone.specs.Answer.{record_of}
use Rattle.dns_zone.specs.Change.{IsChange}
use Rattle.dns_zone.specs.Rows.{Key, Rows, ZoneContent, row_data, row_of, rows_of, rows_at, rows_of_sets, zone_of, AreRowsAt, IsZone}
use Rattle.dns_zone.specs.Sets.{set_at}
use Rattle.dns_zone.specs.internal.Change.{qualified, records_added, records_deleted, rows_lacking, rows_put, rows_replaced}
use Rattle.dns_zone.specs.internal.Store.{IsSingle}
use Rattle.dns_zone.proofs.DifferenceLaws.{is_change, one_in_order}
use Rattle.dns_zone.proofs.PutRowLaws.{put_is, replaced_is}
use Rattle.dns_zone.proofs.SingleLaws.{records_in, rows_there, single_change, single_set}
use Rattle.dns_zone.proofs.UpdatedLaws.{zone_kept}

pub update_difference : (origin : DomainName) (sets : List RecordSetValue) (zone : ZoneContent) (changed : List ChangedSet) (m : Message) (d : Difference) → zone_of origin sets ≡ zone → IsZone zone → IsSound m
    → update_code zone.origin zone.rows m ≡ NoError → overlay zone.rows changed ≡ update_change zone.origin zone.rows m → AreInOrder changed
    → d.deleted.items ≡ flat_map (records_deleted (rows_of_sets sets)) changed → d.added.items ≡ flat_map (records_added (rows_of_sets sets)) changed
    → IsChange zone.rows (update_change zone.origin zone.rows m) d
update_difference origin sets zone changed m d view is sound ok changes sorted deleted added =
    let after : IsZone (record zone { rows = overlay zone.rows changed }) =
    subst (λ (rows : Rows). IsZone (record zone { rows = rows })) (sym changes) (zone_kept zone m is sound ok) in
    subst (λ (rows : Rows). IsChange zone.rows rows d) changes
    (is_change zone changed sorted is after d (deleted ∙ ap (λ (z : ZoneContent). flat_map (records_deleted z.rows) changed) view)
    (added ∙ ap (λ (z : ZoneContent). flat_map (records_added z.rows) changed) view))

-- ---- one row

distinct_at : (zone : ZoneContent) (k : Key) → IsZone zone → AreDistinct row_data (unwrap_or (rows_map.get zone.rows k) [])
unfolding IsDistinct
distinct_at zone k is = by (rows_map.get zone.rows k) (is.rows k)
  where
    by : (o : Option (List Row)) → IfSome o (AreRowsAt zone.origin k) → AreDistinct row_data (unwrap_or o [])
    by None h = tt
    by (Some rows) h = h.distinct

-- the rows of the set with the row
put_set : (sets : List RecordSetValue) (r : Record) → rows_of (single_set sets r).records ≡ with_row (set_of (rows_of_sets sets) r) (row_of r)
unfolding single_set
put_set sets r =
    put_rows (records_in (set_at sets (key_of r))) r ∙ ap (λ (rows : List Row). with_row rows (row_of r)) (rows_there sets r (set_at sets (key_of r)) refl)

single_deleted : (sets : List RecordSetValue) (r : Record) → records_deleted (rows_of_sets sets) (single_set sets r)
    ≡ map (record_of (qualified r.name)) (rows_lacking (rows_of (single_set sets r).records) (set_of (rows_of_sets sets) r))
unfolding single_set
single_deleted sets r = refl

single_added : (sets : List RecordSetValue) (r : Record) → records_added (rows_of_sets sets) (single_set sets r)
    ≡ map (record_of (qualified r.name)) (rows_lacking (set_of (rows_of_sets sets) r) (rows_of (single_set sets r).records))
unfolding single_set
single_added sets r = refl

pub put_change : (origin : DomainName) (sets : List RecordSetValue) (m : Message) (r : Record) (new : ZoneContent) (d : Difference) → IsZone (zone_of origin sets) → IsZone new
    → new ≡ record (zone_of origin sets) { rows = update_change origin (rows_of_sets sets) m } → IsSingle (zone_of origin sets) m r
    → d.deleted.items ≡ map (record_of (qualified r.name)) (rows_replaced (set_of (rows_of_sets sets) r) (row_of r))
    → d.added.items ≡ map (record_of (qualified r.name)) (rows_put (set_of (rows_of_sets sets) r) (row_of r))
    → IsChange (rows_of_sets sets) new.rows d
put_change origin sets m r new d is is_new changes single deleted added =
    let rows : overlay (rows_of_sets sets) (single_set sets r ∷ []) ≡ update_change origin (rows_of_sets sets) m =
    single_change origin sets m r single.only (puts origin (rows_of_sets sets) r.dns_class r single.is_put) in
    let after_is : ◌≡◌ {A = ZoneContent} new (record (zone_of origin sets) { rows = overlay (rows_of_sets sets) (single_set sets r ∷ []) }) =
    changes ∙ (λ i. record { origin = origin; rows = sym rows i }) in
    let distinct = distinct_at (zone_of origin sets) (key_of r) is in
    subst (λ (z : ZoneContent). IsChange (rows_of_sets sets) z.rows d) (sym after_is)
    (is_change (zone_of origin sets) (single_set sets r ∷ []) (one_in_order (single_set sets r)) is (subst IsZone after_is is_new) d
    (deleted ∙ ap (map (record_of (qualified r.name))) (sym (replaced_is (set_of (rows_of_sets sets) r) (row_of r) distinct))
    ∙ ap (λ (rows : List Row). map (record_of (qualified r.name)) (rows_lacking rows (set_of (rows_of_sets sets) r))) (sym (put_set sets r))
    ∙ sym (single_deleted sets r) ∙ sym (append-nil (records_deleted (rows_of_sets sets) (single_set sets r))))
    (added ∙ ap (map (record_of (qualified r.name))) (sym (put_is (set_of (rows_of_sets sets) r) (row_of r) distinct))
    ∙ ap (λ (rows : List Row). map (record_of (qualified r.name)) (rows_lacking (set_of (rows_of_sets sets) r) rows)) (sym (put_set sets r))
    ∙ sym (single_added sets r) ∙ sym (append-nil (records_added (rows_of_sets sets) (single_set sets r)))))

-- the same by the zone that the sets make, and the records that are stored
pub single_put : (origin : DomainName) (sets : List RecordSetValue) (old new : ZoneContent) (m : Message) (r : Record) (stored : List Record) (t : RecordType) (d : Difference)
    → zone_of origin sets ≡ old → IsZone old → IsZone new → new ≡ record old { rows = update_change old.origin old.rows m } → IsSingle old m r
    → rows_of stored ≡ rows_at (rows_of_sets sets) r.name.labels t → t ≡ type_of_record r
    → d.deleted.items ≡ map (record_of (qualified r.name)) (rows_replaced (rows_of stored) (row_of r))
    → d.added.items ≡ map (record_of (qualified r.name)) (rows_put (rows_of stored) (row_of r))
    → IsChange old.rows new.rows d
single_put origin sets old new m r stored t d view is is_new changes single at of_type deleted added =
    let there : rows_of stored ≡ set_of (rows_of_sets sets) r = at ∙ ap (λ (t : RecordType). rows_at (rows_of_sets sets) r.name.labels t) of_type in
    subst (λ (z : ZoneContent). IsZone z → ◌≡◌ {A = ZoneContent} new (record z { rows = update_change z.origin z.rows m }) → IsSingle z m r → IsChange z.rows new.rows d) view
    (λ before made one. put_change origin sets m r new d before is_new made one
    (deleted ∙ ap (λ (l : List Row). map (record_of (qualified r.name)) (rows_replaced l (row_of r))) there)
    (added ∙ ap (λ (l : List Row). map (record_of (qualified r.name)) (rows_put l (row_of r))) there)) is changes single

-- the same before it is put
pub single_difference : (origin : DomainName) (sets : List RecordSetValue) (zone : ZoneContent) (m : Message) (r : Record) (stored : List Record) (t : RecordType) (d : Difference)
    → zone_of origin sets ≡ zone → IsZone zone → IsSound m → update_code zone.origin zone.rows m ≡ NoError → IsSingle zone m r
    → rows_of stored ≡ rows_at (rows_of_sets sets) r.name.labels t → t ≡ type_of_record r
    → d.deleted.items ≡ map (record_of (qualified r.name)) (rows_replaced (rows_of stored) (row_of r))
    → d.added.items ≡ map (record_of (qualified r.name)) (rows_put (rows_of stored) (row_of r))
    → IsChange zone.rows (update_change zone.origin zone.rows m) d
single_difference origin sets zone m r stored t d view is sound ok single at of_type deleted added =
    single_put origin sets zone (record zone { rows = update_change zone.origin zone.rows m }) m r stored t d view is (zone_kept zone m is sound ok) refl single at of_type deleted added
