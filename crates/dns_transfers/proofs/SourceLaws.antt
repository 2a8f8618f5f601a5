-- The records of differences, one after another.
use Rattle.std.proofs.Common.{◌≡◌, ◌∙◌, ◌||◌, ◌&&◌, ◌+◌, ℕ, Bool, true, false, not, List, [], ◌∷◌, ◌++◌, map, flat_map, refl, sym, ap, unwrap_or, Option, Some, None}
use Rattle.std.proofs.lemmas.List.{append_assoc}
use Rattle.std.specs.Prelude.{IfSome}
use Rattle.std.specs.FinMap as rows_map
use Rattle.std.specs.List.{AllByRecursion}
use Rattle.dns_wire.specs.declared.codes.record_type.RecordType.TheVariants as types
use Rattle.dns_messages.specs.declared.message.Message.{Message}
use Rattle.dns_messages.specs.Sound.{IsSound, IsSoundIn}
use Rattle.dns_data.specs.rdata.{data_type, is_update_data}
use Rattle.dns_messages.specs.Section.{is_tsig_type}
use Rattle.dns_names.specs.Name.{DomainName}
use Rattle.dns_records.specs.Record.{Record}
use Rattle.dns_records.specs.Rows.{key, rows_of}
use Rattle.dns_records.specs.declared.row.Row.{Row}
use Rattle.dns_transfers.specs.Records.{owned_record}
use Rattle.dns_transfers.specs.Sending.{AreRead}
use Rattle.dns_transfers.proofs.SendingLaws.{all_arrive}
use Rattle.dns_zone.specs.Answer.{record_of}
use Rattle.dns_zone.specs.Rows.{ZoneContent, AreRowsAt, AreSoundRows, IsSoundRow, IsZone, row_of, rows_at}
use Rattle.dns_zone.proofs.AnswerLaws.{sound_records}
use Rattle.dns_differences.specs.declared.difference.Difference.{Difference}
use Rattle.dns_transfers.specs.incremental.DifferenceRecords.{incremental_records, owned_by, records_of, with_owners}
use Rattle.dns_transfers.specs.incremental.Messages.{soa_records, IsSoundDifference, SendsDifferences}

-- ---- going on

-- one part is over, and the next difference begins
pub part_over : (records added last : List Record) (ds more : List Difference) (d : Difference) → records ≡ [] → added ≡ [] → ds ≡ d ∷ more
    → with_owners d.deleted.items ++ (with_owners d.added.items ++ (flat_map records_of more ++ last))
    ≡ with_owners records ++ (with_owners added ++ (flat_map records_of ds ++ last))
part_over records added last ds more d none over e =
    sym (append_assoc (with_owners d.deleted.items) (with_owners d.added.items) (flat_map records_of more ++ last))
    ∙ sym (append_assoc (records_of d) (flat_map records_of more) last)
    ∙ (λ i. with_owners (sym none i) ++ (with_owners (sym over i) ++ (flat_map records_of (sym e i) ++ last)))

-- ---- the SOA record

pub stored_soa : (origin : DomainName) (stored : List Record) → map (record_of origin) (rows_of stored) ≡ owned_by origin stored
stored_soa origin [] = refl
stored_soa origin (r ∷ rs) = ap (λ (l : List Record). owned_record origin r ∷ l) (stored_soa origin rs)

-- ---- sound records

all_parts : {A : Type 0} (P : A → Type 0) (xs ys : List A) → AllByRecursion P xs → AllByRecursion P ys → AllByRecursion P (xs ++ ys)
all_parts P [] ys a b = b
all_parts P (x ∷ xs) ys a b = (a.0, all_parts P xs ys a.1 b)

soa_sound : (zone : ZoneContent) → IsZone zone → AllByRecursion (IsSoundIn false) (soa_records zone)
soa_sound zone is = sound_records zone.origin (rows_at zone.rows zone.origin.labels types.SOA) is.origin_fqdn (by (rows_map.get zone.rows (key zone.origin.labels types.SOA)) (is.rows (key zone.origin.labels types.SOA)))
  where
    by : (o : Option (List Row)) → IfSome o (AreRowsAt zone.origin (key zone.origin.labels types.SOA)) → AreSoundRows (unwrap_or o [])
    by None h = tt
    by (Some rows) h = h.sound

no_update : (b : Bool) → (false || not b) ≡ true → b ≡ false
no_update true e = absurd (cc)
no_update false e = refl

no_tsig : (t u : Bool) → (t && not u) ≡ false → u ≡ false → t ≡ false
no_tsig true true e f = absurd (cc)
no_tsig true false e f = absurd (cc)
no_tsig false u e f = refl

owned_sound : (r : Record) → IsSoundIn false r → IsSoundIn false (owned_record r.name r)
owned_sound r s =
    let row : IsSoundRow (row_of r) = record {
      ttl_fits = s.sound.ttl_fits;
      rdata = record { sound = s.sound.rdata; not_opt = s.not_opt; not_tsig = no_tsig (is_tsig_type (data_type r.rdata)) (is_update_data r.rdata) s.not_signature (no_update (is_update_data r.rdata) s.has_data); has_data = no_update (is_update_data r.rdata) s.has_data };
    } in
    (sound_records r.name (row_of r ∷ []) s.sound.fqdn (row, tt)).0

all_owned_sound : (rs : List Record) → AllByRecursion (IsSoundIn false) rs → AllByRecursion (IsSoundIn false) (with_owners rs)
all_owned_sound [] all = tt
all_owned_sound (r ∷ rs) all = (owned_sound r all.0, all_owned_sound rs all.1)

differences_sound : (ds : List Difference) → AllByRecursion IsSoundDifference ds → AllByRecursion (IsSoundIn false) (flat_map records_of ds)
differences_sound [] all = tt
differences_sound (d ∷ ds) all =
    all_parts (IsSoundIn false) (records_of d) (flat_map records_of ds)
    (all_parts (IsSoundIn false) (with_owners d.deleted.items) (with_owners d.added.items) (all_owned_sound d.deleted.items all.0.deleted) (all_owned_sound d.added.items all.0.added))
    (differences_sound ds all.1)

incremental_sound : (soa : List Record) (ds : List Difference) → AllByRecursion (IsSoundIn false) soa → AllByRecursion IsSoundDifference ds
    → AllByRecursion (IsSoundIn false) (incremental_records soa ds)
incremental_sound soa [] first all = first
incremental_sound soa (d ∷ ds) first all =
    all_parts (IsSoundIn false) soa (flat_map records_of (d ∷ ds) ++ soa) first
    (all_parts (IsSoundIn false) (flat_map records_of (d ∷ ds)) soa (differences_sound (d ∷ ds) all) first)

pub differences_arrive : (zone : ZoneContent) (ds : List Difference) (request : Message) (messages : List (List ℕ)) → IsSound request → IsZone zone
    → AllByRecursion IsSoundDifference ds → SendsDifferences zone ds request messages
    → (decoded : List Message) × (AreRead messages decoded × (flat_map (λ m. m.answers) decoded ≡ incremental_records (soa_records zone) ds))
differences_arrive zone ds request messages sound is all sends =
    all_arrive request (incremental_records (soa_records zone) ds) messages sound (incremental_sound (soa_records zone) ds (soa_sound zone is) all) sends
