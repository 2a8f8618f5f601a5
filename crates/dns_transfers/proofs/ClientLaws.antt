-- What a client reads in the messages of an incremental transfer, and has once it has applied it.
use Rattle.std.proofs.Common.{◌≡◌, ◌∙◌, ℕ, true, List, [], ◌∷◌, map, flat_map, length, refl, sym, ap, subst, arith, is_some, unwrap_or, Option, Some, None}
use Rattle.std.specs.Prelude.{IfSome}
use Rattle.std.specs.FinMap as rows_map
use Rattle.std.specs.List.{AllByRecursion, Contains}
use Rattle.dns_wire.specs.codes.RecordType.{type_of}
use Rattle.dns_wire.specs.declared.codes.record_type.RecordType.TheVariants as types
use Rattle.dns_data.specs.declared.rdata.RData.{RData}
use Rattle.dns_data.specs.declared.rdata.RData.TheVariants as of
use Rattle.dns_data.specs.rdata.{data_type, kinds_of_type}
use Rattle.dns_messages.specs.declared.message.Message.{Message}
use Rattle.dns_messages.specs.Sound.{IsSound}
use Rattle.dns_messages.proofs.MessageLaws.{message_same}
use Rattle.dns_records.specs.Record.{Record}
use Rattle.dns_records.specs.Rows.{key}
use Rattle.dns_records.specs.declared.row.Row.{Row}
use Rattle.dns_zone.specs.Answer.{record_of}
use Rattle.dns_zone.specs.Rows.{ZoneContent, AreRowsAt, IsSoundRowData, IsZone}
use Rattle.dns_differences.specs.declared.difference.Difference.{Difference}
use Rattle.dns_differences.specs.Difference.{applied_all, serial_of, AreRecordsOf, HasSerial}
use Rattle.dns_differences.specs.History.{since}
use Rattle.dns_transfers.specs.Sending.{AreRead}
use Rattle.dns_transfers.specs.incremental.Messages.{soa_records, IsSoundDifference, SendsDifferences}
use Rattle.dns_transfers.specs.incremental.DifferenceRecords.{incremental_records}
use Rattle.dns_transfers.specs.incremental.Reading.{changed_by_all, is_soa, sequence_of, IsSequence, Reads, Sequence}
use Rattle.dns_transfers.specs.incremental.Versions.{AreKnown, AreToldApart, AreVersions, Version}
use Rattle.dns_transfers.proofs.ReadingLaws.{all_applied, read_back, read_once}
use Rattle.dns_transfers.proofs.SourceLaws.{differences_arrive}
use Rattle.dns_transfers.proofs.VersionLaws.{reaches_from}

-- ---- the SOA record of a zone

is_start : (d : RData) → data_type d ≡ types.SOA → IsSoundRowData d → is_some (serial_of d) ≡ true
is_start (of.SOA soa) e is = refl
is_start (of.Update0 t) e is = let never : true ≡ Rattle.std.proofs.Common.false = is.has_data in absurd (cc)
is_start (of.Unknown code bytes) e is = let never = is.sound.fields ∙ ap kinds_of_type e in absurd (cc)
is_start other e is = absurd (cc)

start_alone : (zone : ZoneContent) → IsZone zone → (soa : Record) × ((is_soa soa ≡ true) × (soa_records zone ≡ soa ∷ []))
start_alone zone is = by (rows_map.get zone.rows (key zone.origin.labels types.SOA)) (is.rows (key zone.origin.labels types.SOA)) is.soa
  where
    by : (o : Option (List Row)) → IfSome o (AreRowsAt zone.origin (key zone.origin.labels types.SOA)) → length (unwrap_or o []) ≡ 1
        → (soa : Record) × ((is_soa soa ≡ true) × (map (record_of zone.origin) (unwrap_or o []) ≡ soa ∷ []))
    by None h e = absurd (omega (arith, e))
    by (Some []) h e = absurd (omega (arith, e))
    by (Some (row ∷ [])) h e =
        (record_of zone.origin row, (is_start row.rdata (sym h.sound.0.rdata.sound.type_named ∙ ap type_of h.of_type.0) h.sound.0.rdata, refl))
    by (Some (row ∷ other ∷ more)) h e = absurd (omega (arith, e))

-- ---- what is read

pub reads_back : (zone : ZoneContent) (ds : List Difference) (request : Message) (messages : List (List ℕ)) → IsSound request → IsZone zone
    → AllByRecursion IsSoundDifference ds → AllByRecursion IsSequence (map sequence_of ds) → SendsDifferences zone ds request messages
    → (decoded : List Message) × (AreRead messages decoded × Reads (flat_map (λ m. m.answers) decoded) (map sequence_of ds))
reads_back zone ds request messages sound is all are sends =
    let arrives = differences_arrive zone ds request messages sound is all sends in
    let start = start_alone zone is in
    let read : Reads (incremental_records (soa_records zone) ds) (map sequence_of ds) =
    subst (λ (l : List Record). Reads (incremental_records l ds) (map sequence_of ds)) (sym start.1.1) (read_back start.0 ds start.1.0 are) in
    (arrives.0, (arrives.1.0, subst (λ (l : List Record). Reads l (map sequence_of ds)) (sym arrives.1.1) read))

all_same : (messages : List (List ℕ)) (a b : List Message) → AreRead messages a → AreRead messages b → a ≡ b
all_same [] [] [] one other = refl
all_same [] [] (m ∷ b) one other = absurd other
all_same [] (m ∷ a) b one other = absurd one
all_same (bytes ∷ messages) [] b one other = absurd one
all_same (bytes ∷ messages) (m ∷ a) [] one other = absurd other
all_same (bytes ∷ messages) (m ∷ a) (n ∷ b) one other =
    λ i. message_same bytes m n one.0 other.0 i ∷ all_same messages a b one.1 other.1 i

pub reads_only : (zone : ZoneContent) (ds : List Difference) (request : Message) (messages : List (List ℕ)) (decoded : List Message) (read : List Sequence)
    → IsSound request → IsZone zone → AllByRecursion IsSoundDifference ds → AllByRecursion IsSequence (map sequence_of ds) → SendsDifferences zone ds request messages
    → AreRead messages decoded → Reads (flat_map (λ m. m.answers) decoded) read → read ≡ map sequence_of ds
reads_only zone ds request messages decoded read sound is all are sends here found =
    let back = reads_back zone ds request messages sound is all are sends in
    read_once (flat_map (λ m. m.answers) decoded) read (map sequence_of ds) found
    (subst (λ (l : List Message). Reads (flat_map (λ m. m.answers) l) (map sequence_of ds)) (all_same messages back.0 decoded back.1.0 here) back.1.1)

-- ---- what a client has then

pub client_reaches : (versions : List Version) (zone : ZoneContent) (ds : List Difference) (current serial : ℕ) (d : Difference) (more : List Difference)
    (sent : Version) (request : Message) (messages : List (List ℕ)) (decoded : List Message) (read : List Sequence) (records : List Record)
    → AreVersions versions zone.rows → AreKnown versions ds → AreToldApart versions → Contains versions sent → HasSerial sent.rows serial
    → since ds current serial ≡ Some (d ∷ more) → IsSound request → IsZone zone → AllByRecursion IsSoundDifference (d ∷ more)
    → AllByRecursion IsSequence (map sequence_of (d ∷ more)) → SendsDifferences zone (d ∷ more) request messages
    → AreRead messages decoded → Reads (flat_map (λ m. m.answers) decoded) read → AreRecordsOf sent.rows records
    → AreRecordsOf zone.rows (changed_by_all read records)
client_reaches versions zone ds current serial d more sent request messages decoded read records are k told has_sent has e sound is all sequences sends here found of_sent =
    let same : read ≡ map sequence_of (d ∷ more) = reads_only zone (d ∷ more) request messages decoded read sound is all sequences sends here found in
    let reached : AreRecordsOf zone.rows (applied_all (d ∷ more) records) =
    reaches_from versions zone.rows ds current serial d more sent records are k told has_sent has e of_sent in
    subst (λ (l : List Sequence). AreRecordsOf zone.rows (changed_by_all l records)) (sym same)
    (λ r. all_applied (d ∷ more) records records (λ x. refl) r ∙ reached r)
