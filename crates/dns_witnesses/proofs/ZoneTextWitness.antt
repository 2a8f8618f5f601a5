-- A DS record, a record of a type without a name, and a TXT record: their lines parse back as a zone file of all types, to these records
-- alone. So do the texts of a zone with such records, also behind the line that states its origin. Data of the type DS that is not its
-- fields cannot be stated.
use Rattle.std.proofs.Common.{◌≡◌, ◌∙◌, arith, ℕ, true, false, List, [], ◌∷◌, ◌++◌, get_or, map, refl, sym, ap, subst, Option, Some, None, Result, Ok, Err}
use Rattle.std.specs.Prelude.{codes}
use Rattle.std.specs.FinMap as rows_map
use Rattle.std.specs.Fmt.{digits}
use Rattle.std.specs.List.{AllByRecursion, IsDistinct}
use Rattle.dns_wire.specs.Name.{AreLabels}
use Rattle.dns_wire.specs.declared.codes.dns_class.DNSClass.TheVariants.{IN}
use Rattle.dns_wire.specs.declared.codes.record_type.RecordType.{RecordType}
use Rattle.dns_wire.specs.declared.codes.record_type.RecordType.TheVariants as types
use Rattle.dns_names.specs.Build.{root_name}
use Rattle.dns_names.specs.Name.{DomainName}
use Rattle.dns_names.specs.Print.{AreOctets}
use Rattle.dns_data.specs.rdata.{is_update_data, IsSoundData}
use Rattle.dns_data.specs.declared.rdata.RData.{RData}
use Rattle.dns_data.specs.declared.rdata.RData.TheVariants as of
use Rattle.dns_records.specs.Record.{Record}
use Rattle.dns_records.specs.RecordSet.{RecordSetValue}
use Rattle.dns_records.specs.Rows.{Key, row_of, rows_of, set_key}
use Rattle.dns_records.specs.declared.row.Row.{Row}
use Rattle.dns_zone_file.specs.declared.context.Context.{Context}
use Rattle.dns_zone_file.specs.declared.error.ZoneFileError.{ZoneFileError}
use Rattle.dns_zone_file.specs.declared.parser.ZoneRecords.{ZoneRecords}
use Rattle.dns_zone_file.specs.declared.types.Types.TheVariants.{All}
use Rattle.dns_zone_file.specs.Parsing.{HasRecords, ParsesIn, context_in, zone_records}
use Rattle.dns_zone_file.specs.Printed.{after_records, lines_of, printed_records}
use Rattle.dns_zone_file.proofs.OutcomeLaws.{same_parse}
use Rattle.dns_zone.specs.Load.{ReadsZoneIn, zone_origin}
use Rattle.dns_zone.specs.Load.ReadsZoneIn.{good_zone}
use Rattle.dns_zone.specs.Printed.{AreZoneSets, IsZoneText}
use Rattle.dns_zone.specs.Rows.{AreSoundSets, ZoneContent, rows_of_sets, zone_of}
use Rattle.dns_zone.proofs.RowLaws.{key_total}
use Rattle.dns_durable.specs.zone_texts.Stated.{AreStatedRecords, IsStated, IsStatedData, IsStatedRecord, IsStatedSet}
use Rattle.dns_durable.proofs.FileLaws.{lines_contain, lines_parse}
use Rattle.dns_durable.proofs.StatedLaws.{stated_zone}
use Rattle.dns_durable.proofs.ZoneLaws.{file_reads, text_reads}

-- ---- the records

-- the name `z.`, which is the origin of the zone, and the name `c.z.`
abbrev apex : DomainName
apex = record { is_fqdn = true; labels = (122 ∷ []) ∷ [] }

abbrev host : DomainName
host = record { is_fqdn = true; labels = (99 ∷ []) ∷ (122 ∷ []) ∷ [] }

abbrev record_at : DomainName → RData → Record
record_at owner rdata = record { name = owner; dns_class = IN; ttl = 60; rdata = rdata }

-- the digest of a key of `c.z.`
abbrev digest : Record
digest = record_at host (of.Unknown types.DS (0 ∷ 1 ∷ 8 ∷ 2 ∷ 171 ∷ []))

-- data of the type 65280, which has no format
abbrev private_with : ℕ → Record
private_with byte = record_at host (of.Unknown (types.Unknown 65280) (1 ∷ byte ∷ []))

abbrev note : Record
note = record_at host (of.TXT ((97 ∷ []) ∷ []))

abbrev records : List Record
records = digest ∷ private_with 2 ∷ note ∷ []

host_labels : AreLabels host.labels
host_labels = record { each = (record { some = omega arith; most = omega arith }, (record { some = omega arith; most = omega arith }, tt)); fits = omega arith }

host_octets : AllByRecursion AreOctets host.labels
host_octets = ((omega arith, tt), ((omega arith, tt), tt))

apex_labels : AreLabels apex.labels
apex_labels = record { each = (record { some = omega arith; most = omega arith }, tt); fits = omega arith }

apex_octets : AllByRecursion AreOctets apex.labels
apex_octets = ((omega arith, tt), tt)

-- ---- their data

digest_sound : IsSoundData digest.rdata
digest_sound = record { values = (λ e. absurd (cc), tt); fields = refl; type_fits = omega arith; type_named = refl; fits = omega arith }

private_sound : IsSoundData (private_with 2).rdata
private_sound = record { values = (λ e. absurd (cc), tt); fields = refl; type_fits = omega arith; type_named = refl; fits = omega arith }

note_sound : IsSoundData note.rdata
note_sound = record { values = ((λ e. absurd (cc), (omega arith, tt)), tt); fields = refl; type_fits = omega arith; type_named = refl; fits = omega arith }

digest_stated : IsStatedData digest.rdata
digest_stated = record { filled = omega arith; octets = (omega arith, (omega arith, (omega arith, (omega arith, (omega arith, tt))))); in_zones = refl; fields = refl }

private_stated : IsStatedData (private_with 2).rdata
private_stated = record { filled = omega arith; octets = (omega arith, (omega arith, tt)); in_zones = refl; fields = tt }

note_stated : IsStatedData note.rdata
note_stated = record { valid = (((omega arith, tt), tt), tt); has_text = refl }

-- a digest without its last field cannot be stated
pub short_is_not_stated : IsStatedData (of.Unknown types.DS (0 ∷ 1 ∷ 8 ∷ 2 ∷ [])) → ⊥
short_is_not_stated stated = let never : false ≡ true = stated.fields in absurd (cc)

-- ---- the lines of the records

stated_record : (rdata : RData) → IsSoundData rdata → IsStatedData rdata → is_update_data rdata ≡ false → IsStatedRecord (record_at host rdata)
stated_record rdata sound stated has_data = record {
  fqdn = refl;
  labels = host_labels;
  octets = host_octets;
  dns_class = refl;
  ttl_fits = omega arith;
  sound = sound;
  has_data = has_data;
  rdata = stated;
}

pub are_stated : AreStatedRecords records
are_stated = (
  stated_record digest.rdata digest_sound digest_stated refl,
  (stated_record (private_with 2).rdata private_sound private_stated refl, (stated_record note.rdata note_sound note_stated refl, tt)),
)

abbrev lines : List ℕ
lines = codes "c.z. 60 IN DS \\# 5 00010802ab\nc.z. 60 IN TYPE65280 \\# 2 0102\nc.z. 60 IN TXT \"a\"\n"

lines_are : lines_of records ≡ lines
unfolding digits
lines_are = refl

-- the context after the lines
abbrev end : Context
end = after_records (context_in All root_name) records

pub lines_parse_back : ParsesIn All [] None lines (Ok end)
lines_parse_back = subst (λ (l : List ℕ). ParsesIn All [] None l (Ok end)) lines_are (lines_parse [] None records are_stated)

-- they contain the records, and no origin
pub lines_have_records : HasRecords (record { text = lines; includes = []; origin = None; types = All }) (printed_records None records)
lines_have_records =
    subst (λ (l : List ℕ). HasRecords (record { text = l; includes = []; origin = None; types = All }) (printed_records None records)) lines_are (lines_contain [] None records are_stated)

-- and have no fault
pub lines_have_no_fault : (error : ZoneFileError) → ParsesIn All [] None lines (Err error) → ⊥
lines_have_no_fault error refused = let never : Ok end ≡ Err error = same_parse (Err error) lines_parse_back refused in absurd (cc)

-- ---- a zone

abbrev start : Record
start = record_at apex (of.SOA (record { mname = apex; rname = apex; serial = 5; refresh = 4; retry = 3; expire = 2; minimum = 1 }))

abbrev set_of : RecordType → Record → RecordSetValue
set_of record_type r = record { name = r.name; record_type = record_type; dns_class = IN; ttl = 60; serial = 0; records = r ∷ [] }

-- with a byte of the data of type 65280
abbrev sets_with : ℕ → List RecordSetValue
sets_with byte = set_of types.SOA start ∷ set_of types.DS digest ∷ set_of (types.Unknown 65280) (private_with byte) ∷ set_of types.TXT note ∷ []

abbrev zone_with : ℕ → ZoneContent
zone_with byte = zone_of apex (sets_with byte)

abbrev zone : ZoneContent
zone = zone_with 2

start_sound : IsSoundData start.rdata
start_sound = record {
  values = (refl, (refl, (omega arith, (omega arith, (omega arith, (omega arith, (omega arith, tt)))))));
  fields = refl;
  type_fits = omega arith;
  type_named = refl;
  fits = omega arith;
}

start_stated : IsStatedData start.rdata
start_stated = record { valid = ((apex_labels, apex_octets), ((apex_labels, apex_octets), (tt, (tt, (tt, (tt, (tt, tt))))))); has_text = refl }

sets_sound : AreSoundSets (sets_with 2)
unfolding IsDistinct
sets_sound = (
  record { fqdn = refl; type_named = refl; filled = omega arith; rows = (record { ttl_fits = omega arith; rdata = record { sound = start_sound; not_opt = refl; not_tsig = refl; has_data = refl } }, tt); of_type = (refl, tt); distinct = (tt, tt); single = λ e. refl },
  (
    record { fqdn = refl; type_named = refl; filled = omega arith; rows = (record { ttl_fits = omega arith; rdata = record { sound = digest_sound; not_opt = refl; not_tsig = refl; has_data = refl } }, tt); of_type = (refl, tt); distinct = (tt, tt); single = λ e. refl },
    (
      record { fqdn = refl; type_named = refl; filled = omega arith; rows = (record { ttl_fits = omega arith; rdata = record { sound = private_sound; not_opt = refl; not_tsig = refl; has_data = refl } }, tt); of_type = (refl, tt); distinct = (tt, tt); single = λ e. refl },
      (
        record { fqdn = refl; type_named = refl; filled = omega arith; rows = (record { ttl_fits = omega arith; rdata = record { sound = note_sound; not_opt = refl; not_tsig = refl; has_data = refl } }, tt); of_type = (refl, tt); distinct = (tt, tt); single = λ e. refl },
        tt,
      ),
    ),
  ),
)

sets_kept : AreZoneSets apex (sets_with 2)
unfolding IsDistinct
sets_kept = record { start_first = refl; distinct = ((refl, (refl, (refl, tt))), ((refl, (refl, tt)), ((refl, tt), (tt, tt)))); faultless = refl }

sets_stated : AllByRecursion IsStatedSet (sets_with 2)
sets_stated = (
  record { owner = (apex_labels, apex_octets); rdata = (start_stated, tt) },
  (
    record { owner = (host_labels, host_octets); rdata = (digest_stated, tt) },
    (record { owner = (host_labels, host_octets); rdata = (private_stated, tt) }, (record { owner = (host_labels, host_octets); rdata = (note_stated, tt) }, tt)),
  ),
)

pub is_stated : IsStated zone
is_stated = stated_zone zone (sets_with 2) refl sets_stated

abbrev text : List ℕ
text = codes "z. 60 IN SOA z. z. 5 4 3 2 1\n" ++ lines

pub is_text : IsZoneText zone text
unfolding digits
is_text = record { sets = sets_with 2; origin_fqdn = refl; rows = refl; sound = sets_sound; kept = sets_kept; text_is = refl }

pub text_is_read : ReadsZoneIn All [] None text (Ok zone)
text_is_read = text_reads zone text is_text is_stated

-- ---- no other zone is read

the_same : (outcome : Result Context ZoneFileError) (a b : Context) → outcome ≡ Ok a → outcome ≡ Ok b → a ≡ b
the_same outcome a b e f = cc

the_origin : (a b : DomainName) → Some a ≡ Some b → a ≡ b
the_origin a b e = cc

one_zone : (file : List ℕ) (a b : ZoneContent) → ReadsZoneIn All [] None file (Ok a) → ReadsZoneIn All [] None file (Ok b) → a ≡ b
one_zone file a b (good_zone {records = one} {apex = here} has here_is good) (good_zone {records = two} {apex = there} too there_is fine) =
    let ends : has.context ≡ too.context = the_same (Ok has.context) has.context too.context refl (same_parse (Ok too.context) has.parses too.parses) in
    let same : one ≡ two = has.records_are ∙ ap zone_records ends ∙ sym too.records_are in
    let origins : here ≡ there = the_origin here there (sym here_is ∙ ap (λ (r : ZoneRecords). zone_origin None r.soa_owner) same ∙ there_is) in
    λ i. record { origin = origins i; rows = rows_of_sets (same i).sets }

pub only_zone : (other : ZoneContent) → ReadsZoneIn All [] None text (Ok other) → other ≡ zone
only_zone other reads = one_zone text other zone reads text_is_read

abbrev private_key : Key
private_key = ((99 ∷ []) ∷ (122 ∷ []) ∷ [], 65280)

private_at : (byte : ℕ) → rows_map.get (zone_with byte).rows private_key ≡ Some (row_of (private_with byte) ∷ [])
private_at byte =
    rows_map.get-from_entries key_total (map (λ (s : RecordSetValue). (set_key s, rows_of s.records)) (sets_with byte)) private_key

abbrev second_byte : RData → ℕ
second_byte (of.Unknown record_type bytes) = get_or bytes 1 0
second_byte other = 0

abbrev last_byte : Option (List Row) → ℕ
last_byte (Some (row ∷ rows)) = second_byte row.rdata
last_byte other = 0

-- not one with another byte
pub no_other_byte : ReadsZoneIn All [] None text (Ok (zone_with 3)) → ⊥
no_other_byte reads =
    let other : 3 ≡ 2 =
    ap last_byte (sym (private_at 3) ∙ ap (λ (z : ZoneContent). rows_map.get z.rows private_key) (only_zone (zone_with 3) reads) ∙ private_at 2) in
    absurd (omega (arith, other))

-- ---- behind the line of the origin

abbrev file : List ℕ
file = codes "$ORIGIN z.\n" ++ text

pub file_is_read : ReadsZoneIn All [] None file (Ok zone)
file_is_read = file_reads zone text is_text is_stated

pub file_has_no_other_byte : ReadsZoneIn All [] None file (Ok (zone_with 3)) → ⊥
file_has_no_other_byte reads =
    let other : 3 ≡ 2 =
    ap last_byte (sym (private_at 3) ∙ ap (λ (z : ZoneContent). rows_map.get z.rows private_key) (one_zone file (zone_with 3) zone reads file_is_read) ∙ private_at 2) in
    absurd (omega (arith, other))
