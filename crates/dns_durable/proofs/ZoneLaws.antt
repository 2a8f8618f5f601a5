-- A text of a zone parses back as a zone file of all types.
use Rattle.std.proofs.Common.{◌≡◌, ◌==◌, ◌<◌, ◌≤◌, ◌+◌, ◌∙◌, ℕ, suc, Bool, true, false, not, cond, ◌&&◌, ◌||◌, List, [], ◌∷◌, ◌++◌, map, flat_map, length, refl, sym, ap, subst, arith, Option, Some, None, option_map, Ok}
use Rattle.std.specs.Prelude.{IfSome, nat_lt}
use Rattle.std.proofs.lemmas.List.{append_assoc}
use Rattle.std.proofs.lemmas.Bool.Decides.{nat_tests}
use Rattle.std.specs.Char.{to_ascii_lowercase}
use Rattle.std.specs.FinMap as rows_map
use Rattle.std.specs.List as list
use Rattle.std.specs.List.{list_any, AllByRecursion, IsDistinct}
use Rattle.std.specs.Cmp.{eq_by_cmp_equiv}
use Rattle.std.specs.Str.{str_to_ascii_lowercase}
use Rattle.dns_wire.specs.codes.CodeText.{or_else}
use Rattle.dns_wire.specs.codes.DNSClass.{class_number}
use Rattle.dns_wire.specs.declared.codes.dns_class.DNSClass.TheVariants.{IN}
use Rattle.dns_wire.specs.codes.RecordType.{type_number}
use Rattle.dns_wire.specs.declared.codes.record_type.RecordType.{RecordType}
use Rattle.dns_wire.specs.declared.codes.record_type.RecordType.TheVariants as types
use Rattle.dns_wire.specs.Name.{AreLabels, IsLabel, name_len}
use Rattle.dns_names.specs.Name.{DomainName}
use Rattle.dns_names.specs.Compare.{same_name, same_labels, at_or_below, lower}
use Rattle.dns_names.specs.Build.{root_name}
use Rattle.dns_names.specs.Print.{AreOctets}
use Rattle.dns_names.specs.internal.Compare.{same_name-equivalence}
use Rattle.dns_data.specs.declared.rdata.RData.{RData}
use Rattle.dns_data.specs.declared.rdata.RData.TheVariants as of
use Rattle.dns_data.specs.Field.{Opaque}
use Rattle.dns_data.specs.rdata.{data_type, kinds_of_type, is_update_data, whole_len, HasFieldsOfType}
use Rattle.dns_records.specs.Record.{Record}
use Rattle.dns_records.specs.declared.row.Row.{Row}
use Rattle.dns_records.specs.RecordSet.{RecordSetValue}
use Rattle.dns_zone_file.specs.Context.{soa_of}
use Rattle.dns_zone_file.specs.RecordSets.{is_set_of}
use Rattle.dns_zone_file.specs.Parsed.{AreDistinctSets}
use Rattle.dns_zone_file.specs.declared.types.Types.TheVariants.{All}
use Rattle.dns_zone_file.specs.Parsing.{HasRecords}
use Rattle.dns_zone_file.specs.Printed.{record_line, lines_of, inserted_each, first_soa_owner}
use Rattle.dns_durable.specs.zone_texts.Stated.{AreStatedRecords, IsStatedRow, AreStatedAt, IsStated, with_origin}
use Rattle.dns_durable.proofs.FileLaws.{lines_contain}
use Rattle.dns_durable.proofs.OriginLaws.{file_contains}
use Rattle.dns_zone.specs.Load.{ReadsZoneIn, good_zone, is_internet, is_inside, is_soa, is_apex, has_long_data, fault_of}
use Rattle.dns_zone.specs.Printed.{is_start, AreZoneSets, owner_lines, set_lines, zone_text, IsZoneText}
use Rattle.dns_zone.specs.Rows.{Key, key, key_cmp, Rows, ZoneContent, set_key, rows_of, rows_of_sets, IsSoundSet, AreSoundSets, AreSoundRows}
use Rattle.dns_zone.proofs.InsertedLaws.{plain, printed, made, made_is, IsMade, sets_again}
use Rattle.dns_zone.proofs.KeptLaws.{set_tie, start_type, tied_key, both_true}
use Rattle.dns_zone.proofs.LoadLaws.{AreFaultless, faultless, is_faultless}
use Rattle.dns_zone.proofs.RowLaws.{key_total, tied, rows_if, get-sets}

-- ---- text

parts_of_lines : (xs ys : List Record) → lines_of (xs ++ ys) ≡ lines_of xs ++ lines_of ys
parts_of_lines [] ys = refl
parts_of_lines (x ∷ xs) ys =
    ap (λ (l : List ℕ). record_line x.name x.ttl x.rdata ++ l) (parts_of_lines xs ys)
    ∙ sym (append_assoc (record_line x.name x.ttl x.rdata) (lines_of xs) (lines_of ys))

plain_lines : (owner : DomainName) (records : List Record) → lines_of (map (plain owner) records) ≡ owner_lines owner records
plain_lines owner [] = refl
plain_lines owner (r ∷ rs) = ap (λ (l : List ℕ). record_line owner r.ttl r.rdata ++ l) (plain_lines owner rs)

lines_of_sets : (sets : List RecordSetValue) → lines_of (flat_map printed sets) ≡ flat_map set_lines sets
lines_of_sets [] = refl
lines_of_sets (s ∷ sets) =
    parts_of_lines (printed s) (flat_map printed sets) ∙ (λ i. plain_lines s.name s.records i ++ lines_of_sets sets i)

-- ---- the rows of the sets that are parsed

rows_plain : (owner : DomainName) (records : List Record) → rows_of (map (plain owner) records) ≡ rows_of records
rows_plain owner [] = refl
rows_plain owner (r ∷ rs) = ap (λ (l : List Row). (record { ttl = r.ttl; rdata = r.rdata }) ∷ l) (rows_plain owner rs)

abbrev entry : RecordSetValue → Key × List Row
entry s = (set_key s, rows_of s.records)

entry_made : (s u : RecordSetValue) → IsMade s u → entry u ≡ entry s
entry_made s u m = λ i. (key (m.name i).labels (m.record_type i), (ap rows_of m.records ∙ rows_plain s.name s.records) i)

entries_made : (sets : List RecordSetValue) → AreSoundSets sets → map entry (map made sets) ≡ map entry sets
entries_made [] sound = refl
entries_made (s ∷ sets) sound = λ i. entry_made s (made s) (made_is s sound.0) i ∷ entries_made sets sound.1 i

rows_made : (sets : List RecordSetValue) → AreSoundSets sets → rows_of_sets (map made sets) ≡ rows_of_sets sets
rows_made sets sound = ap (λ (es : List (Key × List Row)). rows_map.from_entries {R = key_cmp} es) (entries_made sets sound)

-- ---- they have no fault

any_made : (p : RecordSetValue → Bool) (sets : List RecordSetValue) → AreSoundSets sets → ((s u : RecordSetValue) → IsMade s u → p u ≡ p s) → list_any p (map made sets) ≡ list_any p sets
any_made p [] sound same = refl
any_made p (s ∷ sets) sound same = λ i. same s (made s) (made_is s sound.0) i || any_made p sets sound.1 same i

none_other : (sets : List RecordSetValue) → AreSoundSets sets → list_any (λ s. not (is_internet s)) (map made sets) ≡ false
none_other [] sound = refl
none_other (s ∷ sets) sound =
    ap (λ class. not (class_number class == 1) || list_any (λ s. not (is_internet s)) (map made sets)) (made_is s sound.0).dns_class ∙ none_other sets sound.1

long_plain : (owner : DomainName) (records : List Record) → list_any (λ (r : Record). nat_lt 65535 (whole_len r.rdata)) (map (plain owner) records) ≡ list_any (λ (r : Record). nat_lt 65535 (whole_len r.rdata)) records
long_plain owner [] = refl
long_plain owner (r ∷ rs) = ap (λ b. nat_lt 65535 (whole_len r.rdata) || b) (long_plain owner rs)

made_faultless : (origin : DomainName) (sets : List RecordSetValue) → AreSoundSets sets → AreFaultless origin sets → AreFaultless origin (map made sets)
made_faultless origin sets sound f = record {
  internet = none_other sets sound;
  inside = any_made (λ s. not (is_inside origin s)) sets sound (λ s u m. ap (λ (n : DomainName). not (at_or_below origin.labels n.labels)) m.name) ∙ f.inside;
  soa = any_made (λ s. is_soa s && is_apex origin s) sets sound (λ s u m i. (type_number (m.record_type i) == 6) && same_labels origin.labels (m.name i).labels) ∙ f.soa;
  elsewhere = any_made (λ s. is_soa s && not (is_apex origin s)) sets sound (λ s u m i. (type_number (m.record_type i) == 6) && not (same_labels origin.labels (m.name i).labels)) ∙ f.elsewhere;
  short = any_made has_long_data sets sound (λ s u m. ap (λ (l : List Record). list_any (λ (r : Record). nat_lt 65535 (whole_len r.rdata)) l) m.records ∙ long_plain s.name s.records) ∙ f.short;
}

-- ---- the owner of the first SOA record

other_number : {A : Type 0} (t u : RecordType) → t ≡ u → (type_number t == type_number u) ≡ false → A
other_number t u e f = absurd (number_apart (type_number t) (type_number u) (ap type_number e) f)
  where
    number_apart : (m n : ℕ) → m ≡ n → (m == n) ≡ false → ⊥
    number_apart m n e f = grind (arith, nat_tests)

soa_found : (owner : DomainName) (ttl : ℕ) (d : RData) → data_type d ≡ types.SOA → HasFieldsOfType d → is_update_data d ≡ false
    → option_map (λ soa. soa.owner) (soa_of (plain owner (record { name = owner; dns_class = IN; ttl = ttl; rdata = d }))) ≡ Some owner
soa_found owner ttl (of.SOA soa) e fields has = refl
soa_found owner ttl (of.A a) e fields has = other_number types.A types.SOA e refl
soa_found owner ttl (of.AAAA a) e fields has = other_number types.AAAA types.SOA e refl
soa_found owner ttl (of.CNAME c) e fields has = other_number types.CNAME types.SOA e refl
soa_found owner ttl (of.NS n) e fields has = other_number types.NS types.SOA e refl
soa_found owner ttl (of.PTR p) e fields has = other_number types.PTR types.SOA e refl
soa_found owner ttl (of.MX m) e fields has = other_number types.MX types.SOA e refl
soa_found owner ttl (of.SRV s) e fields has = other_number types.SRV types.SOA e refl
soa_found owner ttl (of.TXT t) e fields has = other_number types.TXT types.SOA e refl
soa_found owner ttl (of.OPT o) e fields has = other_number types.OPT types.SOA e refl
soa_found owner ttl (of.Update0 t) e fields has = absurd (cc)
soa_found owner ttl (of.Unknown code bytes) e fields has =
    let kinds : Opaque ∷ [] ≡ kinds_of_type types.SOA = fields ∙ ap kinds_of_type e in absurd (cc)

first_owner : (owner : DomainName) (records more : List Record) → AllByRecursion (λ r. data_type r.rdata ≡ types.SOA) records → AreSoundRows (rows_of records)
    → 0 < length records → first_soa_owner (map (plain owner) records ++ more) ≡ Some owner
first_owner owner [] more all sound some = absurd (omega (arith, some))
first_owner owner (r ∷ rs) more all sound some =
    ap (λ (o : Option DomainName). or_else o (first_soa_owner (map (plain owner) rs ++ more)))
    (soa_found owner r.ttl r.rdata all.0 sound.0.rdata.sound.fields sound.0.rdata.has_data)

-- ---- records that can be stated

length_lower : (l : List ℕ) → length (str_to_ascii_lowercase l) ≡ length l
length_lower [] = refl
length_lower (c ∷ cs) = ap suc (length_lower cs)

octet_lower : (c : ℕ) → to_ascii_lowercase c < 256 → c < 256
octet_lower c h = grind (arith, nat_tests)

octets_lower : (l : List ℕ) → AreOctets (str_to_ascii_lowercase l) → AreOctets l
octets_lower [] all = tt
octets_lower (c ∷ cs) all = (octet_lower c all.0, octets_lower cs all.1)

all_octets_lower : (labels : List (List ℕ)) → AllByRecursion AreOctets (lower labels) → AllByRecursion AreOctets labels
all_octets_lower [] all = tt
all_octets_lower (l ∷ ls) all = (octets_lower l all.0, all_octets_lower ls all.1)

each_label : (labels : List (List ℕ)) → AllByRecursion IsLabel (lower labels) → AllByRecursion IsLabel labels
each_label [] all = tt
each_label (l ∷ ls) all = (
  record { some = subst (λ n. 0 < n) (length_lower l) all.0.some; most = subst (λ n. n < 64) (length_lower l) all.0.most },
  each_label ls all.1,
)

len_lower : (labels : List (List ℕ)) → name_len (lower labels) ≡ name_len labels
len_lower [] = refl
len_lower (l ∷ ls) = λ i. (length_lower l i + 1) + len_lower ls i

labels_lower : (labels : List (List ℕ)) → AreLabels (lower labels) → AreLabels labels
labels_lower labels h = record { each = each_label labels h.each; fits = subst (λ n. n ≤ 255) (len_lower labels) h.fits }

record_stated : (owner : DomainName) (records : List Record) → owner.is_fqdn ≡ true → AreLabels owner.labels → AllByRecursion AreOctets owner.labels → AreSoundRows (rows_of records)
    → AllByRecursion IsStatedRow (rows_of records) → AreStatedRecords (map (plain owner) records)
record_stated owner [] f labels octets sound are = tt
record_stated owner (r ∷ rs) f labels octets sound are = (
  record {
    fqdn = f;
    labels = labels;
    octets = octets;
    dns_class = refl;
    ttl_fits = sound.0.ttl_fits;
    sound = sound.0.rdata.sound;
    has_data = sound.0.rdata.has_data;
    rdata = are.0;
  },
  record_stated owner rs f labels octets sound.1 are.1,
)

all_parts : {A : Type 0} (P : A → Type 0) (xs ys : List A) → AllByRecursion P xs → AllByRecursion P ys → AllByRecursion P (xs ++ ys)
all_parts P [] ys a b = b
all_parts P (x ∷ xs) ys a b = (a.0, all_parts P xs ys a.1 b)

abbrev AreStatedRowsOf : RecordSetValue → Type 0
AreStatedRowsOf s = AreStatedAt (set_key s) (rows_of s.records)

sets_stated : (sets : List RecordSetValue) → AreSoundSets sets → AllByRecursion AreStatedRowsOf sets → AreStatedRecords (flat_map printed sets)
sets_stated [] sound are = tt
sets_stated (s ∷ sets) sound are =
    all_parts _ (printed s) (flat_map printed sets)
    (record_stated s.name s.records sound.0.fqdn (labels_lower s.name.labels are.0.labels) (all_octets_lower s.name.labels are.0.octets) sound.0.rows are.0.rows)
    (sets_stated sets sound.1 are.1)

-- ---- each set is found

first_found : (s : RecordSetValue) (sets : List RecordSetValue) → list.find (tied (set_key s)) (s ∷ sets) ≡ Some s
first_found s sets = ap (λ b. cond b (Some s) (list.find (tied (set_key s)) sets)) ((eq_by_cmp_equiv key_total).refl (set_key s))

later_found : (s : RecordSetValue) (sets rest : List RecordSetValue) → s.name.is_fqdn ≡ true → AreSoundSets rest → AllByRecursion (λ t. is_set_of s.name s.record_type t ≡ false) rest
    → AllByRecursion (λ t. list.find (tied (set_key t)) sets ≡ Some t) rest → AllByRecursion (λ t. list.find (tied (set_key t)) (s ∷ sets) ≡ Some t) rest
later_found s sets [] f sound apart all = tt
later_found s sets (t ∷ rest) f sound apart all =
    let equiv = eq_by_cmp_equiv key_total in
    let other : tied (set_key t) s ≡ false = equiv.symm (set_key t) (set_key s) ∙ sym (set_tie s t f sound.0.fqdn) ∙ apart.0 in
    (ap (λ b. cond b (Some s) (list.find (tied (set_key t)) sets)) other ∙ all.0, later_found s sets rest f sound.1 apart.1 all.1)

each_found : (sets : List RecordSetValue) → AreSoundSets sets → AreDistinctSets sets → AllByRecursion (λ t. list.find (tied (set_key t)) sets ≡ Some t) sets
unfolding IsDistinct
each_found [] sound d = tt
each_found (s ∷ sets) sound d = (first_found s sets, later_found s sets sets sound.0.fqdn sound.1 d.0 (each_found sets sound.1 d.1))

stated_found : (sets rest : List RecordSetValue) → ((k : Key) → IfSome (rows_map.get (rows_of_sets sets) k) (AreStatedAt k)) → AllByRecursion (λ t. list.find (tied (set_key t)) sets ≡ Some t) rest → AllByRecursion AreStatedRowsOf rest
unfolding rows_if
stated_found sets [] are all = tt
stated_found sets (t ∷ rest) are all = (
  subst (λ (o : Option (List Row)). IfSome o (AreStatedAt (set_key t))) (get-sets sets (set_key t) ∙ ap rows_if all.0) (are (set_key t)),
  stated_found sets rest are all.1,
)

-- ---- the start of authority with the origin as the zone spells it

abbrev renamed : DomainName → RecordSetValue → RecordSetValue
renamed origin s = record s { name = origin }

same_itself : (labels : List (List ℕ)) → same_labels labels labels ≡ true
same_itself labels = same_name-equivalence.refl (record { is_fqdn = true; labels = labels })

below_itself : (labels : List (List ℕ)) → at_or_below labels labels ≡ true
below_itself [] = same_itself []
below_itself (l ∷ ls) = ap (λ b. b || at_or_below (l ∷ ls) ls) (same_itself (l ∷ ls))

later_false : (a b : Bool) → (a || b) ≡ false → b ≡ false
later_false true b e = absurd (cc)
later_false false b e = e

module _ (origin : DomainName) (s : RecordSetValue) (f : origin.is_fqdn ≡ true) (sound : IsSoundSet s) (start : is_start origin s ≡ true) where
  same_owner : same_name origin s.name ≡ true
  same_owner =
      (λ i. same_name (record { is_fqdn = f i; labels = origin.labels }) (record { is_fqdn = sound.fqdn i; labels = s.name.labels }))
      ∙ (both_true (is_soa s) (is_apex origin s) start).1

  renamed_sound : IsSoundSet (renamed origin s)
  renamed_sound = record {
    fqdn = f;
    type_named = sound.type_named;
    filled = sound.filled;
    rows = sound.rows;
    of_type = sound.of_type;
    distinct = sound.distinct;
    single = sound.single;
  }

  renamed_apart : (sets : List RecordSetValue) → AllByRecursion (λ t. is_set_of s.name s.record_type t ≡ false) sets → AllByRecursion (λ t. is_set_of origin s.record_type t ≡ false) sets
  renamed_apart [] all = tt
  renamed_apart (t ∷ sets) all =
      (ap (λ b. b && (type_number s.record_type == type_number t.record_type)) (same_name-equivalence.congr origin s.name t.name same_owner) ∙ all.0, renamed_apart sets all.1)

  renamed_distinct : (sets : List RecordSetValue) → AreDistinctSets (s ∷ sets) → AreDistinctSets (renamed origin s ∷ sets)
  unfolding IsDistinct
  renamed_distinct sets d = (renamed_apart sets d.0, d.1)

  same_key : set_key (renamed origin s) ≡ set_key s
  same_key = sym (tied_key (set_key (renamed origin s)) (set_key s)
      (sym (set_tie (renamed origin s) s f sound.fqdn) ∙ (λ i. same_owner i && itself (type_number s.record_type) i)))
    where
      itself : (n : ℕ) → (n == n) ≡ true
      itself n = grind (arith, nat_tests)

  renamed_rows : (sets : List RecordSetValue) → rows_of_sets (renamed origin s ∷ sets) ≡ rows_of_sets (s ∷ sets)
  renamed_rows sets = ap (λ (k : Key). rows_map.insert (rows_of_sets sets) k (rows_of s.records)) same_key

  renamed_faultless : (sets : List RecordSetValue) → AreFaultless origin (s ∷ sets) → AreFaultless origin (renamed origin s ∷ sets)
  renamed_faultless sets h = record {
    internet = h.internet;
    inside = ap (λ b. not b || list_any (λ t. not (is_inside origin t)) sets) (below_itself origin.labels) ∙ later_false (not (is_inside origin s)) _ h.inside;
    soa = (λ i. ((both_true (is_soa s) (is_apex origin s) start).0 i && same_itself origin.labels i) || list_any (λ t. is_soa t && is_apex origin t) sets);
    elsewhere = (λ i. ((both_true (is_soa s) (is_apex origin s) start).0 i && not (same_itself origin.labels i)) || list_any (λ t. is_soa t && not (is_apex origin t)) sets)
        ∙ later_false (is_soa s && not (is_apex origin s)) _ h.elsewhere;
    short = h.short;
  }

-- ---- zones

-- A text has the lines of records, in front of which there may be others: then it has these records. The origin that the text
-- states is a name.
abbrev HasLines : DomainName → DomainName → (List ℕ → List ℕ) → Type 0
HasLines origin found front = AreLabels origin.labels → AllByRecursion AreOctets origin.labels → (records : List Record) → AreStatedRecords records
    → HasRecords (record { text = front (lines_of records); includes = []; origin = None; types = All })
    (record { origin = found; sets = inserted_each [] records; soa_owner = first_soa_owner records })

module _ (zone : ZoneContent) (found : DomainName) (front : List ℕ → List ℕ) (lines : HasLines zone.origin found front) where
  reads_sets : (s : RecordSetValue) (sets : List RecordSetValue) → zone.rows ≡ rows_of_sets (s ∷ sets) → s.name ≡ zone.origin → s.record_type ≡ types.SOA
      → AreSoundSets (s ∷ sets) → AreDistinctSets (s ∷ sets) → AreFaultless zone.origin (s ∷ sets) → AllByRecursion AreStatedRowsOf (s ∷ sets)
      → ReadsZoneIn All [] None (front (flat_map set_lines (s ∷ sets))) (Ok zone)
  reads_sets s sets e owner soa sound d f each =
      let records : List Record = flat_map printed (s ∷ sets) in
      let again : inserted_each [] records ≡ map made (s ∷ sets) = sets_again (s ∷ sets) sound d in
      let first : first_soa_owner records ≡ Some zone.origin =
      first_owner s.name s.records (flat_map printed sets) (subst (λ (t : RecordType). AllByRecursion (λ (r : Record). data_type r.rdata ≡ t) s.records) soa sound.0.of_type) sound.0.rows sound.0.filled
      ∙ ap Some owner in
      let faults : fault_of (Some zone.origin) (inserted_each [] records) ≡ None =
      ap (λ (l : List RecordSetValue). fault_of (Some zone.origin) l) again ∙ is_faultless zone.origin (map made (s ∷ sets)) (made_faultless zone.origin (s ∷ sets) sound f) in
      let rows : rows_of_sets (inserted_each [] records) ≡ zone.rows = ap rows_of_sets again ∙ rows_made (s ∷ sets) sound ∙ sym e in
      let labels : AreLabels zone.origin.labels = subst (λ (n : DomainName). AreLabels n.labels) owner (labels_lower s.name.labels each.0.labels) in
      let octets : AllByRecursion AreOctets zone.origin.labels = subst (λ (n : DomainName). AllByRecursion AreOctets n.labels) owner (all_octets_lower s.name.labels each.0.octets) in
      let has : HasRecords (record { text = front (lines_of records); includes = []; origin = None; types = All })
      (record { origin = found; sets = inserted_each [] records; soa_owner = first_soa_owner records }) =
      lines labels octets records (sets_stated (s ∷ sets) sound each) in
      let reads : ReadsZoneIn All [] None (front (lines_of records)) (Ok (record { origin = zone.origin; rows = rows_of_sets (inserted_each [] records) })) =
      good_zone has first faults in
      subst (λ (text : List ℕ). ReadsZoneIn All [] None (front text) (Ok zone)) (lines_of_sets (s ∷ sets))
      (subst (λ (rows : Rows). ReadsZoneIn All [] None (front (lines_of records)) (Ok (record { origin = zone.origin; rows = rows }))) rows reads)

  reads_text : (sets : List RecordSetValue) → zone.origin.is_fqdn ≡ true → zone.rows ≡ rows_of_sets sets → AreSoundSets sets → AreZoneSets zone.origin sets → IsStated zone
      → ReadsZoneIn All [] None (front (zone_text zone.origin sets)) (Ok zone)
  reads_text [] f e sound kept are = absurd kept.start_first
  reads_text (s ∷ sets) f e sound kept are =
      let start = kept.start_first in
      let origin = zone.origin in
      let renamed_e : zone.rows ≡ rows_of_sets (renamed origin s ∷ sets) = e ∙ sym (renamed_rows origin s f sound.0 start sets) in
      let again : AreSoundSets (renamed origin s ∷ sets) = (renamed_sound origin s f sound.0 start, sound.1) in
      let apart : AreDistinctSets (renamed origin s ∷ sets) = renamed_distinct origin s f sound.0 start sets kept.distinct in
      reads_sets (renamed origin s) sets renamed_e refl (start_type origin s sound.0 start) again apart
      (renamed_faultless origin s f sound.0 start sets (faultless origin (s ∷ sets) kept.faultless))
      (stated_found (renamed origin s ∷ sets) (renamed origin s ∷ sets) (subst (λ (rows : Rows). (k : Key) → IfSome (rows_map.get rows k) (AreStatedAt k)) renamed_e are)
      (each_found (renamed origin s ∷ sets) again apart))

  reads_front : (text : List ℕ) → IsZoneText zone text → IsStated zone → ReadsZoneIn All [] None (front text) (Ok zone)
  reads_front text h are =
      subst (λ (l : List ℕ). ReadsZoneIn All [] None (front l) (Ok zone)) (sym h.text_is) (reads_text h.sets h.origin_fqdn h.rows h.sound h.kept are)

pub text_reads : (zone : ZoneContent) (text : List ℕ) → IsZoneText zone text → IsStated zone → ReadsZoneIn All [] None text (Ok zone)
text_reads zone = reads_front zone root_name (λ text. text) (λ labels octets. lines_contain [] None)

-- behind the line of its origin, too
pub file_reads : (zone : ZoneContent) (text : List ℕ) → IsZoneText zone text → IsStated zone → ReadsZoneIn All [] None (with_origin zone.origin text) (Ok zone)
file_reads zone text h = reads_front zone zone.origin (with_origin zone.origin) (file_contains zone.origin h.origin_fqdn) text h
