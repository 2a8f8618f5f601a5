-- A client that is two versions behind: each of the two differences deletes an SOA record and a TXT record, and adds another of each.
use Rattle.std.proofs.Common.{◌≡◌, ◌∙◌, ◌==◌, ◌<◌, ◌^◌, ◌⊎◌, inl, inr, ⊎_elim, arith, ℕ, zero, suc, Bool, true, false, cond, not, ◌&&◌, ◌||◌, List, [], ◌∷◌, ◌++◌, flat_map, length, map, refl, sym, ap, subst, Option, Some, None, unwrap_or}
use Rattle.std.specs.List.{AllByRecursion, Contains, IsDistinct}
use Rattle.std.specs.Prelude.{nat_eq, IfSome}
use Rattle.std.proofs.lemmas.Bool.{eqb-true}
use Rattle.std.specs.Cmp.{IsEquivalence, eq_by_cmp_equiv}
use Rattle.std.specs.FinMap as rows_map
use Rattle.std.specs.Global.{Global, Vec}
use Rattle.std.specs.Ordering.{eq_by_cmp}
use Rattle.dns_wire.specs.Encodable.{AreWritable}
use Rattle.dns_wire.specs.Items.{all_pieces}
use Rattle.dns_wire.specs.Name.{AreLabels}
use Rattle.dns_wire.specs.declared.codes.record_type.RecordType.TheVariants as types
use Rattle.dns_wire.specs.declared.codes.dns_class.DNSClass.TheVariants.{IN}
use Rattle.dns_names.specs.Compare.{same_name}
use Rattle.dns_names.specs.Name.{DomainName}
use Rattle.dns_data.specs.declared.rdata.RData.{RData}
use Rattle.dns_data.specs.rdata.{same_data, IsSoundData}
use Rattle.dns_messages.specs.Cut.{cut_form, queries_end, record_item, remaining}
use Rattle.dns_messages.specs.Encoding.{Encodes}
use Rattle.dns_messages.specs.Header.{new_metadata}
use Rattle.dns_messages.specs.Message.{empty_message}
use Rattle.dns_messages.specs.Sound.{IsSound, IsSoundIn}
use Rattle.dns_messages.specs.declared.message.Message.{Message}
use Rattle.dns_messages.specs.declared.message_type.MessageType.TheVariants as kinds
use Rattle.dns_messages.specs.declared.op_code.OpCode.TheVariants as ops
use Rattle.dns_messages.proofs.DecodeLaws.{decodes_again}
use Rattle.dns_zone.specs.Answer.{record_of as owned}
use Rattle.dns_zone.specs.Rows.{ZoneContent, AreRowsAt, IsSoundRow, IsZone}
use Rattle.dns_data.specs.declared.rdata.RData.TheVariants as of
use Rattle.dns_records.specs.Record.{Record}
use Rattle.dns_records.specs.Rows.{Key, Rows, key_cmp, key_of, row_of}
use Rattle.dns_records.specs.declared.row.Row.{Row}
use Rattle.dns_differences.specs.Difference.{has_row, in_zone, is_among, same_row, serial_of, AreAlike, AreRecordsOf, HasSerial, IsDifference}
use Rattle.dns_differences.specs.declared.difference.Difference.{Difference}
use Rattle.dns_differences.specs.declared.history.Limits.{Limits}
use Rattle.dns_differences.specs.History.{recorded, since}
use Rattle.dns_differences.proofs.RecordLaws.{key_total, row_equiv, same_key, two}
use Rattle.dns_transfers.proofs.ClientLaws.{client_reaches, reads_back}
use Rattle.dns_transfers.specs.Message.{first_message, with_answers}
use Rattle.dns_transfers.specs.Sending.{next_records, start as begin, AreRead, SendsAll}
use Rattle.dns_transfers.specs.incremental.DifferenceRecords.{incremental_records, with_owners}
use Rattle.dns_transfers.specs.incremental.Messages.{soa_records, IsSoundDifference, SendsDifferences}
use Rattle.dns_transfers.specs.incremental.Reading.{changed_by_all, sequence_of, IsPart, IsSequence, Reads}
use Rattle.dns_transfers.specs.incremental.Versions.{AreKnown, AreToldApart, AreVersions, Version}
use denote.RawPtr.{null_ptr}

-- ---- the versions

abbrev root : DomainName
root = record { is_fqdn = true; labels = [] }

-- the SOA row of the version with a serial number
abbrev start : ℕ → Row
start n = record {
  ttl = 60;
  rdata = of.SOA (record { mname = root; rname = root; serial = n; refresh = 4; retry = 3; expire = 2; minimum = 1 });
}

-- its TXT row
abbrev note : ℕ → Row
note n = record { ttl = 60; rdata = of.TXT ((n ∷ []) ∷ []) }

abbrev start_key : Key
start_key = ([], 6)

abbrev note_key : Key
note_key = ([], 16)

abbrev version : ℕ → Rows
version n = rows_map.insert (rows_map.insert rows_map.empty start_key (start n ∷ [])) note_key (note n ∷ [])

got : (n : ℕ) (k : Key)
    → rows_map.get (version n) k ≡ cond (eq_by_cmp key_cmp k note_key) (Some (note n ∷ [])) (cond (eq_by_cmp key_cmp k start_key) (Some (start n ∷ [])) None)
got n k =
    rows_map.get-insert key_total (rows_map.insert rows_map.empty start_key (start n ∷ [])) note_key (note n ∷ []) k
    ∙ ap (cond (eq_by_cmp key_cmp k note_key) (Some (note n ∷ [])))
    (rows_map.get-insert key_total rows_map.empty start_key (start n ∷ []) k
    ∙ ap (cond (eq_by_cmp key_cmp k start_key) (Some (start n ∷ []))) (rows_map.get-empty key_cmp k))

-- ---- their differences

abbrev record_of : Row → Record
record_of row = record { name = root; dns_class = IN; ttl = row.ttl; rdata = row.rdata }

abbrev records : ℕ → List Record
records n = record_of (start n) ∷ record_of (note n) ∷ []

abbrev listed : Global → ℕ → Vec Record
listed heap n = record { ptr = null_ptr; len = 2; cap = 2; alloc = heap; items = records n; ok = (refl, omega arith); small = omega arith }

-- from one version to another
abbrev difference : Global → ℕ → ℕ → Difference
difference heap n m = record { deleted = listed heap n; added = listed heap m }

-- ---- what a version has

found : (n : ℕ) (r : Record) → in_zone (version n) r
    ≡ cond (eq_by_cmp key_cmp (key_of r) note_key) (same_row (note n) (row_of r) || false)
    (cond (eq_by_cmp key_cmp (key_of r) start_key) (same_row (start n) (row_of r) || false) false)
found n r =
    ap (λ (o : Option (List Row)). has_row (unwrap_or o []) (row_of r)) (got n (key_of r))
    ∙ by (eq_by_cmp key_cmp (key_of r) note_key) (eq_by_cmp key_cmp (key_of r) start_key)
  where
    by : (a b : Bool) → has_row (unwrap_or (cond a (Some (note n ∷ [])) (cond b (Some (start n ∷ [])) None)) []) (row_of r)
        ≡ cond a (same_row (note n) (row_of r) || false) (cond b (same_row (start n) (row_of r) || false) false)
    by true b = refl
    by false true = refl
    by false false = refl

-- two things that differ are not both equal to a third
not_both : {A : Type 0} {same : A → A → Bool} (laws : IsEquivalence same) (x y z : A) → same x y ≡ false → (same x z && same y z) ≡ false
not_both {A} {same} laws x y z differ = by (same x z) refl
  where
    by : (b : Bool) → same x z ≡ b → (b && same y z) ≡ false
    by true e = laws.symm y z ∙ sym (laws.congr x z y e) ∙ differ
    by false e = refl

key_equiv : IsEquivalence (eq_by_cmp key_cmp)
key_equiv = eq_by_cmp_equiv key_total

-- a record is an SOA record, a TXT record, or neither
alike_at : (a b p q : Bool) → (a && b) ≡ false → ((a && p) || ((b && q) || false)) ≡ cond b (q || false) (cond a (p || false) false)
alike_at true true p q keys = absurd (cc)
alike_at true false true q keys = refl
alike_at true false false q keys = refl
alike_at false true p true keys = refl
alike_at false true p false keys = refl
alike_at false false p q keys = refl

lost_at : (a b p q s t : Bool) → (a && b) ≡ false → (p && s) ≡ false → (q && t) ≡ false
    → ((a && p) || ((b && q) || false))
    ≡ (cond b (q || false) (cond a (p || false) false) && not (cond b (t || false) (cond a (s || false) false)))
lost_at true true p q s t keys starts notes = absurd (cc)
lost_at true false true q true t keys starts notes = absurd (cc)
lost_at true false true q false t keys starts notes = refl
lost_at true false false q s t keys starts notes = refl
lost_at false true p true s true keys starts notes = absurd (cc)
lost_at false true p true s false keys starts notes = refl
lost_at false true p false s t keys starts notes = refl
lost_at false false p q s t keys starts notes = refl

-- the tests of a record, as the definitions of both sides make them
among : (n : ℕ) (r : Record) → is_among (records n) r
    ≡ ((eq_by_cmp key_cmp (key_of r) start_key && same_row (start n) (row_of r)) || ((eq_by_cmp key_cmp (key_of r) note_key && same_row (note n) (row_of r)) || false))
among n r =
    λ i. (key_equiv.symm start_key (key_of r) i && same_row (start n) (row_of r)) || ((key_equiv.symm note_key (key_of r) i && same_row (note n) (row_of r)) || false)

one_key : (k : Key) → (eq_by_cmp key_cmp k start_key && eq_by_cmp key_cmp k note_key) ≡ false
one_key k =
    (λ i. key_equiv.symm k start_key i && key_equiv.symm k note_key i) ∙ not_both key_equiv start_key note_key k refl

are_records : (n : ℕ) → AreRecordsOf (version n) (records n)
are_records n r =
    among n r
    ∙ alike_at (eq_by_cmp key_cmp (key_of r) start_key) (eq_by_cmp key_cmp (key_of r) note_key) (same_row (start n) (row_of r)) (same_row (note n) (row_of r)) (one_key (key_of r))
    ∙ sym (found n r)

loses : (n m : ℕ) → same_row (start n) (start m) ≡ false → same_row (note n) (note m) ≡ false
    → (r : Record) → is_among (records n) r ≡ (in_zone (version n) r && not (in_zone (version m) r))
loses n m starts notes r =
    among n r
    ∙ lost_at (eq_by_cmp key_cmp (key_of r) start_key) (eq_by_cmp key_cmp (key_of r) note_key) (same_row (start n) (row_of r)) (same_row (note n) (row_of r))
    (same_row (start m) (row_of r)) (same_row (note m) (row_of r)) (one_key (key_of r))
    (not_both row_equiv (start n) (start m) (row_of r) starts) (not_both row_equiv (note n) (note m) (row_of r) notes)
    ∙ (λ i. sym (found n r) i && not (sym (found m r) i))

-- ---- serial numbers

third_true : (a b c d : Bool) → (a && (b && (c && d))) ≡ true → c ≡ true
third_true true true true d e = refl
third_true true true false d e = absurd (cc)
third_true true false c d e = absurd (cc)
third_true false b c d e = absurd (cc)

-- an SOA record with the data of a version has its serial number
start_serial : (n serial : ℕ) (d : RData) → serial_of d ≡ Some serial → same_data (start n).rdata d ≡ true → serial ≡ n
start_serial n serial (of.SOA soa) e same =
    let here : nat_eq n soa.serial ≡ true =
    third_true (same_name root soa.mname) (same_name root soa.rname) (nat_eq n soa.serial) (nat_eq 4 soa.refresh && (nat_eq 3 soa.retry && (nat_eq 2 soa.expire && nat_eq 1 soa.minimum))) same in
    let is : soa.serial ≡ serial = cc in
    sym is ∙ sym (eqb-true n soa.serial here)
start_serial n serial other e same = absurd (cc)

-- a TXT record has none
no_serial : (n serial : ℕ) (d : RData) → serial_of d ≡ Some serial → same_data (note n).rdata d ≡ true → ⊥
no_serial n serial (of.SOA soa) e same = absurd (cc)
no_serial n serial other e same = absurd (cc)

-- each version has one serial number
serial_is : (n serial : ℕ) → HasSerial (version n) serial → serial ≡ n
serial_is n serial (r, (stands, e)) =
    by (eq_by_cmp key_cmp (key_of r) note_key) (eq_by_cmp key_cmp (key_of r) start_key) (same_row (note n) (row_of r)) (same_row (start n) (row_of r))
    refl refl (sym (found n r) ∙ stands)
  where
    by : (b a q p : Bool) → same_row (note n) (row_of r) ≡ q → same_row (start n) (row_of r) ≡ p → cond b (q || false) (cond a (p || false) false) ≡ true → serial ≡ n
    by true a true p notes starts is = absurd (no_serial n serial r.rdata e (two (60 == r.ttl) (same_data (note n).rdata r.rdata) notes).1)
    by true a false p notes starts is = absurd (cc)
    by false true q true notes starts is = start_serial n serial r.rdata e (two (60 == r.ttl) (same_data (start n).rdata r.rdata) starts).1
    by false true q false notes starts is = absurd (cc)
    by false false q p notes starts is = absurd (cc)

has_serial : (n : ℕ) → same_row (start n) (start n) ≡ true → HasSerial (version n) n
has_serial n same = (record_of (start n), (found n (record_of (start n)) ∙ ap (λ (b : Bool). b || false) same, refl))

abbrev limits : Limits
limits = record { differences = 8; records = 100; octets = 10000 }

module _ (heap : Global) where
  first : IsDifference (version 1) (version 2) (difference heap 1 2)
  first = record { deleted = loses 1 2 refl refl; added = loses 2 1 refl refl }

  second : IsDifference (version 2) (version 3) (difference heap 2 3)
  second = record { deleted = loses 2 3 refl refl; added = loses 3 2 refl refl }

  abbrev old : Version
  old = record { rows = version 1; difference = difference heap 1 2 }

  abbrev newer : Version
  newer = record { rows = version 2; difference = difference heap 2 3 }

  are_versions : AreVersions (old ∷ newer ∷ []) (version 3)
  are_versions = (first, (second, tt))

  abbrev versions : List Version
  versions = old ∷ newer ∷ []

  abbrev known : List Difference
  known = recorded limits (recorded limits [] (difference heap 1 2)) (difference heap 2 3)

  -- both differences are known
  both_known : known ≡ difference heap 1 2 ∷ difference heap 2 3 ∷ []
  both_known = refl

  are_known : AreKnown versions known
  are_known = record { older = []; kept = versions; split = refl; differences = both_known }

  one_of : (v : Version) → Contains versions v → (v.rows ≡ version 1) ⊎ (v.rows ≡ version 2)
  one_of v (zero, less, is) = inl (ap (λ (x : Version). x.rows) (sym is))
  one_of v (suc zero, less, is) = inr (ap (λ (x : Version). x.rows) (sym is))
  one_of v (suc (suc k), less, is) = absurd (omega (arith, less))

  same_at : (n m serial : ℕ) (a b : Rows) → a ≡ version n → b ≡ version m → HasSerial a serial → HasSerial b serial → AreAlike a b
  same_at n m serial a b at here has_a has_b =
      let first_is : serial ≡ n = serial_is n serial (subst (λ (rows : Rows). HasSerial rows serial) at has_a) in
      let second_is : serial ≡ m = serial_is m serial (subst (λ (rows : Rows). HasSerial rows serial) here has_b) in
      λ r. ap (λ (rows : Rows). in_zone rows r) (at ∙ ap version (sym first_is ∙ second_is) ∙ sym here)

  told_apart : AreToldApart versions
  told_apart a b serial in_a in_b has_a has_b = ⊎_elim
      (λ at. ⊎_elim (λ here. same_at 1 1 serial a.rows b.rows at here has_a has_b) (λ here. same_at 1 2 serial a.rows b.rows at here has_a has_b) (one_of b in_b))
      (λ at. ⊎_elim (λ here. same_at 2 1 serial a.rows b.rows at here has_a has_b) (λ here. same_at 2 2 serial a.rows b.rows at here has_a has_b) (one_of b in_b))
      (one_of a in_a)

  is_lacking : since known 3 1 ≡ Some (difference heap 1 2 ∷ difference heap 2 3 ∷ [])
  is_lacking = refl

  has_old : Contains versions old
  has_old = (0, omega arith, refl)

-- ---- the zone

abbrev zone : ZoneContent
zone = record { origin = root; rows = version 3 }

start_data : (n : ℕ) → n < 2 ^ 32 → IsSoundData (start n).rdata
start_data n small = record {
  values = (refl, (refl, (omega (arith, small), (omega arith, (omega arith, (omega arith, (omega arith, tt)))))));
  fields = refl;
  type_fits = omega arith;
  type_named = refl;
  fits = omega arith;
}

note_data : (n : ℕ) → IsSoundData (note n).rdata
note_data n = record {
  values = ((λ e. absurd (cc), (omega arith, tt)), tt);
  fields = refl;
  type_fits = omega arith;
  type_named = refl;
  fits = omega arith;
}

start_sound : (n : ℕ) → n < 2 ^ 32 → IsSoundRow (start n)
start_sound n small = record { ttl_fits = omega arith; rdata = record { sound = start_data n small; not_opt = refl; not_tsig = refl; has_data = refl } }

note_sound : (n : ℕ) → IsSoundRow (note n)
note_sound n = record { ttl_fits = omega arith; rdata = record { sound = note_data n; not_opt = refl; not_tsig = refl; has_data = refl } }

start_rows : AreRowsAt root start_key (start 3 ∷ [])
unfolding IsDistinct
start_rows = record {
  inside = refl;
  filled = omega arith;
  sound = (start_sound 3 (omega arith), tt);
  of_type = (refl, tt);
  distinct = (tt, tt);
  single = λ e. refl;
  soa_at_origin = λ e. refl;
}

note_rows : AreRowsAt root note_key (note 3 ∷ [])
unfolding IsDistinct
note_rows = record {
  inside = refl;
  filled = omega arith;
  sound = (note_sound 3, tt);
  of_type = (refl, tt);
  distinct = (tt, tt);
  single = λ e. absurd (cc);
  soa_at_origin = λ e. absurd (cc);
}

is_zone : IsZone zone
is_zone = record {
  origin_fqdn = refl;
  soa = ap (λ (o : Option (List Row)). length (unwrap_or o [])) (got 3 start_key);
  rows = λ k. subst (λ (o : Option (List Row)). IfSome o (AreRowsAt root k)) (sym (got 3 k))
      (by k (eq_by_cmp key_cmp k note_key) refl (eq_by_cmp key_cmp k start_key) refl);
}
  where
    by : (k : Key) (b : Bool) → eq_by_cmp key_cmp k note_key ≡ b → (a : Bool) → eq_by_cmp key_cmp k start_key ≡ a
        → IfSome (cond b (Some (note 3 ∷ [])) (cond a (Some (start 3 ∷ [])) None)) (AreRowsAt root k)
    by k true e a f = subst (λ (q : Key). AreRowsAt root q (note 3 ∷ [])) (sym (same_key k note_key e)) note_rows
    by k false e true f = subst (λ (q : Key). AreRowsAt root q (start 3 ∷ [])) (sym (same_key k start_key f)) start_rows
    by k false e false f = tt

-- ---- the messages

start_in : (n : ℕ) → n < 2 ^ 32 → IsSoundIn false (record_of (start n))
start_in n small = record {
  sound = record { fqdn = refl; class_fits = omega arith; class_named = refl; ttl_fits = omega arith; rdata = start_data n small };
  not_opt = refl;
  not_signature = refl;
  has_data = refl;
}

note_in : (n : ℕ) → IsSoundIn false (record_of (note n))
note_in n = record {
  sound = record { fqdn = refl; class_fits = omega arith; class_named = refl; ttl_fits = omega arith; rdata = note_data n };
  not_opt = refl;
  not_signature = refl;
  has_data = refl;
}

records_sound : (n : ℕ) → n < 2 ^ 32 → AllByRecursion (IsSoundIn false) (records n)
records_sound n small = (start_in n small, (note_in n, tt))

part : (n : ℕ) → IsPart (with_owners (records n))
part n = record { start = record_of (start n); others = record_of (note n) ∷ []; split = refl; is_start = refl; no_other = (refl, tt) }

abbrev request : Message
request = record (empty_message (new_metadata 7 kinds.Query ops.Query)) {
  queries = record { name = root; query_type = types.IXFR; query_class = IN } ∷ [];
  authorities = record_of (start 1) ∷ [];
}

request_sound : IsSound request
request_sound = record {
  metadata = record { id_fits = omega arith; op_fits = omega arith; op_named = refl; code_fits = omega arith; code_named = refl };
  queries = (record { fqdn = refl; type_fits = omega arith; type_named = refl; class_fits = omega arith; class_named = refl }, tt);
  answers = tt;
  authorities = (start_in 1 (omega arith), tt);
  additionals = tt;
  edns = tt;
  extended = omega arith;
  signature = tt;
}

abbrev sent_records : List Record
sent_records =
    record_of (start 3)
    ∷ record_of (start 1) ∷ record_of (note 1) ∷ record_of (start 2) ∷ record_of (note 2)
    ∷ record_of (start 2) ∷ record_of (note 2) ∷ record_of (start 3) ∷ record_of (note 3)
    ∷ record_of (start 3) ∷ []

abbrev reply : Message
reply = with_answers (first_message request) sent_records

abbrev message : List ℕ
message = cut_form 65535 reply

all_fit : next_records (begin request sent_records) ≡ sent_records
all_fit = refl

no_labels : AreLabels []
no_labels = record { each = tt; fits = omega arith }

answers_writable : AreWritable (all_pieces record_item (queries_end reply) (remaining 65535 reply).answers)
answers_writable = (no_labels, (tt, (tt, (tt, (tt, (no_labels, (no_labels, (tt, (tt, (tt, (tt, (tt, (no_labels, (tt, (tt, (tt, (tt, (no_labels, (no_labels, (tt, (tt, (tt, (tt, (tt, (no_labels, (tt, (tt, (tt, (tt, (tt, (tt, (no_labels, (tt, (tt, (tt, (tt, (no_labels, (no_labels, (tt, (tt, (tt, (tt, (tt, (no_labels, (tt, (tt, (tt, (tt, (tt, (tt, (no_labels, (tt, (tt, (tt, (tt, (no_labels, (no_labels, (tt, (tt, (tt, (tt, (tt, (no_labels, (tt, (tt, (tt, (tt, (tt, (tt, (no_labels, (tt, (tt, (tt, (tt, (no_labels, (no_labels, (tt, (tt, (tt, (tt, (tt, (no_labels, (tt, (tt, (tt, (tt, (tt, (tt, (no_labels, (tt, (tt, (tt, (tt, (no_labels, (no_labels, (tt, (tt, (tt, (tt, (tt, tt))))))))))))))))))))))))))))))))))))))))))))))))))))))))))))))))))))))))))))))))))))))))))))))))))))

encodes : Encodes 65535 reply message
encodes = record {
  form_is = refl;
  decodes = λ sound. decodes_again 65535 reply (omega arith) (omega arith) (no_labels, (tt, (tt, tt)))
      (record { answers = answers_writable; authorities = tt; additionals = tt; edns = tt; signature = tt }) sound;
  within = omega arith;
  room = omega arith;
}

-- ---- the client

start_is : soa_records zone ≡ record_of (start 3) ∷ []
start_is = ap (λ (o : Option (List Row)). map (owned root) (unwrap_or o [])) (got 3 start_key)

-- one message has all records
sends_all : SendsAll (begin request sent_records) (message ∷ [])
sends_all = (
  record { message = record (first_message request) { queries = [] }; records = [] },
  (
    record {
      some = subst (λ (l : List Record). 0 < length l) (sym all_fit) (omega arith);
      left = ap (λ (l : List Record). l ++ []) (sym all_fit);
      message = refl;
      encodes = subst (λ (l : List Record). Encodes 65535 (with_answers (first_message request) l) message) (sym all_fit) encodes;
    },
    refl,
  ),
)

module _ (heap : Global) where
  abbrev lacking : List Difference
  lacking = difference heap 1 2 ∷ difference heap 2 3 ∷ []

  sends : SendsDifferences zone lacking request (message ∷ [])
  sends = subst (λ (l : List Record). SendsAll (begin request (incremental_records l lacking)) (message ∷ [])) (sym start_is) sends_all

  all_sound : AllByRecursion IsSoundDifference lacking
  all_sound = (
    record { deleted = records_sound 1 (omega arith); added = records_sound 2 (omega arith) },
    (record { deleted = records_sound 2 (omega arith); added = records_sound 3 (omega arith) }, tt),
  )

  all_sequences : AllByRecursion IsSequence (map sequence_of lacking)
  all_sequences = (record { deleted = part 1; added = part 2 }, (record { deleted = part 2; added = part 3 }, tt))

  -- A client of version 1 reads both differences in the message, and has the records of version 3 then.
  pub reached : (decoded : List Message) × (AreRead (message ∷ []) decoded × (Reads (flat_map (λ m. m.answers) decoded) (map sequence_of lacking)
      × AreRecordsOf (version 3) (changed_by_all (map sequence_of lacking) (records 1))))
  reached =
      let back = reads_back zone lacking request (message ∷ []) request_sound is_zone all_sound all_sequences sends in (
        back.0,
        (
          back.1.0,
          (
            back.1.1,
            client_reaches (versions heap) zone (known heap) 3 1 (difference heap 1 2) (difference heap 2 3 ∷ []) (old heap) request (message ∷ []) back.0
                (map sequence_of lacking) (records 1) (are_versions heap) (are_known heap) (told_apart heap) (has_old heap) (has_serial 1 refl) (is_lacking heap)
                request_sound is_zone all_sound all_sequences sends back.1.0 back.1.1 (are_records 1),
          ),
        ),
      )
