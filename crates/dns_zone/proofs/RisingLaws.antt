-- The rise of the serial number of a zone after a change.
use Rattle.std.proofs.Common.{◌≡◌, ◌≢◌, ◌==◌, ◌<◌, ◌^◌, ◌∙◌, ℕ, Bool, true, false, cond, not, ◌&&◌, ◌||◌, List, [], ◌∷◌, ◌++◌, length, map, refl, sym, ap, subst, arith, length-append, Option, Some, None, unwrap_or}
use Rattle.std.specs.Prelude.{IfSome, nat_eq}
use Rattle.std.proofs.lemmas.Bool.Decides.{nat_tests}
use Rattle.std.specs.Cmp.{IsEquivalence, eq_by_cmp_equiv}
use Rattle.std.specs.FinMap as rows_map
use Rattle.std.specs.List.{AllByRecursion, IsDistinct}
use Rattle.std.specs.Ordering.{eq_by_cmp}
use Rattle.dns_wire.specs.codes.RecordType.{type_number, type_of}
use Rattle.dns_wire.specs.declared.codes.record_type.RecordType.TheVariants as types
use Rattle.dns_data.specs.declared.rdata.RData.{RData}
use Rattle.dns_data.specs.declared.rdata.RData.TheVariants as of
use Rattle.dns_data.specs.declared.rdata.soa.SOA.{SOA}
use Rattle.dns_data.specs.rdata.{data_type, kinds_of_type, same_data, IsSoundData}
use Rattle.dns_differences.specs.Difference.{has_row, in_zone, is_among, is_empty, same_row, IsDifference}
use Rattle.dns_differences.specs.declared.difference.Difference.{Difference}
use Rattle.dns_differences.proofs.RecordLaws.{row_equiv, same_key}
use Rattle.dns_messages.specs.Sound.{IsSoundIn}
use Rattle.dns_messages.specs.declared.message.Message.{Message}
use Rattle.dns_messages.specs.declared.response_code.ResponseCode.{ResponseCode}
use Rattle.dns_messages.specs.declared.response_code.ResponseCode.TheVariants.{NoError}
use Rattle.dns_names.specs.Compare.{same_name}
use Rattle.dns_names.specs.Name.{DomainName}
use Rattle.dns_records.specs.Record.{Record}
use Rattle.dns_records.specs.Rows.{key_of, row_of, rows_of, with_set}
use Rattle.dns_records.specs.declared.row.Row.{Row}
use Rattle.dns_differences.specs.serials.Record.{data_serial}
use Rattle.dns_differences.specs.serials.Serial.{next_serial}
use Rattle.dns_updates.specs.Change.{update_change}
use Rattle.dns_updates.specs.Code.{update_code}
use Rattle.dns_updates.specs.Records.{is_of_type}
use Rattle.dns_zone.specs.Answer.{record_of}
use Rattle.dns_zone.specs.Change.{IsChange}
use Rattle.dns_zone.specs.Maintained.{is_due, maintained, risen, zone_with, IsRecordable}
use Rattle.dns_zone.specs.Rising.{raised, raised_at, raised_row, start_key, start_rows, with_next_serial}
use Rattle.dns_zone.specs.Rows.{Key, Rows, ZoneContent, key, key_cmp, rows_at, AreRowsAt, AreSoundRows, IsSoundRow, IsSoundRowData, IsZone}
use Rattle.dns_zone.specs.Serving.{zone_by_code}
use Rattle.dns_zone.specs.ZoneSerial.{rows_serial, zone_serial}
use Rattle.dns_zone.specs.declared.zone.rise.Rise.{Rise}
use Rattle.dns_zone.specs.declared.zone.serials.Serials.TheVariants.{Rising}
use Rattle.dns_zone.specs.internal.Rise.{changes_start, has_start, is_due_by, start_after, start_before, zone_with_start, HasLowerKeys, IsRise}
use Rattle.dns_zone.proofs.AnswerLaws.{sound_records}
use Rattle.dns_zone.proofs.ChangedLaws.{due_by, neither, none_among, not_due}
use Rattle.dns_zone.proofs.RowLaws.{key_total}

-- ---- the data of an SOA record

pub record IsStart (row : Row) : Type 0 where
  pub soa : SOA
  pub data_is : row.rdata ≡ of.SOA soa
  pub sound : IsSoundRow row

soa_data : (d : RData) → data_type d ≡ types.SOA → IsSoundRowData d → (soa : SOA) × (d ≡ of.SOA soa)
soa_data (of.SOA soa) e is = (soa, refl)
soa_data (of.Update0 t) e is = let never : true ≡ false = is.has_data in absurd (cc)
soa_data (of.Unknown code bytes) e is = let never = is.sound.fields ∙ ap kinds_of_type e in absurd (cc)
soa_data other e is = absurd (cc)

serial_fits : (soa : SOA) → IsSoundData (of.SOA soa) → soa.serial < 2 ^ 32
serial_fits soa is = is.values.1.1.0

next_fits : (n : ℕ) → next_serial n < 2 ^ 32
next_fits n = omega arith

soa_sound : (soa : SOA) (serial : ℕ) → serial < 2 ^ 32 → IsSoundRowData (of.SOA soa) → IsSoundRowData (of.SOA (record soa { serial = serial }))
soa_sound soa serial small is = record {
  sound = record {
    values = (is.sound.values.0, (is.sound.values.1.0, (small, is.sound.values.1.1.1)));
    fields = refl;
    type_fits = is.sound.type_fits;
    type_named = refl;
    fits = omega (arith, is.sound.fits, length-append {A = ℕ});
  };
  not_opt = refl;
  not_tsig = refl;
  has_data = refl;
}

next_sound : (d : RData) (soa : SOA) → d ≡ of.SOA soa → IsSoundRowData d → IsSoundRowData (with_next_serial d)
next_sound d soa e is =
    subst (λ (x : RData). IsSoundRowData (with_next_serial x)) (sym e)
    (soa_sound soa (next_serial soa.serial) (next_fits soa.serial) (subst IsSoundRowData e is))

next_type : (d : RData) (soa : SOA) → d ≡ of.SOA soa → data_type (with_next_serial d) ≡ types.SOA
next_type d soa e = ap (λ (x : RData). data_type (with_next_serial x)) e

-- the serial number differs
other_serial : (n : ℕ) → n < 2 ^ 32 → nat_eq n (next_serial n) ≡ false
other_serial n small = grind (arith, nat_tests)

third_false : (a b c d : Bool) → c ≡ false → (a && (b && (c && d))) ≡ false
third_false true true c d e = λ i. e i && d
third_false true false c d e = refl
third_false false b c d e = refl

soa_differs : (soa : SOA) → soa.serial < 2 ^ 32 → same_data (of.SOA soa) (with_next_serial (of.SOA soa)) ≡ false
soa_differs soa small =
    third_false (same_name soa.mname soa.mname) (same_name soa.rname soa.rname) (nat_eq soa.serial (next_serial soa.serial))
    (nat_eq soa.refresh soa.refresh && (nat_eq soa.retry soa.retry && (nat_eq soa.expire soa.expire && nat_eq soa.minimum soa.minimum)))
    (other_serial soa.serial small)

no_and : (a : Bool) → (a && false) ≡ false
no_and true = refl
no_and false = refl

rows_differ : (row : Row) → IsStart row → same_row row (raised_row row) ≡ false
rows_differ row is =
    ap (λ (b : Bool). (row.ttl == row.ttl) && b)
    (ap (λ (d : RData). same_data d (with_next_serial d)) is.data_is
    ∙ soa_differs is.soa (serial_fits is.soa (subst IsSoundData is.data_is is.sound.rdata.sound)))
    ∙ no_and (row.ttl == row.ttl)

-- no row is the same as both
not_both : (row r : Row) → IsStart row → (b : Bool) → same_row row r ≡ b → (b && same_row (raised_row row) r) ≡ false
not_both row r is true e = by (same_row (raised_row row) r) refl
  where
    by : (c : Bool) → same_row (raised_row row) r ≡ c → c ≡ false
    by true f =
        let same : same_row row (raised_row row) ≡ true = row_equiv.symm row (raised_row row) ∙ row_equiv.congr (raised_row row) r row f ∙ row_equiv.symm r row ∙ e in
        let never : true ≡ false = sym same ∙ rows_differ row is in
        absurd (cc)
    by false f = refl
not_both row r is false e = refl

-- ---- the SOA record of a zone

only_one : (xs : List Row) (row : Row) (more : List Row) → length xs ≡ 1 → xs ≡ row ∷ more → xs ≡ row ∷ []
only_one xs row [] one e = e
only_one xs row (x ∷ more) one e = absurd (omega (arith, one, ap (λ (l : List Row). length l) e))

pub start_is : (zone : ZoneContent) (row : Row) (more : List Row) → IsZone zone → start_rows zone ≡ row ∷ more → IsStart row
start_is zone row more is e = by (rows_map.get zone.rows (start_key zone)) (is.rows (start_key zone)) e
  where
    by : (o : Option (List Row)) → IfSome o (AreRowsAt zone.origin (start_key zone)) → unwrap_or o [] ≡ row ∷ more → IsStart row
    by None h same = absurd (cc)
    by (Some rows) h same =
        let sound : IsSoundRow row = (subst AreSoundRows same h.sound).0 in
        let number : type_number (data_type row.rdata) ≡ 6 = (subst (AllByRecursion (λ (row : Row). type_number (data_type row.rdata) ≡ 6)) same h.of_type).0 in
        let found = soa_data row.rdata (sym sound.rdata.sound.type_named ∙ ap type_of number) sound.rdata in
        record { soa = found.0; data_is = found.1; sound = sound }

raised_sound : (row : Row) → IsStart row → IsSoundRow (raised_row row)
raised_sound row is = record { ttl_fits = is.sound.ttl_fits; rdata = next_sound row.rdata is.soa is.data_is is.sound.rdata }

-- ---- the zone with it

module _ (zone : ZoneContent) (row : Row) (is : IsZone zone) (start : IsStart row) where
  get_start : (q : Key) → rows_map.get (rows_map.insert zone.rows (start_key zone) (raised_row row ∷ [])) q
      ≡ cond (eq_by_cmp key_cmp q (start_key zone)) (Some (raised_row row ∷ [])) (rows_map.get zone.rows q)
  get_start q = rows_map.get-insert {X = List Row} key_total zone.rows (start_key zone) (raised_row row ∷ []) q

  start_rows_at : AreRowsAt zone.origin (start_key zone) (raised_row row ∷ [])
  unfolding IsDistinct
  start_rows_at = by (rows_map.get zone.rows (start_key zone)) (is.rows (start_key zone)) is.soa
    where
      by : (o : Option (List Row)) → IfSome o (AreRowsAt zone.origin (start_key zone)) → length (unwrap_or o []) ≡ 1 → AreRowsAt zone.origin (start_key zone) (raised_row row ∷ [])
      by None h one = absurd (omega (arith, one))
      by (Some rows) h one = record {
        inside = h.inside;
        filled = omega arith;
        sound = (raised_sound row start, tt);
        of_type = (ap type_number (next_type row.rdata start.soa start.data_is), tt);
        distinct = (tt, tt);
        single = λ e. refl;
        soa_at_origin = h.soa_at_origin;
      }

  pub zone_raised : IsZone (record zone { rows = rows_map.insert zone.rows (start_key zone) (raised_row row ∷ []) })
  zone_raised = record {
    origin_fqdn = is.origin_fqdn;
    soa = ap (λ (o : Option (List Row)). length (unwrap_or o [])) (get_start (start_key zone)) ∙ one (eq_by_cmp key_cmp (start_key zone) (start_key zone));
    rows = λ q. subst (λ (o : Option (List Row)). IfSome o (AreRowsAt zone.origin q)) (sym (get_start q)) (at q (eq_by_cmp key_cmp q (start_key zone)) refl);
  }
    where
      one : (b : Bool) → length (unwrap_or (cond b (Some (raised_row row ∷ [])) (rows_map.get zone.rows (start_key zone))) []) ≡ 1
      one true = refl
      one false = is.soa

      at : (q : Key) (b : Bool) → eq_by_cmp key_cmp q (start_key zone) ≡ b → IfSome (cond b (Some (raised_row row ∷ [])) (rows_map.get zone.rows q)) (AreRowsAt zone.origin q)
      at q true e = subst (λ (k : Key). AreRowsAt zone.origin k (raised_row row ∷ [])) (sym (same_key q (start_key zone) e)) start_rows_at
      at q false e = is.rows q

-- ---- the change with it

key_equiv : IsEquivalence (eq_by_cmp key_cmp)
key_equiv = eq_by_cmp_equiv key_total

only_lost : (s t : Bool) → (s && t) ≡ false → (s || false) ≡ ((s || false) && not (t || false))
only_lost true true e = absurd (cc)
only_lost true false e = refl
only_lost false t e = refl

only_gained : (s t : Bool) → (s && t) ≡ false → (t || false) ≡ ((t || false) && not (s || false))
only_gained true true e = absurd (cc)
only_gained true false e = refl
only_gained false true e = refl
only_gained false false e = refl

module _ (old mid : ZoneContent) (row : Row) (d : Difference) (rows : start_rows old ≡ row ∷ []) (start : IsStart row) (is : IsDifference old.rows mid.rows d) (none : changes_start d ≡ false) where
  -- the rows with the next serial number
  abbrev pub after : Rows
  after = rows_map.insert mid.rows (start_key old) (raised_row row ∷ [])

  in_front : (x : Row) (xs : List Record) (r : Record) → type_number (data_type x.rdata) ≡ 6
      → is_among (record_of old.origin x ∷ xs) r ≡ ((eq_by_cmp key_cmp (key_of r) (start_key old) && same_row x (row_of r)) || is_among xs r)
  in_front x xs r number =
      ap (λ (n : ℕ). (eq_by_cmp key_cmp ((start_key old).0, n) (key_of r) && same_row x (row_of r)) || is_among xs r) number
      ∙ ap (λ (b : Bool). (b && same_row x (row_of r)) || is_among xs r) (key_equiv.symm (start_key old) (key_of r))

  in_after : (r : Record) → has_row (unwrap_or (cond (eq_by_cmp key_cmp (key_of r) (start_key old)) (Some (raised_row row ∷ [])) (rows_map.get mid.rows (key_of r))) []) (row_of r) ≡ in_zone after r
  in_after r = ap (λ (o : Option (List Row)). has_row (unwrap_or o []) (row_of r)) (sym (rows_map.get-insert {X = List Row} key_total mid.rows (start_key old) (raised_row row ∷ []) (key_of r)))

  in_before : (r : Record) → key_of r ≡ start_key old → (same_row row (row_of r) || false) ≡ in_zone old.rows r
  in_before r at = sym (ap (λ (q : Key). has_row (unwrap_or (rows_map.get old.rows q) []) (row_of r)) at ∙ ap (λ (l : List Row). has_row l (row_of r)) rows)

  of_soa : (r : Record) → key_of r ≡ start_key old → is_of_type types.SOA r ≡ true
  of_soa r at = ap (λ (q : Key). 6 == q.1) at

  pub deleted_with : (r : Record) → is_among (record_of old.origin row ∷ d.deleted.items) r ≡ (in_zone old.rows r && not (in_zone after r))
  deleted_with r =
      in_front row d.deleted.items r (ap (λ (x : RData). type_number (data_type x)) start.data_is)
      ∙ by (eq_by_cmp key_cmp (key_of r) (start_key old)) refl ∙ ap (λ (b : Bool). in_zone old.rows r && not b) (in_after r)
    where
      by : (b : Bool) → eq_by_cmp key_cmp (key_of r) (start_key old) ≡ b
          → ((b && same_row row (row_of r)) || is_among d.deleted.items r) ≡ (in_zone old.rows r && not (has_row (unwrap_or (cond b (Some (raised_row row ∷ [])) (rows_map.get mid.rows (key_of r))) []) (row_of r)))
      by true e =
          let at : key_of r ≡ start_key old = same_key (key_of r) (start_key old) e in
          ap (λ (b : Bool). same_row row (row_of r) || b) (none_among d.deleted.items r (of_soa r at) (neither (has_start d.deleted.items) (has_start d.added.items) none).0)
          ∙ only_lost (same_row row (row_of r)) (same_row (raised_row row) (row_of r)) (not_both row (row_of r) start (same_row row (row_of r)) refl)
          ∙ ap (λ (b : Bool). b && not (same_row (raised_row row) (row_of r) || false)) (in_before r at)
      by false e = is.deleted r

  pub added_with : (r : Record) → is_among (record_of old.origin (raised_row row) ∷ d.added.items) r ≡ (in_zone after r && not (in_zone old.rows r))
  added_with r =
      in_front (raised_row row) d.added.items r (ap type_number (next_type row.rdata start.soa start.data_is))
      ∙ by (eq_by_cmp key_cmp (key_of r) (start_key old)) refl ∙ ap (λ (b : Bool). b && not (in_zone old.rows r)) (in_after r)
    where
      by : (b : Bool) → eq_by_cmp key_cmp (key_of r) (start_key old) ≡ b
          → ((b && same_row (raised_row row) (row_of r)) || is_among d.added.items r) ≡ (has_row (unwrap_or (cond b (Some (raised_row row ∷ [])) (rows_map.get mid.rows (key_of r))) []) (row_of r) && not (in_zone old.rows r))
      by true e =
          let at : key_of r ≡ start_key old = same_key (key_of r) (start_key old) e in
          ap (λ (b : Bool). same_row (raised_row row) (row_of r) || b) (none_among d.added.items r (of_soa r at) (neither (has_start d.deleted.items) (has_start d.added.items) none).1)
          ∙ only_gained (same_row row (row_of r)) (same_row (raised_row row) (row_of r)) (not_both row (row_of r) start (same_row row (row_of r)) refl)
          ∙ ap (λ (b : Bool). (same_row (raised_row row) (row_of r) || false) && not b) (in_before r at)
      by false e = is.added r

-- ---- a zone after a change and its rise

-- The zone with these rows of its SOA record is the risen one, and this is the difference.
pub record IsFinished (old mid : ZoneContent) (whole : Difference) (rows : List Row) : Type 0 where
  pub well : IsZone (zone_with_start mid rows)
  pub zone_is : HasLowerKeys old.rows → HasLowerKeys mid.rows → ◌≡◌ {A = ZoneContent} (zone_with_start mid rows) (risen old mid)
  pub recordable : IsRecordable old.rows (zone_with_start mid rows).rows whole

both_not : (a b : Bool) → (a && not b) ≡ true → b ≡ false
both_not true true e = absurd (cc)
both_not true false e = refl
both_not false b e = absurd (cc)

module _ (old mid : ZoneContent) (d : Difference) (rise : Rise) (is_old : IsZone old) (is_mid : IsZone mid) (origin : mid.origin ≡ old.origin) (change : IsChange old.rows mid.rows d) (made : IsRise old d rise) where
  key_is : start_key mid ≡ start_key old
  key_is = ap (λ (o : DomainName). key o.labels types.SOA) origin

  risen_is : (b : Bool) → is_due_by d ≡ b → HasLowerKeys old.rows → HasLowerKeys mid.rows → cond b (raised old mid) mid ≡ risen old mid
  risen_is b e low_old low_mid = ap (λ (b : Bool). cond b (raised old mid) mid) (sym (due_by old mid d is_old is_mid low_old low_mid change.difference origin ∙ e))

  parts : (b : Bool) (found : List Row) → is_due_by d ≡ b → start_rows old ≡ found
      → rise.change.deleted.items ≡ map (record_of old.origin) (start_before b found) ++ d.deleted.items
      → rise.change.added.items ≡ map (record_of old.origin) (start_after b found) ++ d.added.items
      → IsFinished old mid rise.change (start_after b found)
  parts true (row ∷ more) due e deleted added = record {
    well = zone_raised mid row is_mid start;
    zone_is = λ low_old low_mid.
        (λ i. record { origin = mid.origin; rows = with_set mid.rows (key_is i) (raised_row row ∷ []) })
        ∙ ap (λ (l : List Row). record mid { rows = raised_at mid.rows (start_key old) l }) (sym e)
        ∙ risen_is true due low_old low_mid;
    recordable = subst (λ (k : Key). IsRecordable old.rows (with_set mid.rows k (raised_row row ∷ [])) rise.change) (sym key_is) (record {
      difference = record {
        deleted = λ r. ap (λ (l : List Record). is_among l r) deleted ∙ deleted_with old mid row d only start change.difference none r;
        added = λ r. ap (λ (l : List Record). is_among l r) added ∙ added_with old mid row d only start change.difference none r;
      };
      deleted_sound = subst (AllByRecursion (IsSoundIn false)) (sym deleted)
          ((sound_records old.origin (row ∷ []) is_old.origin_fqdn (start.sound, tt)).0, change.deleted_sound);
      added_sound = subst (AllByRecursion (IsSoundIn false)) (sym added)
          ((sound_records old.origin (raised_row row ∷ []) is_old.origin_fqdn (raised_sound row start, tt)).0, change.added_sound);
    });
  }
    where
      start : IsStart row
      start = start_is old row more is_old e

      only : start_rows old ≡ row ∷ []
      only = only_one (start_rows old) row more is_old.soa e

      none : changes_start d ≡ false
      none = both_not (not (is_empty d)) (changes_start d) due
  parts true [] due e deleted added = absurd (omega (arith, is_old.soa, ap (λ (l : List Row). length l) e))
  parts false found due e deleted added = record {
    well = is_mid;
    zone_is = λ low_old low_mid. risen_is false due low_old low_mid;
    recordable = record {
      difference = record {
        deleted = λ r. ap (λ (l : List Record). is_among l r) deleted ∙ change.difference.deleted r;
        added = λ r. ap (λ (l : List Record). is_among l r) added ∙ change.difference.added r;
      };
      deleted_sound = subst (AllByRecursion (IsSoundIn false)) (sym deleted) change.deleted_sound;
      added_sound = subst (AllByRecursion (IsSoundIn false)) (sym added) change.added_sound;
    };
  }

  rows_back : (xs : List Row) → xs ≡ rows_of (map (record_of old.origin) xs)
  rows_back [] = refl
  rows_back (x ∷ xs) = λ i. x ∷ rows_back xs i

  pub finished : IsFinished old mid rise.change (rows_of rise.start.items)
  finished = subst (IsFinished old mid rise.change) (rows_back (start_after (is_due_by d) (start_rows old)) ∙ ap rows_of (sym made.start))
      (parts (is_due_by d) (start_rows old) refl refl made.deleted made.added)

pub finished_by : (old mid : ZoneContent) (rows : Rows) (d : Difference) (rise : Rise) → IsZone old → IsZone mid → mid ≡ record old { rows = rows } → IsChange old.rows rows d → IsRise old d rise
    → IsFinished old mid rise.change (rows_of rise.start.items)
finished_by old mid rows d rise is_old is_mid mid_is change made =
    finished old mid d rise is_old is_mid (ap (λ (z : ZoneContent). z.origin) mid_is) (subst (λ (z : ZoneContent). IsChange old.rows z.rows d) (sym mid_is) change) made

-- ---- response codes

pub origin_kept : (zone : ZoneContent) (m : Message) (code : ResponseCode) → (zone_by_code zone m code).origin ≡ zone.origin
origin_kept zone m NoError = refl
origin_kept zone m fault = refl

pub zone_kept_by : (zone : ZoneContent) (m : Message) (code : ResponseCode) → code ≢ NoError → zone_by_code zone m code ≡ zone
zone_kept_by zone m NoError other = absurd (other refl)
zone_kept_by zone m fault other = refl

-- an update whose response code is another one changes nothing
pub none_risen : (zone : ZoneContent) (m : Message) (code : ResponseCode) → code ≡ update_code zone.origin zone.rows m → code ≢ NoError → ◌≡◌ {A = ZoneContent} zone (maintained Rising zone m)
none_risen zone m code is other =
    sym (ap (λ (b : Bool). cond b (raised zone zone) zone) (not_due zone))
    ∙ ap (λ (new : ZoneContent). risen zone new) (sym (zone_kept_by zone m code other) ∙ ap (zone_by_code zone m) is)

-- the zone after a change under NoError
pub risen_by : (zone : ZoneContent) (m : Message) (code : ResponseCode) → code ≡ NoError → code ≡ update_code zone.origin zone.rows m
    → ◌≡◌ {A = ZoneContent} (risen zone (record zone { rows = update_change zone.origin zone.rows m })) (maintained Rising zone m)
risen_by zone m code ok is = ap (λ (c : ResponseCode). risen zone (zone_by_code zone m c)) (sym ok ∙ is)

-- ---- the serial number

next_data : (d : RData) (serial : ℕ) → data_serial d ≡ Some serial → data_serial (with_next_serial d) ≡ Some (next_serial serial)
next_data (of.SOA soa) serial e = let same : soa.serial ≡ serial = cc in ap (λ (n : ℕ). Some (next_serial n)) same
next_data other serial e = absurd (cc)

raised_serial : (old new : ZoneContent) (serial : ℕ) → new.origin ≡ old.origin → zone_serial old ≡ Some serial → zone_serial (raised old new) ≡ Some (next_serial serial)
raised_serial old new serial origin = by (start_rows old) refl
  where
    by : (rows : List Row) → start_rows old ≡ rows → rows_serial rows ≡ Some serial → rows_serial (rows_at (raised_at new.rows (start_key old) (start_rows old)) new.origin.labels types.SOA) ≡ Some (next_serial serial)
    by [] at e = absurd (cc)
    by (row ∷ more) at e =
        (λ i. rows_serial (rows_at (raised_at new.rows (start_key old) (at i)) (origin i).labels types.SOA))
        ∙ ap (λ (o : Option (List Row)). rows_serial (unwrap_or o [])) (
        rows_map.get-insert {X = List Row} key_total new.rows (start_key old) (raised_row row ∷ []) (start_key old)
        ∙ ap (λ (b : Bool). cond b (Some (raised_row row ∷ [])) (rows_map.get new.rows (start_key old))) (key_equiv.refl (start_key old))
        )
        ∙ next_data row.rdata serial e

-- a change that is due to raise the serial number raises it
pub serial_rises : (zone : ZoneContent) (m : Message) (serial : ℕ) → is_due zone (zone_with zone m) ≡ true → zone_serial zone ≡ Some serial
    → zone_serial (maintained Rising zone m) ≡ Some (next_serial serial)
serial_rises zone m serial due e =
    ap (λ (b : Bool). zone_serial (cond b (raised zone (zone_with zone m)) (zone_with zone m))) due
    ∙ raised_serial zone (zone_with zone m) serial (origin_kept zone m (update_code zone.origin zone.rows m)) e
