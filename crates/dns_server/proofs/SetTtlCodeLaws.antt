-- Updates that are completed stay sound, and are answered with the same code.
use Rattle.std.proofs.Common.{◌≡◌, ◌==◌, ◌<◌, ◌^◌, ◌∙◌, ℕ, Bool, true, false, cond, not, ◌&&◌, ◌||◌, List, [], ◌∷◌, ◌++◌, map, refl, sym, ap, Option, Some, None, unwrap_or, is_none}
use Rattle.std.specs.Prelude.{IfSome}
use Rattle.std.specs.FinMap as rows_map
use Rattle.std.specs.List.{filter, AllByRecursion}
use Rattle.dns_wire.specs.codes.RecordType.{type_number}
use Rattle.dns_wire.specs.declared.codes.dns_class.DNSClass.{DNSClass}
use Rattle.dns_wire.specs.declared.codes.dns_class.DNSClass.TheVariants as classes
use Rattle.dns_data.specs.rdata.{data_type, is_update_data}
use Rattle.dns_messages.specs.declared.message.Message.{Message}
use Rattle.dns_messages.specs.declared.response_code.ResponseCode.TheVariants.{NoError, FormErr, NotZone}
use Rattle.dns_messages.specs.Sound.{IsSound, IsSoundIn, is_update_code}
use Rattle.dns_names.specs.Compare.{at_or_below}
use Rattle.dns_names.specs.Name.{DomainName}
use Rattle.dns_records.specs.Record.{Record}
use Rattle.dns_records.specs.Rows.{key_of, set_of, type_of_record}
use Rattle.dns_records.specs.declared.row.Row.{Row}
use Rattle.dns_updates.specs.Code.{fault_if, first_fault, first_fault_of, is_malformed, prerequisite_code, prescan_code, sets_code, update_code, zone_code}
use Rattle.dns_updates.specs.Records.{is_in_class, is_meta_number}
use Rattle.dns_updates.proofs.UpdateLaws.Codes.{and_both, no_fault_append}
use Rattle.dns_zone.specs.Answer.{record_of}
use Rattle.dns_zone.specs.Rows.{ZoneContent, AreRowsAt, AreSoundRows, IsZone}
use Rattle.dns_zone.proofs.AnswerLaws.{sound_records}
use Rattle.dns_zone.proofs.RowLaws.{below_lower}
use Rattle.dns_server.specs.SetTtls.{adds_to, has_one_ttl, is_addition, last_ttl, restated, restated_rows, set_ttl, ttl_with, with_one_ttl, with_set_ttl}

-- ---- what holds of all

pub all_append : (P : Record → Type 0) (xs ys : List Record) → AllByRecursion P xs → AllByRecursion P ys → AllByRecursion P (xs ++ ys)
all_append P [] ys a b = b
all_append P (x ∷ xs) ys a b = (a.0, all_append P xs ys a.1 b)

pub all_mapped : (P : Record → Type 0) (f : Row → Record) (p : Row → Bool) (rows : List Row) → AllByRecursion (λ row. P (f row)) rows → AllByRecursion P (map f (filter p rows))
all_mapped P f p [] all = tt
all_mapped P f p (x ∷ xs) all = by (p x) (all_mapped P f p xs all.1)
  where
    by : (b : Bool) → AllByRecursion P (map f (filter p xs)) → AllByRecursion P (map f (cond b (x ∷ filter p xs) (filter p xs)))
    by true more = (all.0, more)
    by false more = more

-- a row of a set, as an addition with a TTL
abbrev pub restated_row : Record → Row → Record
restated_row r row = record_of r.name (record row { ttl = r.ttl })

-- what holds of each addition that restates a record of a zone, if it holds of those for an update of which this is known
module _ (zone : ZoneContent) (P Q : Record → Type 0) (is : IsZone zone)
    (each : (r : Record) → is_addition r ≡ true → Q r → (rows : List Row) → AreRowsAt zone.origin (key_of r) rows → AllByRecursion (λ row. P (restated_row r row)) rows) where
  of_set : (r : Record) → is_addition r ≡ true → Q r → AllByRecursion P (restated_rows r (set_of zone.rows r))
  of_set r e known = by (rows_map.get zone.rows (key_of r)) (is.rows (key_of r))
    where
      by : (o : Option (List Row)) → IfSome o (AreRowsAt zone.origin (key_of r)) → AllByRecursion P (restated_rows r (unwrap_or o []))
      by None are = tt
      by (Some rows) are = all_mapped P (restated_row r) (λ (row : Row). not (row.ttl == r.ttl)) rows (each r e known rows are)

  all_restated : (updates : List Record) → AllByRecursion Q updates → AllByRecursion P (restated zone.rows updates)
  all_restated [] known = tt
  all_restated (r ∷ more) known =
      all_append P (restated zone.rows more) (cond (is_addition r && is_none (last_ttl more r)) (restated_rows r (set_of zone.rows r)) [])
      (all_restated more known.1) (by (is_addition r && is_none (last_ttl more r)) refl)
    where
      by : (b : Bool) → (is_addition r && is_none (last_ttl more r)) ≡ b → AllByRecursion P (cond b (restated_rows r (set_of zone.rows r)) [])
      by true e = of_set r (and_both (is_addition r) (is_none (last_ttl more r)) e).0 known.0
      by false e = tt

-- ---- sound messages

sound_restated : (u : Bool) (r : Record) → IsSoundIn u r → (rows : List Row) → AreSoundRows rows → AllByRecursion (λ row. IsSoundIn u (restated_row r row)) rows
sound_restated u r sound [] all = tt
sound_restated u r sound (row ∷ rows) all = (
  record {
    sound = here.sound;
    not_opt = here.not_opt;
    not_signature = here.not_signature;
    has_data = in_any u here.has_data;
  },
  sound_restated u r sound rows all.1,
)
  where
    here : IsSoundIn false (restated_row r row)
    here = (sound_records r.name (record row { ttl = r.ttl } ∷ []) sound.sound.fqdn (record { ttl_fits = sound.sound.ttl_fits; rdata = all.0.rdata }, tt)).0

    in_any : (b : Bool) → (false || not (is_update_data row.rdata)) ≡ true → (b || not (is_update_data row.rdata)) ≡ true
    in_any true e = refl
    in_any false e = e

last_fits : (u : Bool) (r : Record) (updates : List Record) → AllByRecursion (IsSoundIn u) updates → IfSome (last_ttl updates r) (λ ttl. ttl < 2 ^ 32)
last_fits u r [] all = tt
last_fits u r (x ∷ xs) all = by (last_ttl xs r) (last_fits u r xs all.1)
  where
    if_added : (b : Bool) → IfSome (cond b (Some x.ttl) None) (λ ttl. ttl < 2 ^ 32)
    if_added true = all.0.sound.ttl_fits
    if_added false = tt

    by : (o : Option ℕ) → IfSome o (λ ttl. ttl < 2 ^ 32) → IfSome (ttl_with o r x) (λ ttl. ttl < 2 ^ 32)
    by (Some t) h = h
    by None h = if_added (adds_to r x)

fits : (u : Bool) (updates : List Record) (r : Record) → AllByRecursion (IsSoundIn u) updates → IsSoundIn u r → set_ttl updates r < 2 ^ 32
fits u updates r all sound = by (is_addition r) (last_ttl updates r) (last_fits u r updates all)
  where
    by : (b : Bool) (o : Option ℕ) → IfSome o (λ ttl. ttl < 2 ^ 32) → cond b (unwrap_or o r.ttl) r.ttl < 2 ^ 32
    by true (Some t) h = h
    by true None h = sound.sound.ttl_fits
    by false o h = sound.sound.ttl_fits

sound_with : (u : Bool) (updates xs : List Record) → AllByRecursion (IsSoundIn u) updates → AllByRecursion (IsSoundIn u) xs → AllByRecursion (IsSoundIn u) (map (with_set_ttl updates) xs)
sound_with u updates [] all each = tt
sound_with u updates (x ∷ xs) all each = (
  record {
    sound = record {
      fqdn = each.0.sound.fqdn;
      class_fits = each.0.sound.class_fits;
      class_named = each.0.sound.class_named;
      ttl_fits = fits u updates x all each.0;
      rdata = each.0.sound.rdata;
    };
    not_opt = each.0.not_opt;
    not_signature = each.0.not_signature;
    has_data = each.0.has_data;
  },
  sound_with u updates xs all each.1,
)

pub completed_sound : (zone : ZoneContent) (m : Message) → IsZone zone → IsSound m → IsSound (with_one_ttl zone.rows m)
completed_sound zone m is sound = record {
  metadata = sound.metadata;
  queries = sound.queries;
  answers = sound.answers;
  authorities = all_append (IsSoundIn (is_update_code m.metadata.op_code)) (restated zone.rows m.authorities) (map (with_set_ttl m.authorities) m.authorities)
      (all_restated zone (IsSoundIn (is_update_code m.metadata.op_code)) (IsSoundIn (is_update_code m.metadata.op_code)) is
      (λ r e known rows are. sound_restated (is_update_code m.metadata.op_code) r known rows are.sound) m.authorities sound.authorities)
      (sound_with (is_update_code m.metadata.op_code) m.authorities m.authorities sound.authorities sound.authorities);
  additionals = sound.additionals;
  edns = sound.edns;
  extended = sound.extended;
  signature = sound.signature;
}

-- ---- the response code

not_meta : (a b c m : Bool) → not (a || (b || (c || m))) ≡ true → m ≡ false
not_meta true b c m e = absurd (cc)
not_meta false true c m e = absurd (cc)
not_meta false false true m e = absurd (cc)
not_meta false false false true e = absurd (cc)
not_meta false false false false e = refl

module _ (origin : DomainName) where
  -- a record of a zone passes as an addition
  passes : (r : Record) → is_addition r ≡ true → (rows : List Row) → AreRowsAt origin (key_of r) rows → AllByRecursion (λ row. prescan_code origin (restated_row r row) ≡ NoError) rows
  passes r e rows are = each rows are.of_type are.sound
    where
      plain : is_meta_number (type_number (type_of_record r)) ≡ false
      plain =
          not_meta (type_number (type_of_record r) == 5) (type_number (type_of_record r) == 6) (type_number (type_of_record r) == 46) (is_meta_number (type_number (type_of_record r)))
          (and_both (is_in_class r.dns_class) (has_one_ttl (type_number (type_of_record r))) e).1

      inside : fault_if (not (at_or_below origin.labels r.name.labels)) NotZone ≡ NoError
      inside = ap (λ b. fault_if (not b) NotZone) (sym (below_lower origin.labels r.name.labels) ∙ are.inside)

      each : (xs : List Row) → AllByRecursion (λ (row : Row). type_number (data_type row.rdata) ≡ type_number (type_of_record r)) xs → AreSoundRows xs
          → AllByRecursion (λ row. prescan_code origin (restated_row r row) ≡ NoError) xs
      each [] typed sound = tt
      each (x ∷ xs) typed sound = (
        (λ i. first_fault (inside i) (fault_if ((ap is_meta_number typed.0 ∙ plain) i || not (not (sound.0.rdata.has_data i))) FormErr)),
        each xs typed.1 sound.1,
      )

  -- a TTL of an addition is not looked at
  same_form : (r : Record) (c : DNSClass) (b : Bool) (ttl : ℕ) → is_malformed c (record r { ttl = cond (is_in_class c && b) ttl r.ttl }) ≡ is_malformed c r
  same_form r classes.IN b ttl = refl
  same_form r classes.ANY b ttl = refl
  same_form r classes.NONE b ttl = refl
  same_form r other b ttl = refl

  same_codes : (updates xs : List Record) → first_fault_of (prescan_code origin) (map (with_set_ttl updates) xs) ≡ first_fault_of (prescan_code origin) xs
  same_codes updates [] = refl
  same_codes updates (x ∷ xs) =
      λ i. first_fault (first_fault (fault_if (not (at_or_below origin.labels x.name.labels)) NotZone)
      (fault_if (same_form x x.dns_class (has_one_ttl (type_number (type_of_record x))) (unwrap_or (last_ttl updates x) x.ttl) i) FormErr)) (same_codes updates xs i)

all_known : (xs : List Record) → AllByRecursion (λ (_ : Record). Unit {0}) xs
all_known [] = tt
all_known (x ∷ xs) = (tt, all_known xs)

pub same_code : (zone : ZoneContent) (m : Message) → IsZone zone → update_code zone.origin zone.rows (with_one_ttl zone.rows m) ≡ update_code zone.origin zone.rows m
same_code zone m is =
    ap (λ c. first_fault (zone_code zone.origin m.queries)
    (first_fault (first_fault_of (prerequisite_code zone.origin zone.rows) m.answers) (first_fault (sets_code zone.rows m.answers) c)))
    (no_fault_append (prescan_code zone.origin) (restated zone.rows m.authorities) (map (with_set_ttl m.authorities) m.authorities)
    (all_restated zone (λ x. prescan_code zone.origin x ≡ NoError) (λ _. Unit {0}) is (λ r e known rows are. passes zone.origin r e rows are) m.authorities (all_known m.authorities))
    ∙ same_codes zone.origin m.authorities m.authorities)
