-- The SOA record of a zone that is replaced, and the keys of a zone.
use Rattle.std.proofs.Common.{◌≡◌, ◌==◌, ◌∙◌, ℕ, Bool, true, false, cond, List, [], ◌∷◌, length, refl, sym, ap, subst, arith, Option, Some, None, is_some, unwrap_or}
use Rattle.std.specs.Prelude.{IfSome}
use Rattle.std.specs.FinMap as rows_map
use Rattle.std.specs.List as list
use Rattle.std.specs.Ordering.{eq_by_cmp}
use Rattle.dns_wire.specs.declared.codes.record_type.RecordType.TheVariants as types
use Rattle.dns_differences.proofs.RecordLaws.{same_key}
use Rattle.dns_names.specs.Compare.{lower}
use Rattle.dns_names.specs.Name.{DomainName}
use Rattle.dns_records.specs.Record.{Record}
use Rattle.dns_records.specs.RecordSet.{RecordSetValue}
use Rattle.dns_records.specs.declared.row.Row.{Row}
use Rattle.dns_zone.specs.Printed.{AreZoneSets}
use Rattle.dns_zone.specs.Rows.{Key, ZoneContent, key, key_cmp, rows_of, rows_of_sets, set_key, zone_of, AreSoundSets, IsZone}
use Rattle.dns_zone.specs.Sets.{set_at, with_records, AreInOrder}
use Rattle.dns_zone.specs.internal.Rise.{zone_with_start, HasLowerKeys}
use Rattle.dns_zone.proofs.AppliedLaws.{plain_found}
use Rattle.dns_zone.proofs.LoadLaws.{faultless}
use Rattle.dns_zone.proofs.RowLaws.{get-sets, key_antisymmetric, key_total, label_twice, rows_if, tied}
use Rattle.dns_zone.proofs.WholeLaws.{whole_sets, AreWhole, IsPlainSet}

-- ---- keys

lower_twice : (labels : List (List ℕ)) → lower (lower labels) ≡ lower labels
lower_twice [] = refl
lower_twice (l ∷ ls) = λ i. label_twice l i ∷ lower_twice ls i

key_lower : (k : Key) (sets : List RecordSetValue) → IfSome (rows_if (list.find (tied k) sets)) (λ found. lower k.0 ≡ k.0)
unfolding rows_if
key_lower k [] = tt
key_lower k (s ∷ ss) = by (tied k s) refl (key_lower k ss)
  where
    by : (b : Bool) → tied k s ≡ b → IfSome (rows_if (list.find (tied k) ss)) (λ found. lower k.0 ≡ k.0) → IfSome (rows_if (cond b (Some s) (list.find (tied k) ss))) (λ found. lower k.0 ≡ k.0)
    by true e more = subst (λ (q : Key). lower q.0 ≡ q.0) (sym (same_key k (set_key s) e)) (lower_twice s.name.labels)
    by false e more = more

-- the owners of all keys of sets are in lower case
pub lower_keys : (sets : List RecordSetValue) → HasLowerKeys (rows_of_sets sets)
lower_keys sets k = subst (λ (o : Option (List Row)). IfSome o (λ found. lower k.0 ≡ k.0)) (sym (get-sets sets k)) (key_lower k sets)

-- ---- other records of a set

some_of : (o : Option RecordSetValue) → length (unwrap_or (rows_if o) []) ≡ 1 → is_some o ≡ true
unfolding rows_if
some_of None one = absurd (omega (arith, one))
some_of (Some s) one = refl

rows_replaced : (records : List Record) (o : Option RecordSetValue) → is_some o ≡ true → rows_if (with_records records o) ≡ Some (rows_of records)
unfolding rows_if
rows_replaced records None some = absurd (cc)
rows_replaced records (Some s) some = refl

module _ (old new : List RecordSetValue) (k : Key) (records : List Record) (steps : (q : Key) → set_at new q ≡ cond (eq_by_cmp key_cmp q k) (with_records records (set_at old q)) (set_at old q)) where
  replaced : is_some (set_at old k) ≡ true → rows_of_sets new ≡ rows_map.insert (rows_of_sets old) k (rows_of records)
  replaced some = rows_map.same_map key_total key_antisymmetric _ _ (λ q.
      get-sets new q ∙ ap rows_if (steps q) ∙ by q (eq_by_cmp key_cmp q k) refl
      ∙ sym (rows_map.get-insert {X = List Row} key_total (rows_of_sets old) k (rows_of records) q))
    where
      by : (q : Key) (b : Bool) → eq_by_cmp key_cmp q k ≡ b → rows_if (cond b (with_records records (set_at old q)) (set_at old q)) ≡ cond b (Some (rows_of records)) (rows_map.get (rows_of_sets old) q)
      by q true e = rows_replaced records (set_at old q) (ap (λ (p : Key). is_some (set_at old p)) (same_key q k e) ∙ some)
      by q false e = sym (get-sets old q)

  plain_replaced : ((q : Key) → IfSome (set_at old q) IsPlainSet) → (q : Key) → IfSome (set_at new q) IsPlainSet
  plain_replaced plain q = subst (λ (o : Option RecordSetValue). IfSome o IsPlainSet) (sym (steps q)) (by (eq_by_cmp key_cmp q k) (set_at old q) (plain q))
    where
      by : (b : Bool) (o : Option RecordSetValue) → IfSome o IsPlainSet → IfSome (cond b (with_records records o) o) IsPlainSet
      by true None h = tt
      by true (Some s) h = record { fqdn = h.fqdn; internet = h.internet; type_named = h.type_named }
      by false o h = h

-- ---- another SOA record

-- the zone whose SOA record is replaced
pub record IsStarted (origin : DomainName) (old new : List RecordSetValue) (records : List Record) : Type 0 where
  pub zone_is : ◌≡◌ {A = ZoneContent} (zone_of origin new) (zone_with_start (zone_of origin old) (rows_of records))
  pub whole : AreWhole origin new

pub started : (origin : DomainName) (old new : List RecordSetValue) (records : List Record) → AreSoundSets old → AreZoneSets origin old → AreInOrder new → IsZone (zone_of origin old)
    → IsZone (zone_with_start (zone_of origin old) (rows_of records)) → (length records == 0) ≡ false
    → ((q : Key) → set_at new q ≡ cond (eq_by_cmp key_cmp q (key origin.labels types.SOA)) (with_records records (set_at old q)) (set_at old q))
    → IsStarted origin old new records
started origin old new [] sound kept sorted well after filled steps = absurd (cc)
started origin old new (r ∷ rs) sound kept sorted well after filled steps =
    let some : is_some (set_at old (key origin.labels types.SOA)) ≡ true =
    some_of (set_at old (key origin.labels types.SOA)) (ap (λ (o : Option (List Row)). length (unwrap_or o [])) (sym (get-sets old (key origin.labels types.SOA))) ∙ well.soa) in
    let rows : rows_of_sets new ≡ rows_map.insert (rows_of_sets old) (key origin.labels types.SOA) (rows_of (r ∷ rs)) =
    replaced old new (key origin.labels types.SOA) (r ∷ rs) steps some in
    record {
      zone_is = λ i. record { origin = origin; rows = rows i };
      whole = whole_sets (zone_with_start (zone_of origin old) (rows_of (r ∷ rs))) new (sym rows) after sorted
          (plain_replaced old new (key origin.labels types.SOA) (r ∷ rs) steps (λ q. plain_found (tied q) old sound (faultless origin old kept.faultless).internet));
    }
