-- What an update changes that puts its row into its set.
use Rattle.std.proofs.Common.{◌≡◌, Bool, true, false, cond, not, ◌&&◌, ◌||◌, List, [], ◌∷◌, refl, ap}
use Rattle.dns_wire.specs.declared.codes.record_type.RecordType.TheVariants as types
use Rattle.dns_wire.specs.declared.codes.dns_class.DNSClass.{DNSClass}
use Rattle.dns_wire.specs.declared.codes.dns_class.DNSClass.TheVariants as classes
use Rattle.dns_names.specs.Name.{DomainName}
use Rattle.dns_data.specs.rdata.{same_data}
use Rattle.dns_records.specs.declared.row.Row.{Row}
use Rattle.dns_records.specs.Record.{Record}
use Rattle.dns_records.specs.RecordSet.{put, record_data}
use Rattle.dns_records.specs.Rows.{Rows, key_of, row_of, rows_of, set_of, with_set}
use Rattle.dns_updates.specs.Change.{change_of_class, is_put, with_row, succeeds_soa}
use Rattle.dns_updates.specs.Records.{has_rows_but, has_set, is_of_type}

put_by : {A B : Type 0} (alias soa present x y : Bool) (rows : A) (f : B → A) (z w : B) → (not (alias || soa) && not present) ≡ true
    → cond (cond alias x (present || (soa && y))) rows (f (cond (alias || soa) z w)) ≡ f w
put_by false false false x y rows f z w e = refl
put_by false false true x y rows f z w e = absurd (cc)
put_by false true present x y rows f z w e = absurd (cc)
put_by true soa present x y rows f z w e = absurd (cc)

pub puts : (origin : DomainName) (rows : Rows) (c : DNSClass) (r : Record) → is_put rows c r ≡ true
    → change_of_class origin rows c r ≡ with_set rows (key_of r) (with_row (set_of rows r) (row_of r))
puts origin rows classes.IN r e =
    put_by (is_of_type types.CNAME r) (is_of_type types.SOA r) (has_set rows r.name types.CNAME) (has_rows_but rows r.name types.CNAME)
    (not (succeeds_soa (set_of rows r) r)) rows (with_set rows (key_of r)) (row_of r ∷ []) (with_row (set_of rows r) (row_of r)) e
puts origin rows other r e = absurd (cc)

-- the rows of records with one that is put
pub put_rows : (xs : List Record) (r : Record) → rows_of (put record_data xs r) ≡ with_row (rows_of xs) (row_of r)
put_rows [] r = refl
put_rows (x ∷ xs) r = by (same_data x.rdata r.rdata) (put_rows xs r)
  where
    by : (b : Bool) → rows_of (put record_data xs r) ≡ with_row (rows_of xs) (row_of r)
        → rows_of (cond b (r ∷ xs) (x ∷ put record_data xs r)) ≡ cond b (row_of r ∷ rows_of xs) (row_of x ∷ with_row (rows_of xs) (row_of r))
    by true e = refl
    by false e = ap (λ (rows : List Row). row_of x ∷ rows) e
