-- Records that are the same ones of a zone.
use Rattle.std.proofs.Common.{◌≡◌, ◌∙◌, Bool, true, false, ◌&&◌, ◌||◌, List, [], ◌∷◌, refl, sym, ap, subst, unwrap_or}
use Rattle.std.proofs.Common.{Ordering, Less, Equal, Greater}
use Rattle.std.specs.Cmp.{IsEquivalence, IsTotalOrder, and_equiv, on_equiv, eq_by_cmp_equiv, nat_eq_equiv, then_total, on_total, nat_cmp_total}
use Rattle.std.specs.Cmp.Lexicographic.{lists_total, nat_list_cmp_total}
use Rattle.std.specs.FinMap as rows_map
use Rattle.std.specs.FinMap.{IsAntisymmetric, slice_cmp-IsAntisymmetric, nat_cmp-IsAntisymmetric}
use Rattle.std.specs.Ordering.{eq_by_cmp, is_eq, ordering_then}
use Rattle.dns_data.specs.internal.DataOrder.{data_cmp-total, data_tie}
use Rattle.dns_data.specs.rdata.{same_data}
use Rattle.dns_records.specs.Record.{Record}
use Rattle.dns_records.specs.Rows.{Key, Rows, key_cmp, key_of, row_of}
use Rattle.dns_records.specs.declared.row.Row.{Row}
use Rattle.dns_differences.specs.Difference.{has_row, in_zone, is_among, same_in_zone, same_row}

pub two : (a b : Bool) → (a && b) ≡ true → (a ≡ true) × (b ≡ true)
two true b e = (refl, e)
two false b e = absurd (cc)

-- ---- keys

pub key_total : IsTotalOrder key_cmp
key_total = then_total (on_total (λ (k : Key). k.0) (lists_total nat_list_cmp_total)) (on_total (λ (k : Key). k.1) nat_cmp_total)

both_equal : (a b : Ordering) → ordering_then a b ≡ Equal → (a ≡ Equal) × (b ≡ Equal)
both_equal Less b e = absurd (cc)
both_equal Equal b e = (refl, e)
both_equal Greater b e = absurd (cc)

pub key_antisymmetric : IsAntisymmetric key_cmp
key_antisymmetric x y e =
    let p = both_equal _ _ e in
    let a = slice_cmp-IsAntisymmetric (slice_cmp-IsAntisymmetric nat_cmp-IsAntisymmetric) x.0 y.0 p.0 in
    let b = nat_cmp-IsAntisymmetric x.1 y.1 p.1 in
    λ i. (a i, b i)

is_eq-true : (r : Ordering) → is_eq r ≡ true → r ≡ Equal
is_eq-true Less e = absurd (cc)
is_eq-true Equal e = refl
is_eq-true Greater e = absurd (cc)

pub same_key : (x y : Key) → eq_by_cmp key_cmp x y ≡ true → x ≡ y
same_key x y e = key_antisymmetric x y (is_eq-true (key_cmp x y) e)

-- ---- records

data_equiv : IsEquivalence same_data
data_equiv = subst IsEquivalence (λ i x y. sym (data_tie x y) i) (eq_by_cmp_equiv data_cmp-total)

pub row_equiv : IsEquivalence same_row
row_equiv = and_equiv (on_equiv (λ (r : Row). r.ttl) nat_eq_equiv) (on_equiv (λ (r : Row). r.rdata) data_equiv)

pub record_equiv : IsEquivalence same_in_zone
record_equiv = and_equiv (on_equiv key_of (eq_by_cmp_equiv key_total)) (on_equiv row_of row_equiv)

-- the same record is found
pub alike : (records : List Record) (x r : Record) → same_in_zone x r ≡ true → is_among records x ≡ is_among records r
alike [] x r e = refl
alike (o ∷ os) x r e =
    λ i. (record_equiv.symm o x ∙ record_equiv.congr x r o e ∙ record_equiv.symm r o) i || alike os x r e i

rows_alike : (rows : List Row) (x r : Row) → same_row x r ≡ true → has_row rows x ≡ has_row rows r
rows_alike [] x r e = refl
rows_alike (o ∷ os) x r e =
    λ i. (row_equiv.symm o x ∙ row_equiv.congr x r o e ∙ row_equiv.symm r o) i || rows_alike os x r e i

pub zones_alike : (rows : Rows) (x r : Record) → same_in_zone x r ≡ true → in_zone rows x ≡ in_zone rows r
zones_alike rows x r e =
    let both = two (eq_by_cmp key_cmp (key_of x) (key_of r)) (same_row (row_of x) (row_of r)) e in
    ap (λ (k : Key). has_row (unwrap_or (rows_map.get rows k) []) (row_of x)) (same_key (key_of x) (key_of r) both.0)
    ∙ rows_alike (unwrap_or (rows_map.get rows (key_of r)) []) (row_of x) (row_of r) both.1
