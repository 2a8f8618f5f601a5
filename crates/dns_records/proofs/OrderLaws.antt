-- The order of records is total, and says when each part compares equal.
use Rattle.std.proofs.Common.{◌≡◌, ℕ, refl, sym}
use Rattle.std.specs.Prelude.{◌↔◌}
use Rattle.std.specs.declared.cmp.Ordering.{Ordering}
use Rattle.std.specs.declared.cmp.Ordering.TheVariants.{Less, Equal, Greater}
use Rattle.std.specs.Ordering.{nat_cmp, ordering_then}
use Rattle.std.specs.Cmp.{IsTotalOrder, then_total, on_total, nat_cmp_total, ranked, nat_cmp_is}
use Rattle.dns_wire.specs.codes.DNSClass.{class_number}
use Rattle.dns_wire.specs.codes.RecordType.{type_number}
use Rattle.dns_data.specs.declared.rdata.RData.{RData}
use Rattle.dns_data.specs.rdata.{data_type}
use Rattle.dns_names.specs.Compare.{name_cmp}
use Rattle.dns_names.specs.internal.Compare.{name_cmp-total}
use Rattle.dns_records.specs.declared.record.Record.{Record}
use Rattle.dns_records.specs.Record.{record_cmp}

-- ---- one comparison after another

both : (a b : Ordering) → ordering_then a b ≡ Equal → (a ≡ Equal) × (b ≡ Equal)
both Less b e = absurd (cc)
both Equal b e = (refl, e)
both Greater b e = absurd (cc)

number : (x y : ℕ) → nat_cmp x y ≡ Equal → x ≡ y
number x y e = ranked x y Equal (sym e)

-- ---- records

module _ {R : Type 0} (rdata : R → RData) (rdata_cmp : R → R → Ordering) where
  pub record_cmp-total : IsTotalOrder rdata_cmp → IsTotalOrder (record_cmp rdata rdata_cmp)
  record_cmp-total total =
      then_total (on_total (λ (r : Record R). r.name) name_cmp-total)
      (then_total (on_total (λ (r : Record R). type_number (data_type (rdata r.rdata))) nat_cmp_total)
      (then_total (on_total (λ (r : Record R). class_number r.dns_class) nat_cmp_total)
      (then_total (on_total (λ (r : Record R). r.ttl) nat_cmp_total) (on_total (λ (r : Record R). r.rdata) total))))

  -- each part compares equal
  abbrev pub AreTied : Record R → Record R → Type 0
  AreTied x y =
      (name_cmp x.name y.name ≡ Equal)
      × (type_number (data_type (rdata x.rdata)) ≡ type_number (data_type (rdata y.rdata)))
      × (class_number x.dns_class ≡ class_number y.dns_class)
      × (x.ttl ≡ y.ttl)
      × (rdata_cmp x.rdata y.rdata ≡ Equal)

  tied : (x y : Record R) → record_cmp rdata rdata_cmp x y ≡ Equal → AreTied x y
  tied x y e =
      let types : Ordering = nat_cmp (type_number (data_type (rdata x.rdata))) (type_number (data_type (rdata y.rdata))) in
      let classes : Ordering = nat_cmp (class_number x.dns_class) (class_number y.dns_class) in
      let ttls : Ordering = nat_cmp x.ttl y.ttl in
      let datas : Ordering = rdata_cmp x.rdata y.rdata in
      let first = both (name_cmp x.name y.name) (ordering_then types (ordering_then classes (ordering_then ttls datas))) e in
      let second = both types (ordering_then classes (ordering_then ttls datas)) first.1 in
      let third = both classes (ordering_then ttls datas) second.1 in
      let last = both ttls datas third.1 in
      (first.0, number _ _ second.0, number _ _ third.0, number x.ttl y.ttl last.0, last.1)

  ties : (x y : Record R) → AreTied x y → record_cmp rdata rdata_cmp x y ≡ Equal
  ties x y (names, types, classes, ttls, datas) = λ i.
      ordering_then (names i)
      (ordering_then (sym (nat_cmp_is _ _ Equal types) i)
      (ordering_then (sym (nat_cmp_is _ _ Equal classes) i)
      (ordering_then (sym (nat_cmp_is x.ttl y.ttl Equal ttls) i) (datas i))))

  pub parts_tie : (x y : Record R) → (record_cmp rdata rdata_cmp x y ≡ Equal) ↔ AreTied x y
  parts_tie x y = (tied x y, ties x y)
