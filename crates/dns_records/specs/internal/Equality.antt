-- Equality of records is an equivalence.
use Rattle.std.specs.Prelude.{Bool}
use Rattle.std.specs.Cmp.{IsEquivalence, IsPartialEquivalence, partial_equiv_from_equiv, and_equiv, on_equiv, nat_eq_equiv, and_per, on_per}
use Rattle.dns_wire.specs.codes.DNSClass.{class_number}
use Rattle.dns_names.specs.internal.Compare.{same_name-equivalence}
use Rattle.dns_records.specs.declared.record.Record.{Record}
use Rattle.dns_records.specs.Record.{same_record}

module _ {R : Type 0} {same_data : R → R → Bool} where
  pub same_record-partial : IsPartialEquivalence same_data → IsPartialEquivalence (same_record same_data)
  same_record-partial laws =
      and_per (on_per (λ (r : Record R). r.name) (partial_equiv_from_equiv same_name-equivalence))
      (and_per (on_per (λ (r : Record R). r.dns_class) (partial_equiv_from_equiv (on_equiv class_number nat_eq_equiv))) (on_per (λ (r : Record R). r.rdata) laws))

  pub same_record-equivalence : IsEquivalence same_data → IsEquivalence (same_record same_data)
  same_record-equivalence laws =
      and_equiv (on_equiv (λ (r : Record R). r.name) same_name-equivalence)
      (and_equiv (on_equiv (λ (r : Record R). r.dns_class) (on_equiv class_number nat_eq_equiv)) (on_equiv (λ (r : Record R). r.rdata) laws))
