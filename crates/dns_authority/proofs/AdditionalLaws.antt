-- The hosts that records name, one after another.
use Rattle.std.proofs.Common.{◌≡◌, ◌+◌, ◌<◌, ◌≤◌, ℕ, List, length, drop, get_or, sym, ap, ◌∙◌}
use Rattle.std.proofs.lemmas.List.{drop_all, drop_more}
use Rattle.dns_names.specs.Name.{DomainName}
use Rattle.dns_wire.specs.declared.codes.record_type.RecordType.{RecordType}
use Rattle.dns_records.specs.Record.{Record}
use Rattle.dns_records.specs.declared.row.Row.{Row}
use Rattle.dns_authority.specs.Additional.{host_of, with_host_of, with_hosts}

module _ (rows_for : DomainName → RecordType → List Row) (answers : List Record) where
  -- the host of the next record
  pub next_host : (naming all : List Record) (i : ℕ) (r : Record) → i < length naming → r ≡ get_or naming i r
      → with_hosts rows_for answers (with_host_of rows_for answers all (host_of r.rdata)) (drop (i + 1) naming) ≡ with_hosts rows_for answers all (drop i naming)
  next_host naming all i r below at =
      ap (λ (x : Record). with_hosts rows_for answers (with_host_of rows_for answers all (host_of x.rdata)) (drop (i + 1) naming)) at
      ∙ ap (with_hosts rows_for answers all) (sym (drop_more naming i r below))

  -- there is no further record
  pub no_record : (naming all : List Record) (i : ℕ) → length naming ≤ i → with_hosts rows_for answers all (drop i naming) ≡ all
  no_record naming all i end = ap (with_hosts rows_for answers all) (drop_all i naming end)
