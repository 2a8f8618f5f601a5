-- The records that changed sets delete from a zone, and those that they add to it.
use Rattle.std.specs.Prelude.{◌==◌, if◌then◌else◌, find, not, map, Bool, true, List, [], ◌∷◌, ℕ, Option, None, Some}
use Rattle.std.specs.Borrow.{Bor}
use Rattle.std.specs.List.{filter, list_any}
use Rattle.std.specs.Ordering.{is_eq, nat_cmp, ordering_then}
use Rattle.dns_data.specs.declared.rdata.RData.{RData}
use Rattle.dns_data.specs.rdata.{same_data}
use Rattle.dns_data.specs.rdata.Order.{data_cmp}
use Rattle.dns_differences.specs.Difference.{has_row}
use Rattle.dns_names.specs.Name.{DomainName}
use Rattle.dns_records.specs.Record.{Record}
use Rattle.dns_records.specs.declared.row.Row.{Row}
use Rattle.dns_updates.specs.declared.changes.changed_set.ChangedSet.{ChangedSet}
use Rattle.dns_zone.specs.Answer.{record_of}
use Rattle.dns_zone.specs.Rows.{Rows, row_of, rows_at, rows_of}

-- a name that is fully qualified
abbrev pub qualified : DomainName → DomainName
qualified name = record name { is_fqdn = true }

-- the owner of a changed set
abbrev pub owner_of : ChangedSet → DomainName
owner_of c = qualified c.name

-- the rows that a zone has at the place of a changed set
abbrev pub rows_before : Rows → ChangedSet → List Row
rows_before rows c = rows_at rows c.name.labels c.record_type

-- the rows that others lack
abbrev pub rows_lacking : List Row → List Row → List Row
rows_lacking others rows = filter (λ row. not (has_row others row)) rows

-- the records that a changed set deletes: those of the zone that it lacks
abbrev pub records_deleted : Rows → ChangedSet → List Record
records_deleted rows c = map (record_of (owner_of c)) (rows_lacking (rows_of c.records) (rows_before rows c))

-- the records that a changed set adds: those that the zone lacks
abbrev pub records_added : Rows → ChangedSet → List Record
records_added rows c = map (record_of (owner_of c)) (rows_lacking (rows_before rows c) (rows_of c.records))

-- ---- a row that is put into a set

-- the row that is replaced: one of equal data with another TTL
abbrev pub replaced_by : Option Row → Row → List Row
replaced_by None row = []
replaced_by (Some old) row = if old.ttl == row.ttl then [] else old ∷ []

-- the row that is added: it is new, or has another TTL than the row of equal data
abbrev pub put_by : Option Row → Row → List Row
put_by None row = row ∷ []
put_by (Some old) row = if old.ttl == row.ttl then [] else row ∷ []

-- the row that is replaced, by the rows of the set
abbrev pub rows_replaced : List Row → Row → List Row
rows_replaced rows row = replaced_by (find (λ (x : Row). same_data x.rdata row.rdata) rows) row

-- and the row that is added
abbrev pub rows_put : List Row → Row → List Row
rows_put rows row = put_by (find (λ (x : Row). same_data x.rdata row.rdata) rows) row

-- ---- an index of rows

-- the rows of records that are lent
abbrev pub lent_rows : List (Bor Record) → List Row
lent_rows lent = map (λ r. row_of r.now) lent

-- whether an index has a row
abbrev pub has_entry : List (ℕ × Bor RData) → Row → Bool
has_entry keys row = list_any (λ k. is_eq (ordering_then (nat_cmp row.ttl k.0) (data_cmp row.rdata k.1.now))) keys
