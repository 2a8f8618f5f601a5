-- Borrowed records.
use Rattle.dns_records.specs.declared.record.Record.{Record}
use Rattle.dns_records.specs.declared.record_ref.RecordRef.{RecordRef}

-- the record that is borrowed
abbrev pub borrowed_record : {R : Type 0} → RecordRef R → Record R
borrowed_record r = record {
  name = r.name.now;
  dns_class = r.dns_class;
  ttl = r.ttl;
  rdata = r.rdata.now;
}
