use Rattle.std.proofs.Common.{◌≡◌, drop, List}
use Rattle.dns_records.specs.Record.{Record}
use Rattle.dns_authority.specs.Additional.{rows_by, with_hosts}
use Rattle.dns_authority.specs.SetIndex.{IsIndexOf}
use Rattle.dns_authority.proofs.section.Section.with_hosts.Given as goal

abbrev pub invariant-loop-record : goal.invariant-loop-record
invariant-loop-record l = (answers : List Record) → IsIndexOf l.fn.self.index answers l.fn.self.records
    → (with_hosts (rows_by l.kind l.zones) answers l.section.records (drop l.record-index l.naming)
    ≡ with_hosts (rows_by l.kind l.zones) answers l.fn.self.records l.naming)
    × IsIndexOf l.section.index answers l.section.records
