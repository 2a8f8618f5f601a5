use Rattle.std.proofs.Common.{◌+◌, ◌∙◌, List, drop, ap, arith, sym}
use Rattle.dns_records.specs.Record.{Record}
use Rattle.dns_authority.specs.Additional.{rows_by, with_hosts}
use Rattle.dns_authority.proofs.AdditionalLaws.{next_host, no_record}
use Rattle.dns_authority.proofs.section.Section.with_hosts.Goals as goal

pub loop-record-preserved : goal.loop-record-preserved
loop-record-preserved c = λ answers is.
    let rows_for = rows_by c.args.kind c.args.zones.now in
    let was = c.loop-record.invariant answers is in
    let grown = c.in_ok-section.ensures answers was.1 in (
      ap (λ (all : List Record). with_hosts rows_for answers all (drop (c.loop-record.record-index + 1) c.args.naming.now)) grown.0
          ∙ next_host rows_for answers c.args.naming.now c.loop-record.section.records c.loop-record.record-index c.record-item.result (omega arith) c.record-item.is
          ∙ was.0,
      grown.1,
    )

pub returns : goal.returns
returns c = λ answers is.
    let was = c.loop-record.invariant answers is in (
      sym (no_record (rows_by c.args.kind c.args.zones.now) answers c.args.naming.now c.loop-record.section.records c.loop-record.record-index (omega arith)) ∙ was.0,
      was.1,
    )
