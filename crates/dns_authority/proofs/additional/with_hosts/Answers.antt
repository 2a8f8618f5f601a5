use Rattle.std.proofs.Common.{◌+◌, ◌∙◌, List, drop, ap, arith, sym}
use Rattle.dns_records.specs.Record.{Record}
use Rattle.dns_authority.specs.Additional.{rows_by, with_hosts}
use Rattle.dns_authority.proofs.AdditionalLaws.{next_host, no_record}
use Rattle.dns_authority.proofs.additional.with_hosts.Goals as goal

pub loop-record-preserved : goal.loop-record-preserved
loop-record-preserved c =
    let rows_for = rows_by c.args.kind c.args.zones.now in
    ap (λ (all : List Record). with_hosts rows_for c.args.answers.now all (drop (c.loop-record.record-index + 1) c.args.naming.now)) c.in_ok-all.ensures
    ∙ next_host rows_for c.args.answers.now c.args.naming.now c.loop-record.all c.loop-record.record-index c.record-item.result (omega arith) c.record-item.is
    ∙ c.loop-record.invariant

pub returns : goal.returns
returns c =
    sym (no_record (rows_by c.args.kind c.args.zones.now) c.args.answers.now c.args.naming.now c.loop-record.all c.loop-record.record-index (omega arith))
    ∙ c.loop-record.invariant
