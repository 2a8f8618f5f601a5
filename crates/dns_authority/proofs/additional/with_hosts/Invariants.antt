use Rattle.std.proofs.Common.{◌≡◌, drop}
use Rattle.dns_authority.specs.Additional.{rows_by, with_hosts}
use Rattle.dns_authority.proofs.additional.with_hosts.Given as goal

abbrev pub invariant-loop-record : goal.invariant-loop-record
invariant-loop-record l =
    with_hosts (rows_by l.kind l.zones) l.answers l.all (drop l.record-index l.naming)
    ≡ with_hosts (rows_by l.kind l.zones) l.answers l.fn.records l.naming
