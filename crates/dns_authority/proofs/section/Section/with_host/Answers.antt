use Rattle.std.proofs.Common.{◌∙◌, List, ap}
use Rattle.dns_wire.specs.declared.codes.record_type.RecordType.TheVariants as types
use Rattle.dns_records.specs.Record.{Record}
use Rattle.dns_authority.specs.Additional.{rows_by, with_set}
use Rattle.dns_authority.proofs.section.Section.with_host.Goals as goal

pub returns : goal.returns
returns c = λ answers is.
    let host = c.args.host.now in
    let first = c.in_ok-section.ensures answers is in
    let second = c.in_ok-section-2.ensures answers first.1 in (
      second.0 ∙ ap (λ (records : List Record). with_set answers records host types.AAAA (rows_by c.args.kind c.args.zones.now host types.AAAA)) first.0,
      second.1,
    )
