use Rattle.std.proofs.Common.{◌≡◌, map, take}
use Rattle.std.specs.List.{flat_map}
use Rattle.dns_zone.specs.Answer.{record_of}
use Rattle.dns_zone.specs.Rows.{rows_at}
use Rattle.dns_authority.proofs.asked.sets_of_types.Given as goal

abbrev pub invariant-loop-record_type : goal.invariant-loop-record_type
invariant-loop-record_type l =
    take l.most l.records
    ≡ take l.most (map (record_of l.owner) (flat_map (rows_at l.zone.rows l.source.labels) (take l.record_type-index l.types)))
