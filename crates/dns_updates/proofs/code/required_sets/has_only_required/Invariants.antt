use Rattle.std.proofs.Common.{◌≡◌, drop, map}
use Rattle.std.specs.List.{list_all}
use Rattle.dns_records.specs.Record.{Record}
use Rattle.dns_updates.specs.Records.{is_among}
use Rattle.dns_updates.specs.Code.{required_data}
use Rattle.dns_updates.proofs.code.required_sets.has_only_required.Given as goal

abbrev pub invariant-loop-present : goal.invariant-loop-present
invariant-loop-present l = list_all (is_among (required_data l.prerequisites l.resource_record)) (map (λ (r : Record). r.rdata) (drop l.present-index l.records)) ≡ list_all (is_among (required_data l.prerequisites l.resource_record)) (map (λ (r : Record). r.rdata) l.records)
