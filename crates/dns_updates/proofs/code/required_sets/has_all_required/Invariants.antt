use Rattle.std.proofs.Common.{◌≡◌, drop, map}
use Rattle.std.specs.List.{list_all}
use Rattle.dns_records.specs.Record.{Record}
use Rattle.dns_updates.specs.Records.{is_among}
use Rattle.dns_updates.specs.Code.{required_data}
use Rattle.dns_updates.proofs.code.required_sets.has_all_required.Given as goal

abbrev pub invariant-loop-prerequisite : goal.invariant-loop-prerequisite
invariant-loop-prerequisite l = list_all (is_among (map (λ (r : Record). r.rdata) l.records)) (required_data (drop l.prerequisite-index l.prerequisites) l.resource_record) ≡ list_all (is_among (map (λ (r : Record). r.rdata) l.records)) (required_data l.prerequisites l.resource_record)
