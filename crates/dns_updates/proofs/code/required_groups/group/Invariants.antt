use Rattle.std.proofs.Common.{◌≡◌, take}
use Rattle.dns_records.specs.Record.{Record}
use Rattle.dns_updates.specs.Code.{required_data}
use Rattle.dns_updates.specs.internal.Required.{all_data_at, record_place}
use Rattle.dns_updates.proofs.code.required_groups.group.Given as goal

abbrev pub invariant-loop-prerequisite : goal.invariant-loop-prerequisite
invariant-loop-prerequisite l = (r : Record) → all_data_at l.groups (record_place r) ≡ required_data (take l.prerequisite-index l.prerequisites) r
