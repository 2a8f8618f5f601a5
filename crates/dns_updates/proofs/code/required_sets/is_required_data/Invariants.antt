use Rattle.std.proofs.Common.{◌≡◌, drop}
use Rattle.dns_updates.specs.Records.{is_among}
use Rattle.dns_updates.specs.Code.{required_data}
use Rattle.dns_updates.proofs.code.required_sets.is_required_data.Given as goal

abbrev pub invariant-loop-prerequisite : goal.invariant-loop-prerequisite
invariant-loop-prerequisite l = is_among (required_data (drop l.prerequisite-index l.prerequisites) l.resource_record) l.rdata ≡ is_among (required_data l.prerequisites l.resource_record) l.rdata
