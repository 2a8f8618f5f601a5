use Rattle.std.proofs.Common.{◌≡◌, take, true}
use Rattle.std.specs.List.{filter, list_all}
use Rattle.dns_records.specs.Record.{Record}
use Rattle.dns_updates.specs.Code.{has_required}
use Rattle.dns_updates.specs.Records.{is_in_class}
use Rattle.dns_updates.specs.internal.Required.{AreLeft}
use Rattle.dns_updates.proofs.code.required_groups.sets_code_by_groups.Given as goal

abbrev pub invariant-loop-prerequisite : goal.invariant-loop-prerequisite
invariant-loop-prerequisite g l =
    AreLeft (g.Z.ZoneRows.rows l.zone) l.prerequisites l.groups
    × (list_all (has_required (g.Z.ZoneRows.rows l.zone) l.prerequisites) (filter (λ (r : Record). is_in_class r.dns_class) (take l.prerequisite-index l.prerequisites)) ≡ true)
