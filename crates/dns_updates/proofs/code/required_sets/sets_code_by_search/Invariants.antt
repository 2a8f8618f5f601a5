use Rattle.std.proofs.Common.{◌≡◌, take, true}
use Rattle.std.specs.List.{list_all, filter}
use Rattle.dns_records.specs.Record.{Record}
use Rattle.dns_updates.specs.Records.{is_in_class}
use Rattle.dns_updates.specs.Code.{has_required}
use Rattle.dns_updates.proofs.code.required_sets.sets_code_by_search.Given as goal

abbrev pub invariant-loop-i : goal.invariant-loop-i
invariant-loop-i g l = list_all (has_required (g.Z.ZoneRows.rows l.zone) l.prerequisites) (filter (λ (r : Record). is_in_class r.dns_class) (take l.i l.prerequisites)) ≡ true
