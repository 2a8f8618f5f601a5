use Rattle.std.proofs.Common.{◌≡◌, ◌+◌, drop}
use Rattle.std.specs.List.{position_or_len}
use Rattle.dns_records.specs.Rows.{key}
use Rattle.dns_updates.proofs.SetLaws.{tied}
use Rattle.dns_updates.proofs.zone_rows.set_list.position.Given as goal

abbrev pub invariant-loop-i : goal.invariant-loop-i
invariant-loop-i l = l.i + position_or_len (tied (key l.owner.labels l.record_type)) (drop l.i l.sets) ≡ position_or_len (tied (key l.owner.labels l.record_type)) l.sets
