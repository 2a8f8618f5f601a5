use Rattle.std.proofs.Common.{drop}
use Rattle.std.specs.List.{AllByRecursion}
use Rattle.dns_messages.specs.Sound.{IsSoundIn}
use Rattle.dns_message_bytes.proofs.soundness.record.are_sound_in.Given as goal

-- those that are left are sound exactly if all are
abbrev pub invariant-loop-resource_record : goal.invariant-loop-resource_record
invariant-loop-resource_record l = record {
  back : AllByRecursion (IsSoundIn l.is_update) (drop l.resource_record-index l.records) → AllByRecursion (IsSoundIn l.is_update) l.records;
  forth : AllByRecursion (IsSoundIn l.is_update) l.records → AllByRecursion (IsSoundIn l.is_update) (drop l.resource_record-index l.records);
}
