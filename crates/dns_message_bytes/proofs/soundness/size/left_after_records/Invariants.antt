use Rattle.std.proofs.Common.{◌≡◌, ◌+◌, drop}
use Rattle.dns_messages.specs.Cut.{items_len, record_item}
use Rattle.dns_message_bytes.proofs.soundness.size.left_after_records.Given as goal

-- what is left has room for the records that are left exactly if there was room for all
abbrev pub invariant-loop-resource_record : goal.invariant-loop-resource_record
invariant-loop-resource_record l = l.left + items_len record_item l.records ≡ l.fn.left + items_len record_item (drop l.resource_record-index l.records)
